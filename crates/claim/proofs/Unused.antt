-- Places above the last number given decide no answer and are not written: over specs/Unused.antt. Assumes nothing.
-- Here, and not in specs/, so that a wrong definition is refused by the first theorem that it breaks, and not by those that rest on it.
use Rattle.std.specs.Prelude.{ℕ, zero, suc, ◌-◌, ◌≡◌, Bool, not, ◌&&◌, List, [], ◌∷◌}
use Rattle.std.proofs.Math.Path.{refl, ap}
use Rattle.std.proofs.Common.{sym, subst, ◌∙◌, arith}
use Rattle.std.proofs.Math.Bool.{true, false}
use Rattle.rules.specs.Tests.{pick, within_true}
use Rattle.rules.specs.Orders.{Rule}
use Rattle.rules.specs.Calls.{in_range}
use Rattle.rules.specs.Refusals.{unsound_number, out_of_range_number, not_given_number, unless_refused, answered}
use Rattle.rules.specs.Lists.{fill_rules, cancel_rules}
use Rattle.rules.specs.declared.money.Mils.{Mils}
use Rattle.rules.specs.declared.kinds.Money.{Money}
use Rattle.rules.specs.declared.calls.Call.{Call}
use Rattle.rules.specs.declared.calls.Call.TheVariants.{Enrol, Attach, Detach, Regular, Raise, Withdraw, OwnQuota, Order, Fill, Cancel, Close}
use Rattle.rules.specs.declared.calls.Answer.{Answer}
use Rattle.quota.specs.Asks.{groups_enrolled, group_of_unit}
use Rattle.quota.specs.Calls.{enrol_refusal, enrol_after, attach_refusal, attach_after, detach_refusal, detach_after, regular_refusal, regular_after, raise_refusal, raise_after, withdraw_refusal, withdraw_after, own_quota_refusal, own_quota_after, close_refusal, load_refusal, load_after}
use Rattle.history.specs.Runs.{Entry, Called, Loaded}
use Rattle.book.specs.declared.places.Place.{Place}
use Rattle.book.specs.Layout.{accepted_of, no_money, money_at, put_money, place_at, put_open}
use Rattle.book.specs.Check.{book_ok}
use Rattle.book.specs.Known.{book_known}
use Rattle.book.specs.Laws.{accepted_of_put, accepted_of_closed}
use Rattle.book.specs.Alike.{AlikeBelow, place-below, put-place-below, put_open_below}
use Rattle.orders.specs.Host.{host_ok, is_given, named_ok}
use Rattle.orders.specs.Clear.{PlaceClear}
use Rattle.orders.specs.Booking.{filled_money, cancelled_money}
use Rattle.orders.specs.Calls.{order_refusal, order_answer, order_book, order_places, fill_refusal, fill_book, fill_places, cancel_refusal, cancel_book, cancel_places, closed_book, fill_booked, cancel_booked}
use Rattle.orders.specs.Kept.{order-refused, order-accepted, order_kept, fill-refused, fill-accepted, fill_kept, cancel-refused, cancel-accepted, cancel_kept}
use Rattle.claim.specs.Step.{Memory, memory, book_sound, on_register, enrolled_book, enrolling, closing_sound, step, step_entry}
use Rattle.claim.specs.Demand.{run_all, answers_of_all}
use Rattle.claim.specs.Unused.{SameGiven, Alike, RunsAlike, split, is_zero}

-- a number that was not given: 1, 2 or 18, whatever the booking would say
abbrev not_given : Bool → Bool → ℕ
not_given ok ranges = pick (not (ok && true)) unsound_number (pick (not ranges) out_of_range_number not_given_number)

not_given-same : (ok ranges : Bool) (x y : ℕ) → unless_refused (not_given ok ranges) x (not_given ok ranges) ≡ unless_refused (not_given ok ranges) y (not_given ok ranges)
not_given-same false ranges x y = refl
not_given-same true false x y = refl
not_given-same true true x y = refl

module _ (rs bs ps qs : List ℕ) (a : AlikeBelow (accepted_of bs) ps qs) where
  -- the host's check looks at how many places are lent, and at none of them
  host_same : host_ok rs bs ps ≡ host_ok rs bs qs
  unfolding host_ok book_ok
  host_same = rw a.lengths

  sound_same : book_sound (memory rs bs ps) ≡ book_sound (memory rs bs qs)
  unfolding book_sound book_ok
  sound_same = rw a.lengths

  place-given : (k : ℕ) → is_given bs k ≡ true → place_at ps k ≡ place_at qs k
  place-given k g = let h = within_true 1 (accepted_of bs) k g in place-below (accepted_of bs) ps qs k a h.0 h.1

  order-refusal-same : (rule : Rule) (unit kind : ℕ) (price : Mils) (quantity : ℕ) → order_refusal rule rs bs ps unit kind price quantity ≡ order_refusal rule rs bs qs unit kind price quantity
  unfolding order_refusal
  order-refusal-same rule unit kind price quantity = rw host_same

  -- 18 comes before what is read of the place
  fill-refusal-same : (k : ℕ) (price : Mils) (quantity : ℕ) → fill_refusal rs bs ps k price quantity ≡ fill_refusal rs bs qs k price quantity
  unfolding fill_refusal named_ok fill_rules
  fill-refusal-same k price quantity = go (is_given bs k) refl
    where
      go : (g : Bool) → is_given bs k ≡ g → fill_refusal rs bs ps k price quantity ≡ fill_refusal rs bs qs k price quantity
      go true e = rw (host_same, place-given k e)
      go false e =
          rw (host_same, e)
          (not_given-same (host_ok rs bs qs) (in_range (Fill k price quantity)) (pick (not (fill_booked bs ps k price quantity).ok) unsound_number 0) (pick (not (fill_booked bs qs k price quantity).ok) unsound_number 0))

  cancel-refusal-same : (k : ℕ) → cancel_refusal rs bs ps k ≡ cancel_refusal rs bs qs k
  unfolding cancel_refusal named_ok cancel_rules
  cancel-refusal-same k = go (is_given bs k) refl
    where
      go : (g : Bool) → is_given bs k ≡ g → cancel_refusal rs bs ps k ≡ cancel_refusal rs bs qs k
      go true e = rw (host_same, place-given k e)
      go false e =
          rw (host_same, e)
          (not_given-same (host_ok rs bs qs) (in_range (Cancel k)) (pick (not (cancel_booked bs ps k).ok) unsound_number 0) (pick (not (cancel_booked bs qs k).ok) unsound_number 0))

  -- ---- a step of each call

  -- memories with another register and another book, of which as many orders were accepted
  with_book : (rs' bs' : List ℕ) → accepted_of bs' ≡ accepted_of bs → SameGiven (memory rs' bs' ps) (memory rs' bs' qs)
  with_book rs' bs' e = record { register = refl; book = refl; places = rw e a }

  on_register_lem : (answer : Answer) (rs' : List ℕ) → Alike (on_register (memory rs bs ps) answer rs') (on_register (memory rs bs qs) answer rs')
  on_register_lem answer rs' =
      split (book_sound (memory rs bs qs))
      (λ e. rw (sound_same, e) (record { answer = refl; left = with_book rs' bs refl }))
      (λ e. rw (sound_same, e) (record { answer = refl; left = with_book rs bs refl }))

  enrol_alike : (code class : ℕ) → Alike (enrolling (memory rs bs ps) code class) (enrolling (memory rs bs qs) code class)
  enrol_alike code class =
      split (book_sound (memory rs bs qs))
      (λ e. rw (sound_same, e) (record { answer = refl; left = with_book (enrol_after rs code class) (enrolled_book rs bs code class) (go (enrol_refusal rs code class)) }))
      (λ e. rw (sound_same, e) (record { answer = refl; left = with_book rs bs refl }))
    where
      go : (r : ℕ) → accepted_of (unless_refused r (put_money bs (groups_enrolled rs) no_money) bs) ≡ accepted_of bs
      go zero = accepted_of_put bs (groups_enrolled rs) no_money
      go (suc r) = refl

  -- after the close no number is given
  closed_none : book_sound (memory rs bs qs) ≡ true → accepted_of (closed_book bs) ≡ 0
  unfolding book_sound closed_book
  closed_none e = accepted_of_closed bs (book_known bs qs (groups_enrolled rs) e).book-length

  close_alike : Alike (closing_sound (memory rs bs ps)) (closing_sound (memory rs bs qs))
  close_alike =
      split (book_sound (memory rs bs qs))
      (λ e. go e (close_refusal rs) refl)
      (λ e. rw (sound_same, e) (record { answer = refl; left = with_book rs bs refl }))
    where
      go : book_sound (memory rs bs qs) ≡ true → (r : ℕ) → close_refusal rs ≡ r → Alike (closing_sound (memory rs bs ps)) (closing_sound (memory rs bs qs))
      go e zero z =
          rw (sound_same, e, z)
          (record {
            answer = refl;
            left = record { register = refl; book = refl; places = rw (closed_none e) (record { lengths = a.lengths; words = λ i o. absurd (omega arith) }) };
          })
      go e (suc r) z = rw (sound_same, e, z) (record { answer = refl; left = with_book rs bs refl })

  order_alike : (rule : Rule) (unit kind : ℕ) (price : Mils) (quantity : ℕ) → Alike (step rule (memory rs bs ps) (Order unit kind price quantity)) (step rule (memory rs bs qs) (Order unit kind price quantity))
  unfolding step order_answer order_book
  order_alike rule unit kind price quantity = record {
    answer = rw (order-refusal-same rule unit kind price quantity);
    left = record { register = refl; book = rw (order-refusal-same rule unit kind price quantity); places = places };
  }
    where
      p : Place
      p = record { group = group_of_unit rs unit; kind = kind; price = price; «open» = quantity }

      places : AlikeBelow (accepted_of (order_book rule rs bs ps unit kind price quantity)) (order_places rule rs bs ps unit kind price quantity) (order_places rule rs bs qs unit kind price quantity)
      places =
          is_zero (order_refusal rule rs bs ps unit kind price quantity)
          (λ z.
          let k = order_kept rule rs bs ps unit kind price quantity z in
          let x = order-accepted rule rs bs ps unit kind price quantity z in
          let y = order-accepted rule rs bs qs unit kind price quantity (sym (order-refusal-same rule unit kind price quantity) ∙ z) in
          rw (k.changed.accepted_is, x.1, y.1)
          (put-place-below (accepted_of bs) ps qs a p
          (omega (arith, k.clear.room, k.clear.host.book.places-high))
          (omega (arith, k.clear.room, k.clear.host.book.places-length, a.lengths))))
          (λ d.
          let x = order-refused rule rs bs ps unit kind price quantity d in
          let y = order-refused rule rs bs qs unit kind price quantity (λ z. d (order-refusal-same rule unit kind price quantity ∙ z)) in
          rw (x.0, x.1, y.1) a)

  -- the open quantity of an order that was given, and a group's money
  named_below : (k q g : ℕ) (m : Money) → PlaceClear rs bs ps k → AlikeBelow (accepted_of (put_money bs g m)) (put_open ps k q) (put_open qs k q)
  named_below k q g m c =
      rw (accepted_of_put bs g m)
      (put_open_below (accepted_of bs) ps qs a k q c.number-low c.number-high
      (omega (arith, c.host.book.accepted_most, c.host.book.places-high))
      (omega (arith, c.host.book.accepted_most, c.host.book.places-length, a.lengths)))

  fill_alike : (rule : Rule) (k : ℕ) (price : Mils) (quantity : ℕ) → Alike (step rule (memory rs bs ps) (Fill k price quantity)) (step rule (memory rs bs qs) (Fill k price quantity))
  unfolding step
  fill_alike rule k price quantity = record {
    answer = ap answered (fill-refusal-same k price quantity);
    left = record { register = refl; book = left.0; places = left.1 };
  }
    where
      left : (fill_book rs bs ps k price quantity ≡ fill_book rs bs qs k price quantity)
          × AlikeBelow (accepted_of (fill_book rs bs ps k price quantity)) (fill_places rs bs ps k price quantity) (fill_places rs bs qs k price quantity)
      left =
          is_zero (fill_refusal rs bs ps k price quantity)
          (λ z.
          let c = (fill_kept rs bs ps k price quantity z).clear.named in
          let x = fill-accepted rs bs ps k price quantity z in
          let y = fill-accepted rs bs qs k price quantity (sym (fill-refusal-same k price quantity) ∙ z) in
          let p = place_at qs k in
          rw (x.0, x.1, y.0, y.1, place-given k c.given)
          (refl, named_below k (p.«open» - quantity) p.group (filled_money (money_at bs p.group) p price quantity) c))
          (λ d.
          let x = fill-refused rs bs ps k price quantity d in
          let y = fill-refused rs bs qs k price quantity (λ z. d (fill-refusal-same k price quantity ∙ z)) in
          rw (x.0, x.1, y.0, y.1) (refl, a))

  cancel_alike : (rule : Rule) (k : ℕ) → Alike (step rule (memory rs bs ps) (Cancel k)) (step rule (memory rs bs qs) (Cancel k))
  unfolding step
  cancel_alike rule k = record {
    answer = ap answered (cancel-refusal-same k);
    left = record { register = refl; book = left.0; places = left.1 };
  }
    where
      left : (cancel_book rs bs ps k ≡ cancel_book rs bs qs k) × AlikeBelow (accepted_of (cancel_book rs bs ps k)) (cancel_places rs bs ps k) (cancel_places rs bs qs k)
      left =
          is_zero (cancel_refusal rs bs ps k)
          (λ z.
          let c = (cancel_kept rs bs ps k z).clear.named in
          let x = cancel-accepted rs bs ps k z in
          let y = cancel-accepted rs bs qs k (sym (cancel-refusal-same k) ∙ z) in
          let p = place_at qs k in
          rw (x.0, x.1, y.0, y.1, place-given k c.given)
          (refl, named_below k 0 p.group (cancelled_money (money_at bs p.group) p) c))
          (λ d.
          let x = cancel-refused rs bs ps k d in
          let y = cancel-refused rs bs qs k (λ z. d (cancel-refusal-same k ∙ z)) in
          rw (x.0, x.1, y.0, y.1) (refl, a))

  step_alike : (rule : Rule) (c : Call) → Alike (step rule (memory rs bs ps) c) (step rule (memory rs bs qs) c)
  unfolding step
  step_alike rule (Enrol code class) = enrol_alike code class
  step_alike rule (Attach unit group) = on_register_lem (answered (attach_refusal rs unit group)) (attach_after rs unit group)
  step_alike rule (Detach unit) = on_register_lem (answered (detach_refusal rs unit)) (detach_after rs unit)
  step_alike rule (Regular declarer group base quota) = on_register_lem (answered (regular_refusal rs declarer group base quota)) (regular_after rs declarer group base quota)
  step_alike rule (Raise declarer group quota flag) = on_register_lem (answered (raise_refusal rs declarer group quota flag)) (raise_after rs declarer group quota flag)
  step_alike rule (Withdraw declarer group) = on_register_lem (answered (withdraw_refusal rs declarer group)) (withdraw_after rs declarer group)
  step_alike rule (OwnQuota group quota) = on_register_lem (answered (own_quota_refusal rs group quota)) (own_quota_after rs group quota)
  step_alike rule (Order unit kind price quantity) = order_alike rule unit kind price quantity
  step_alike rule (Fill order price quantity) = fill_alike rule order price quantity
  step_alike rule (Cancel order) = cancel_alike rule order
  step_alike rule Close = close_alike

  entry_alike : (rule : Rule) (e : Entry) → Alike (step_entry rule (memory rs bs ps) e) (step_entry rule (memory rs bs qs) e)
  unfolding step_entry
  entry_alike rule (Called c) = step_alike rule c
  entry_alike rule (Loaded f) = on_register_lem (answered (load_refusal rs f)) (load_after rs f)

-- "Places above the last number given may hold anything and decide no answer": one call, in every memory (How firmly each call is bound)
-- or load
pub entry_unused : (rule : Rule) (m n : Memory) → SameGiven m n → (e : Entry) → Alike (step_entry rule m e) (step_entry rule n e)
entry_unused rule m n s e =
    subst (λ (rs : List ℕ). Alike (step_entry rule m e) (step_entry rule (memory rs n.book n.places) e)) s.register
    (subst (λ (bs : List ℕ). Alike (step_entry rule m e) (step_entry rule (memory m.register bs n.places) e)) s.book
    (entry_alike m.register m.book m.places n.places s.places rule e))

-- and every list of calls and loads
pub run_unused : (rule : Rule) (es : List Entry) (m n : Memory) → SameGiven m n → RunsAlike rule m n es
unfolding run_all answers_of_all
run_unused rule [] m n s = record { answers = refl; left = s }
run_unused rule (e ∷ es) m n s =
    let t = entry_unused rule m n s e in
    let u = run_unused rule es (step_entry rule m e).memory (step_entry rule n e).memory t.left in
    record { answers = rw (t.answer, u.answers); left = u.left }
