-- The proof of the third demand: `demand`, over specs/Theorem.antt. Assumes nothing.
-- Here, and not in specs/, so that a wrong definition is refused by the first theorem that it breaks, and not by those that rest on it.
use Prim.Native.Nat.{ℕ, zero, suc, ◌+◌, ◌*◌, ◌<◌}
use Rattle.std.specs.Prelude.{◌≡◌, Bool, ◌&&◌, ◌≢◌, ◌↔◌, eqb, ℤ, pos, length, Some, None}
use Rattle.std.proofs.Math.Path.{refl, sym, ap}
use Rattle.std.proofs.Common.{◌∙◌}
use Rattle.std.proofs.Math.Bool.{true, false, not}
use mathlib.Core.List.{List, [], ◌∷◌, ◌++◌}
use native.Mathlib.Omega.{arith}
use borrow.Author.Tests.{eq-eqb, eqb-true, ltb-true, lt-ltb, lt-leb, not-false}
use Rattle.std.proofs.Math.Dec.{ltb}
use Rattle.std.specs.Int.Signed.{lt_z}
use Rattle.std.proofs.lemmas.List.{length-replicate}
use Rattle.rules.specs.Tests.{pick, both, within_true}
use Rattle.rules.specs.Sums.{when, sum_over}
use Rattle.rules.specs.Limits.{is_places}
use Rattle.rules.specs.Money.{mils_of, amount, Limit}
use Rattle.rules.specs.Orders.{Rule, shanghai, stops, is_buy, net_of, below_pos}
use Rattle.rules.specs.Calls.{in_range, accepted, refused}
use Rattle.rules.specs.Refusals.{unsound_number, refusal, unless_refused}
use Rattle.rules.specs.Lists.{order_rules}
use Rattle.rules.specs.Laws.{clear, order_rises}
use Rattle.rules.specs.Loads.{loaded, FileRead}
use Rattle.rules.specs.declared.money.Millions.{Millions}
use Rattle.rules.specs.declared.money.Mils.{Mils}
use Rattle.rules.specs.declared.kinds.Money.{Money}
use Rattle.rules.specs.declared.calls.Call.{Call}
use Rattle.rules.specs.declared.calls.Call.TheVariants.{Enrol, Attach, Detach, Regular, Raise, Withdraw, OwnQuota, Order, Fill, Cancel, Close}
use Rattle.rules.specs.declared.calls.Answer.{Answer}
use Rattle.history.specs.Past.{History, at_opening, in_group, money_in, money_of, net_in}
use Rattle.history.specs.Answers.{is_attached, group_of, order_reads, refusal_of, refusals, number_given, answer}
use Rattle.history.specs.Runs.{accept, next, after, Entry, Called, Loaded, calls, with_table, load_refusal, entry_refusal, next_entry, answer_entry, after_all, answers_all, after-calls}
use Rattle.history.proofs.Laws.{never_unsound_entry}
use Rattle.quota.specs.Asks as asks
use Rattle.quota.specs.Calls as quota
use Rattle.quota.specs.Kept as kept
use Rattle.book.specs.Check.{book_ok}
use Rattle.book.specs.Layout.{accepted_of, book_length, cleared_words, place_words}
use Rattle.book.specs.Known.{InMoney, known_book}
use Rattle.register.specs.Layout.{group_count, register_length}
use Rattle.orders.specs.Host.{host_ok}
use Rattle.orders.specs.Calls as orders
use Rattle.orders.specs.Kept as booked
use Rattle.claim.specs.Step.{Memory, memory, book_sound, on_register, enrolled_book, step, step_entry}
use Rattle.claim.specs.Relation.{QuotaSim, OrderSim}
use Rattle.claim.specs.QuotaSim as quotas
use Rattle.claim.specs.OrderSums.{more_here}
use Rattle.claim.specs.OrderSim as books
use Rattle.claim.specs.Opening.{places_lent, open_refusal, fresh_register, fresh_book, open_register, open_book}
use Rattle.claim.specs.Demand.{run, run_all, answers_of_all, opened, own_of, Passes, DemandBy, ThirdDemand}
use Rattle.claim.specs.Theorem.{Sim, Steps, asked, Entered, run-calls, row_is_lem, next-accepted}

book_sound_lem : (m : Memory) → host_ok m.register m.book m.places ≡ true → book_sound m ≡ true
unfolding host_ok book_sound
book_sound_lem m e = (both (asks.is_sound m.register) (book_ok m.book m.places (asks.groups_enrolled m.register)) e).1

module _ (N : ℕ) (rule : Rule) (h : History) (m : Memory) (s : Sim N h m) where
  -- calls 1 to 7: a refusal that is the history's, a register that is kept, orders that are left alone
  on_register_lem : (c : Call) (q n : ℕ) (rs' : List ℕ) → q ≡ refusal_of N rule h c → n ≡ number_given N rule h c
      → (q ≡ 0 → QuotaSim (accept h c) rs') → (q ≢ 0 → rs' ≡ m.register) → OrderSim N (accept h c) m.book m.places
      → ((on_register m (unless_refused q (accepted n) (refused q)) rs').answer ≡ answer N rule h c)
      × Sim N (next N rule h c) (on_register m (unless_refused q (accepted n) (refused q)) rs').memory
  unfolding answer next
  on_register_lem c q n rs' e f k u o =
      rw (book_sound_lem m s.host, ← e, ← f) (refl, go q refl)
    where
      go : (r : ℕ) → q ≡ r → Sim N (unless_refused r (accept h c) h) (memory rs' m.book m.places)
      go zero z = record {
        quota = k z;
        order = o;
        host = books.host_again N h m.register m.book m.places s.host s.order rs' (quotas.asks_sound (accept h c) rs' (k z));
      }
      go (suc r) z =
          let d : q ≢ 0 = λ y. omega arith in
          let x : rs' ≡ m.register = u d in
          rw x s

  -- calls 8 to 10: a refusal that is the history's, book and places that are kept
  on_orders : (c : Call) (q n : ℕ) (a : Answer) (bs' ps' : List ℕ) → q ≡ refusal_of N rule h c → n ≡ number_given N rule h c → a ≡ unless_refused q (accepted n) (refused q)
      → (refusal_of N rule h c ≡ 0 → OrderSim N (accept h c) bs' ps') → (refusal_of N rule h c ≡ 0 → host_ok m.register bs' ps' ≡ true) → QuotaSim (accept h c) m.register
      → (q ≢ 0 → (bs' ≡ m.book) × (ps' ≡ m.places))
      → (a ≡ answer N rule h c) × Sim N (next N rule h c) (memory m.register bs' ps')
  unfolding answer next
  on_orders c q n a bs' ps' e f g o w k u = (rw (← e, ← f) g, rw (← e) (go q refl))
    where
      go : (r : ℕ) → q ≡ r → Sim N (unless_refused r (accept h c) h) (memory m.register bs' ps')
      go zero z = record { quota = k; order = o (sym e ∙ z); host = w (sym e ∙ z) }
      go (suc r) z =
          let d : q ≢ 0 = λ y. omega arith in
          let x = u d in
          rw (x.0, x.1) s

  enrol_steps : (code class : ℕ) → Steps N rule h m (Enrol code class)
  unfolding step quota.enrol_answer number_given
  enrol_steps code class =
      let p = on_register_lem (Enrol code class) (quota.enrol_refusal m.register code class) (group_count m.register) (quota.enrol_after m.register code class)
      (quotas.enrol-same h m.register s.quota N rule code class)
      (quotas.group_counts h m.register s.quota)
      (quotas.enrol_kept h m.register s.quota code class)
      (kept.enrol-refused m.register code class)
      (books.enrol_sim N h m.book m.places s.order code class) in
      let e : enrolled_book m.register m.book code class ≡ m.book =
      either (quota.enrol_refusal m.register code class) (books.enrol-book N h m.register m.book m.places (asked h m.register s.quota) s.host s.order) in
      record { same = rw e p.0; sim = rw e p.1 }
    where
      either : (q : ℕ) {xs ys : List ℕ} → xs ≡ ys → unless_refused q xs ys ≡ ys
      either zero f = f
      either (suc q) f = refl

  attach_steps : (unit group : ℕ) → Steps N rule h m (Attach unit group)
  unfolding step number_given
  attach_steps unit group =
      let p = on_register_lem (Attach unit group) (quota.attach_refusal m.register unit group) 0 (quota.attach_after m.register unit group)
      (quotas.attach-same h m.register s.quota N rule unit group) refl
      (quotas.attach_kept h m.register s.quota unit group)
      (kept.attach-refused m.register unit group)
      (books.attach_sim N h m.book m.places s.order unit group) in
      record { same = p.0; sim = p.1 }

  detach_steps : (unit : ℕ) → Steps N rule h m (Detach unit)
  unfolding step number_given
  detach_steps unit =
      let p = on_register_lem (Detach unit) (quota.detach_refusal m.register unit) 0 (quota.detach_after m.register unit)
      (quotas.detach-same h m.register s.quota N rule unit) refl
      (quotas.detach_kept h m.register s.quota unit)
      (kept.detach-refused m.register unit)
      (books.detach_sim N h m.book m.places s.order unit) in
      record { same = p.0; sim = p.1 }

  regular_steps : (declarer group : ℕ) (base amount : Millions) → Steps N rule h m (Regular declarer group base amount)
  unfolding step number_given
  regular_steps declarer group base amount =
      let p = on_register_lem (Regular declarer group base amount) (quota.regular_refusal m.register declarer group base amount) 0 (quota.regular_after m.register declarer group base amount)
      (quotas.regular-same h m.register s.quota N rule declarer group base amount) refl
      (quotas.regular_kept h m.register s.quota declarer group base amount)
      (kept.regular-refused m.register declarer group base amount)
      (books.regular_sim N h m.book m.places s.order declarer group base amount) in
      record { same = p.0; sim = p.1 }

  raise_steps : (declarer group : ℕ) (figure : Millions) (flag : ℕ) → Steps N rule h m (Raise declarer group figure flag)
  unfolding step number_given
  raise_steps declarer group figure flag =
      let p = on_register_lem (Raise declarer group figure flag) (quota.raise_refusal m.register declarer group figure flag) 0 (quota.raise_after m.register declarer group figure flag)
      (quotas.raise-same h m.register s.quota N rule declarer group figure flag) refl
      (quotas.raise_kept h m.register s.quota declarer group figure flag)
      (kept.raise-refused m.register declarer group figure flag)
      (books.raise_sim N h m.book m.places s.order declarer group figure flag) in
      record { same = p.0; sim = p.1 }

  withdraw_steps : (declarer group : ℕ) → Steps N rule h m (Withdraw declarer group)
  unfolding step number_given
  withdraw_steps declarer group =
      let p = on_register_lem (Withdraw declarer group) (quota.withdraw_refusal m.register declarer group) 0 (quota.withdraw_after m.register declarer group)
      (quotas.withdraw-same h m.register s.quota N rule declarer group) refl
      (quotas.withdraw_kept h m.register s.quota declarer group)
      (kept.withdraw-refused m.register declarer group)
      (books.withdraw_sim N h m.book m.places s.order declarer group) in
      record { same = p.0; sim = p.1 }

  own_quota_steps : (group : ℕ) (own : Millions) → Steps N rule h m (OwnQuota group own)
  unfolding step number_given
  own_quota_steps group own =
      let p = on_register_lem (OwnQuota group own) (quota.own_quota_refusal m.register group own) 0 (quota.own_quota_after m.register group own)
      (quotas.own_quota_same h m.register s.quota N rule group own) refl
      (quotas.own_quota_kept h m.register s.quota group own)
      (kept.own_quota_refused m.register group own)
      (books.own_quota_sim N h m.book m.places s.order group own) in
      record { same = p.0; sim = p.1 }

  know : books.Asked h m.register
  know = asked h m.register s.quota

  order_steps : (unit kind : ℕ) (price : Mils) (quantity : ℕ) → Steps N rule h m (Order unit kind price quantity)
  unfolding step number_given orders.order_answer
  order_steps unit kind price quantity =
      let p = on_orders (Order unit kind price quantity) (orders.order_refusal rule m.register m.book m.places unit kind price quantity) (accepted_of m.book + 1) _
      (orders.order_book rule m.register m.book m.places unit kind price quantity) (orders.order_places rule m.register m.book m.places unit kind price quantity)
      (books.order_same N rule h m.register m.book m.places know s.host s.order unit kind price quantity)
      (ap (λ (n : ℕ). n + 1) s.order.accepted)
      refl
      (books.order_sim N rule h m.register m.book m.places know s.host s.order unit kind price quantity)
      (books.order_host N rule h m.register m.book m.places know s.host s.order unit kind price quantity)
      (quotas.order_kept h m.register s.quota unit kind price quantity)
      (booked.order-refused rule m.register m.book m.places unit kind price quantity) in
      record { same = p.0; sim = p.1 }

  fill_steps : (number : ℕ) (price : Mils) (quantity : ℕ) → Steps N rule h m (Fill number price quantity)
  unfolding step number_given
  fill_steps number price quantity =
      let p = on_orders (Fill number price quantity) (orders.fill_refusal m.register m.book m.places number price quantity) 0 _
      (orders.fill_book m.register m.book m.places number price quantity) (orders.fill_places m.register m.book m.places number price quantity)
      (books.fill-same N rule h m.register m.book m.places know s.host s.order number price quantity) refl refl
      (books.fill_sim N rule h m.register m.book m.places know s.host s.order number price quantity)
      (books.fill_host N rule h m.register m.book m.places know s.host s.order number price quantity)
      (quotas.fill_kept h m.register s.quota number price quantity)
      (booked.fill-refused m.register m.book m.places number price quantity) in
      record { same = p.0; sim = p.1 }

  cancel_steps : (number : ℕ) → Steps N rule h m (Cancel number)
  unfolding step number_given
  cancel_steps number =
      let p = on_orders (Cancel number) (orders.cancel_refusal m.register m.book m.places number) 0 _
      (orders.cancel_book m.register m.book m.places number) (orders.cancel_places m.register m.book m.places number)
      (books.cancel-same N rule h m.register m.book m.places know s.host s.order number) refl refl
      (books.cancel_sim N rule h m.register m.book m.places know s.host s.order number)
      (books.cancel_host N rule h m.register m.book m.places know s.host s.order number)
      (quotas.cancel_kept h m.register s.quota number)
      (booked.cancel-refused m.register m.book m.places number) in
      record { same = p.0; sim = p.1 }

  close_steps : Steps N rule h m Close
  unfolding step number_given answer next refusals
  close_steps =
      let k = quotas.close_kept h m.register s.quota in
      let e : step rule m Close ≡ record { answer = accepted 0; memory = memory (quota.close_after m.register) (orders.closed_book m.book) m.places } =
      rw (book_sound_lem m s.host, quotas.close-same h m.register s.quota) in
      record {
        same = rw e;
        sim = rw e (record {
          quota = k;
          order = books.close_sim N h m.register m.book m.places s.host s.order;
          host = books.close_host m.register m.book m.places s.host (quota.close_after m.register) (quotas.asks_sound (accept h Close) (quota.close_after m.register) k);
        });
      }

  pub steps : (c : Call) → Steps N rule h m c
  steps (Enrol code class) = enrol_steps code class
  steps (Attach unit group) = attach_steps unit group
  steps (Detach unit) = detach_steps unit
  steps (Regular declarer group base amount) = regular_steps declarer group base amount
  steps (Raise declarer group figure flag) = raise_steps declarer group figure flag
  steps (Withdraw declarer group) = withdraw_steps declarer group
  steps (OwnQuota group own) = own_quota_steps group own
  steps (Order unit kind price quantity) = order_steps unit kind price quantity
  steps (Fill number price quantity) = fill_steps number price quantity
  steps (Cancel number) = cancel_steps number
  steps Close = close_steps

module _ (N : ℕ) (rule : Rule) (h : History) (m : Memory) (s : Sim N h m) where
  loaded_sim : (f : FileRead) (r : ℕ) → quota.load_refusal m.register f ≡ r → Sim N (unless_refused r (with_table h (loaded f)) h) (memory (quota.load_after m.register f) m.book m.places)
  loaded_sim f zero z =
      let k = quotas.load_kept h m.register s.quota f z in
      record {
        quota = k;
        order = books.same_orders N h (with_table h (loaded f)) m.book m.places refl (omega arith) s.order;
        host = books.host_again N h m.register m.book m.places s.host s.order (quota.load_after m.register f) (quotas.asks_sound (with_table h (loaded f)) (quota.load_after m.register f) k);
      }
  loaded_sim f (suc r) z =
      let d : quota.load_refusal m.register f ≢ 0 = λ y. omega arith in
      rw (kept.load_refused m.register f d) s

  pub entered : (e : Entry) → Entered N rule h m e
  unfolding step_entry answer_entry next_entry
  entered (Called c) = let t = steps N rule h m s c in record { same = t.same; sim = t.sim }
  entered (Loaded f) =
      let e = quotas.load_same h m.register s.quota N rule f in
      record {
        same = rw (book_sound_lem m s.host, e);
        sim = rw (book_sound_lem m s.host, ← e) (loaded_sim f (quota.load_refusal m.register f) refl);
      }

module _ (N : ℕ) (rule : Rule) where
  pub all_sim : (es : List Entry) (h : History) (m : Memory) → Sim N h m → Sim N (after_all N rule h es) (run_all rule m es)
  unfolding after_all run_all
  all_sim [] h m s = s
  all_sim (e ∷ es) h m s = all_sim es (next_entry N rule h e) (step_entry rule m e).memory (entered N rule h m s e).sim

  pub all_answers : (es : List Entry) (h : History) (m : Memory) → Sim N h m → answers_of_all rule m es ≡ answers_all N rule h es
  unfolding answers_of_all answers_all
  all_answers [] h m s = refl
  all_answers (e ∷ es) h m s =
      let t = entered N rule h m s e in
      rw (t.same, all_answers es (next_entry N rule h e) (step_entry rule m e).memory t.sim)

module _ (N : ℕ) (rule : Rule) where
  pub run_sim : (cs : List Call) (h : History) (m : Memory) → Sim N h m → Sim N (after N rule h cs) (run rule m cs)
  run_sim cs h m s = rw (← after-calls N rule h cs, ← run-calls rule m cs) (all_sim N rule (calls cs) h m s)

open_known : (lent : Memory) → open_refusal lent ≡ 0 → (eqb (length lent.places) (place_words * places_lent lent) ≡ true) × (is_places (places_lent lent) ≡ true)
unfolding open_refusal
open_known lent e = go (eqb (length lent.register) register_length && (eqb (length lent.book) book_length && places)) refl e
  where
    places : Bool
    places = eqb (length lent.places) (place_words * places_lent lent) && is_places (places_lent lent)

    go : (t : Bool) → (eqb (length lent.register) register_length && (eqb (length lent.book) book_length && places)) ≡ t → pick t 0 unsound_number ≡ 0 → (eqb (length lent.places) (place_words * places_lent lent) ≡ true) × (is_places (places_lent lent) ≡ true)
    go true q z =
        let a = both (eqb (length lent.register) register_length) (eqb (length lent.book) book_length && places) q in
        let b = both (eqb (length lent.book) book_length) places a.1 in
        both (eqb (length lent.places) (place_words * places_lent lent)) (is_places (places_lent lent)) b.1
    go false q z = absurd (omega arith)

none_in : (g : ℕ) → InMoney (money_of at_opening g)
unfolding money_in sum_over
none_in g = (omega arith, (omega arith, omega arith))

fresh_host : (ps : List ℕ) (N : ℕ) → eqb (length ps) (place_words * N) ≡ true → is_places N ≡ true → host_ok fresh_register (fresh_book N) ps ≡ true
unfolding host_ok
fresh_host ps N e i =
    let w = within_true 1 65_536 N i in
    let z = books.opening_sim N (fresh_book N) ps refl in
    rw (quotas.asks_sound at_opening fresh_register quotas.opening)
    (known_book (fresh_book N) ps (asks.groups_enrolled fresh_register) (record {
      book-length = ap suc (length-replicate {A = ℕ} cleared_words 0);
      places-low = w.0;
      places-high = w.1;
      places-length = eqb-true (length ps) (place_words * N) e;
      accepted_most = omega arith;
      money = λ g a b. rw (z.money g) (none_in g);
    }))

pub opened_sim : (lent : Memory) → open_refusal lent ≡ 0 → Sim (places_lent lent) at_opening (opened lent)
unfolding open_register open_book
opened_sim lent e =
    let k = open_known lent e in
    rw e (record {
      quota = quotas.opening;
      order = books.opening_sim (places_lent lent) (fresh_book (places_lent lent)) lent.places refl;
      host = fresh_host lent.places (places_lent lent) k.0 k.1;
    })

-- the refusal of a step is the history's
pub step-refusal : (N : ℕ) (rule : Rule) (h : History) (m : Memory) → Sim N h m → (c : Call) → (step rule m c).answer.refusal ≡ refusal_of N rule h c
unfolding answer
step-refusal N rule h m s c = ap (λ (a : Answer). a.refusal) (steps N rule h m s c).same ∙ go (refusal_of N rule h c)
  where
    go : (r : ℕ) → (unless_refused r (accepted (number_given N rule h c)) (refused r)).refusal ≡ r
    go zero = refl
    go (suc r) = refl

-- and of an entry
pub entry_refusal_lem : (N : ℕ) (rule : Rule) (h : History) (m : Memory) → Sim N h m → (e : Entry) → (step_entry rule m e).answer.refusal ≡ entry_refusal N rule h e
unfolding answer_entry entry_refusal answer
entry_refusal_lem N rule h m s e = ap (λ (a : Answer). a.refusal) (entered N rule h m s e).same ∙ go e
  where
    told : (n r : ℕ) → (unless_refused r (accepted n) (refused r)).refusal ≡ r
    told n zero = refl
    told n (suc r) = refl

    go : (e : Entry) → (answer_entry N rule h e).refusal ≡ entry_refusal N rule h e
    go (Called c) = told (number_given N rule h c) (refusal_of N rule h c)
    go (Loaded f) = told 0 (load_refusal N rule h f)

-- own quota in force, whether the rule lets the buy pass
passing : (rule : Rule) (kind : ℕ) (own : Limit) (net : ℤ) (price : Mils) (quantity unit : ℕ) (money : Money) → is_buy kind ≡ true → in_range (Order unit kind price quantity) ≡ true → net_of money ≡ net
    → (refusal (order_rules rule unit kind price quantity (record { attached = true; own = own; money = money; full = false })) ≡ 0) ↔ Passes rule own net (amount price quantity)
unfolding order_rules stops
passing rule kind None net price quantity unit money b r n = (
  (λ z. absurd (omega (arith, fifteen z))),
  (λ z. let e = z.1 in let y : ◌≡◌ {A = ℕ} 0 1 = cc in absurd (omega arith)),
)
  where
    fifteen : refusal (order_rules rule unit kind price quantity (record { attached = true; own = None; money = money; full = false })) ≡ 0 → ◌≡◌ {A = ℕ} 15 0
    fifteen z = rw (r, b) at z
passing rule kind (Some o) net price quantity unit money b r n = (
  (λ z. (o, refl, pass (rw (r, b, n) at z))),
  (λ z. back z),
)
  where
    pass : ◌≡◌ {A = ℕ} (pick (not (rule (mils_of o) net (amount price quantity))) 16 0) 0 → rule (mils_of o) net (amount price quantity) ≡ true
    pass = go (rule (mils_of o) net (amount price quantity))
      where
        go : (t : Bool) → ◌≡◌ {A = ℕ} (pick (not t) 16 0) 0 → t ≡ true
        go true z = refl
        go false z = absurd (omega arith)

    back : Passes rule (Some o) net (amount price quantity) → refusal (order_rules rule unit kind price quantity (record { attached = true; own = Some o; money = money; full = false })) ≡ 0
    back z =
        let e = z.1 in
        let k : o ≡ z.0 = cc in
        let y : rule (mils_of o) net (amount price quantity) ≡ true = rw k z.2 in
        rw (r, b, n, y)

buy_passes : (N : ℕ) (rule : Rule) (h : History) (unit kind : ℕ) (price : Mils) (quantity : ℕ) → is_buy kind ≡ true → in_range (Order unit kind price quantity) ≡ true → is_attached h unit ≡ true → length h.orders < N
    → (refusal_of N rule h (Order unit kind price quantity) ≡ 0) ↔ Passes rule (own_of h unit) (net_in h (group_of h unit)) (amount price quantity)
unfolding refusals
buy_passes N rule h unit kind price quantity b r t l =
    rw (t, lt-leb N (length h.orders) l)
    (passing rule kind (own_of h unit) (net_in h (group_of h unit)) price quantity unit (money_of h (group_of h unit)) b r refl)

-- what holds by any rule
demand_by : (rule : Rule) (N : ℕ) (m : Memory) → Sim N at_opening m → (es : List Entry) → DemandBy rule N m es
demand_by rule N m s es =
    let t = all_sim N rule es at_opening m s in
    record {
      same-answers = all_answers N rule es at_opening m s;
      same-groups = quotas.group_counts (after_all N rule at_opening es) (run_all rule m es).register t.quota;
      rows = λ g l. row_is_lem N (after_all N rule at_opening es) (run_all rule m es) t g l;
      never-one = λ before e rest q. λ z.
          never_unsound_entry N rule (after_all N rule at_opening before) e (sym (entry_refusal_lem N rule (after_all N rule at_opening before) (run_all rule m before) (all_sim N rule before at_opening m s) e) ∙ z);
      buys = λ before unit kind price quantity rest e b r t l.
          rw (step-refusal N rule (after_all N rule at_opening before) (run_all rule m before) (all_sim N rule before at_opening m s) (Order unit kind price quantity))
          (buy_passes N rule (after_all N rule at_opening before) unit kind price quantity b r t l);
    }

module _ (N : ℕ) (h : History) (unit kind : ℕ) (price : Mils) (quantity : ℕ) (b : is_buy kind ≡ true) where
  -- an accepted buy: net before it was below the own quota
  buy_below : (own : Millions) → refusal_of N shanghai h (Order unit kind price quantity) ≡ 0 → own_of h unit ≡ Some own → lt_z (net_in h (group_of h unit)) (pos (mils_of own).0) ≡ true
  unfolding refusals order_rules stops shanghai
  buy_below own e k =
      let c = clear 1 (order_rules shanghai unit kind price quantity (order_reads N h unit)) (order_rises shanghai unit kind price quantity (order_reads N h unit)) e in
      let f : not (lt_z (net_in h (group_of h unit)) (pos (mils_of own).0)) ≡ false = rw (b, k) at c.1.1.1.0 in
      not-false (lt_z (net_in h (group_of h unit)) (pos (mils_of own).0)) f

  -- and after it below the own quota and the order's amount
  buy_crosses : (own : Millions) → refusal_of N shanghai h (Order unit kind price quantity) ≡ 0 → own_of h unit ≡ Some own
      → lt_z (net_in (accept h (Order unit kind price quantity)) (group_of h unit)) (pos ((mils_of own).0 + (amount price quantity).0)) ≡ true
  unfolding accept net_of when
  buy_crosses own e k =
      let g : ℕ = group_of h unit in
      let m : Money = money_of h (group_of h unit) in
      let x = more_here h unit kind price quantity (group_of h unit) (in_group (group_of h unit)) (eq-eqb (group_of h unit) (group_of h unit) refl) in
      let p : ltb (m.«open».0 + m.bought.0) ((mils_of own).0 + m.sold.0) ≡ true = sym (below_pos (m.«open».0 + m.bought.0) m.sold.0 (mils_of own).0) ∙ buy_below own e k in
      let l = ltb-true (m.«open».0 + m.bought.0) ((mils_of own).0 + m.sold.0) p in
      rw (x, b)
      (below_pos (m.«open».0 + price.0 * quantity + m.bought.0) m.sold.0 ((mils_of own).0 + price.0 * quantity)
      ∙ lt-ltb (m.«open».0 + price.0 * quantity + m.bought.0) ((mils_of own).0 + price.0 * quantity + m.sold.0) (omega arith))

after_one : (N : ℕ) (rule : Rule) (before : List Entry) (h : History) (c : Call) → after_all N rule h (before ++ (Called c ∷ [])) ≡ next N rule (after_all N rule h before) c
unfolding after_all next_entry
after_one N rule [] h c = refl
after_one N rule (x ∷ before) h c = after_one N rule before (next_entry N rule h x) c

-- the third demand
pub demand : ThirdDemand
demand lent o es =
    let N : ℕ = places_lent lent in
    let m : Memory = opened lent in
    let s = opened_sim lent o in
    record {
      either_market = demand_by shanghai (places_lent lent) (opened lent) s es;
      crossing = λ before unit kind price quantity rest own e b z k.
          let w = step-refusal (places_lent lent) shanghai (after_all (places_lent lent) shanghai at_opening before) (run_all shanghai (opened lent) before) (all_sim (places_lent lent) shanghai before at_opening (opened lent) s) (Order unit kind price quantity) in
          let y : refusal_of (places_lent lent) shanghai (after_all (places_lent lent) shanghai at_opening before) (Order unit kind price quantity) ≡ 0 = sym w ∙ z in
          rw (after_one (places_lent lent) shanghai before at_opening (Order unit kind price quantity), next-accepted (places_lent lent) shanghai (after_all (places_lent lent) shanghai at_opening before) (Order unit kind price quantity) y)
          (buy_crosses (places_lent lent) (after_all (places_lent lent) shanghai at_opening before) unit kind price quantity b own y k);
    }
