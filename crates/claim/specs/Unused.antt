-- "Places above the last number given may hold anything and decide no answer": of every memory, sound or not, and over every list of calls.
-- And which words of the places a call may write: "It writes that place alone; a fill or cancel changes only the open quantity in its order's
-- place; no other call, opening and close included, writes a place." The theorems over whole steps are in proofs/Unused.antt. Assumes nothing. (How firmly each call is bound; Orders)
use Prim.{tt}
use Rattle.std.specs.Prelude.{ℕ, zero, suc, ◌+◌, ◌*◌, ◌-◌, ◌/◌, ◌≤◌, ◌≡◌, Bool, ◌≢◌, List, length, get_or}
use Rattle.std.proofs.Math.Path.{refl, ap}
use Rattle.std.proofs.Common.{sym, ◌∙◌, arith}
use Rattle.std.proofs.Math.Bool.{true, false}
use Rattle.rules.specs.Orders.{Rule}
use Rattle.rules.specs.Refusals.{unless_refused, answered}
use Rattle.rules.specs.declared.money.Mils.{Mils}
use Rattle.rules.specs.declared.calls.Call.{Call}
use Rattle.rules.specs.declared.calls.Call.TheVariants.{Enrol, Attach, Detach, Regular, Raise, Withdraw, OwnQuota, Order, Fill, Cancel, Close}
use Rattle.rules.specs.declared.calls.Answer.{Answer}
use Rattle.quota.specs.Asks.{group_of_unit}
use Rattle.quota.specs.Calls.{attach_refusal, attach_after, detach_refusal, detach_after, regular_refusal, regular_after, raise_refusal, raise_after, withdraw_refusal, withdraw_after, own_quota_refusal, own_quota_after, close_refusal, load_refusal, load_after}
use Rattle.history.specs.Runs.{Entry, Loaded}
use Rattle.rules.specs.Loads.{FileRead}
use Rattle.book.specs.declared.places.Place.{Place}
use Rattle.book.specs.Layout.{accepted_of, place_base, place_at, put_place, put_open, place_words}
use Rattle.book.specs.Laws.{length-put-place, place_word_lem, length-put_open, open_word}
use Rattle.book.specs.Alike.{AlikeBelow}
use Rattle.orders.specs.Calls.{order_refusal, order_places, fill_refusal, fill_places, cancel_refusal, cancel_places}
use Rattle.orders.specs.Kept.{fill-refused, fill_kept, cancel-refused, cancel_kept}
use Rattle.claim.specs.Step.{Memory, Stepped, memory, book_sound, on_register, enrolling, closing_sound, step, step_entry}
use Rattle.claim.specs.Opening.{open_refusal, fresh_book, open_register, open_book}
use Rattle.claim.specs.Demand.{run_all, answers_of_all, opened}

-- ---- the claims

-- two memories that differ at most in places above the last number given
pub record SameGiven (m n : Memory) : Type 0 where
  pub register : m.register ≡ n.register
  pub book : m.book ≡ n.book
  pub places : AlikeBelow (accepted_of m.book) m.places n.places

-- the same answer, and again memories that differ at most there
pub record Alike (s t : Stepped) : Type 0 where
  pub answer : s.answer ≡ t.answer
  pub left : SameGiven s.memory t.memory

-- over a list of calls and loads
pub record RunsAlike (rule : Rule) (m n : Memory) (es : List Entry) : Type 0 where
  pub answers : answers_of_all rule m es ≡ answers_of_all rule n es
  pub left : SameGiven (run_all rule m es) (run_all rule n es)

-- a word of the places that a call does not write: an order writes the next place, a fill or a cancel its order's open quantity
abbrev pub Unwritten : Memory → Call → ℕ → Type 0
Unwritten m (Enrol code class) i = Unit {0}
Unwritten m (Attach unit group) i = Unit {0}
Unwritten m (Detach unit) i = Unit {0}
Unwritten m (Regular declarer group base quota) i = Unit {0}
Unwritten m (Raise declarer group quota flag) i = Unit {0}
Unwritten m (Withdraw declarer group) i = Unit {0}
Unwritten m (OwnQuota group quota) i = Unit {0}
Unwritten m (Order unit kind price quantity) i = place_base (accepted_of m.book + 1) ≤ i → place_base (accepted_of m.book + 1) + place_words ≤ i
Unwritten m (Fill order price quantity) i = i ≢ place_base order + 3
Unwritten m (Cancel order) i = i ≢ place_base order + 3
Unwritten m Close i = Unit {0}

-- every other word stays, and there are as many
pub record PlacesKept (rule : Rule) (m : Memory) (c : Call) : Type 0 where
  pub lengths : length (step rule m c).memory.places ≡ length m.places
  pub words : (i : ℕ) → Unwritten m c i → get_or (step rule m c).memory.places i 0 ≡ get_or m.places i 0

-- the last order number whose place a call may write
abbrev pub last_written : Memory → Call → ℕ
last_written m (Enrol code class) = accepted_of m.book
last_written m (Attach unit group) = accepted_of m.book
last_written m (Detach unit) = accepted_of m.book
last_written m (Regular declarer group base quota) = accepted_of m.book
last_written m (Raise declarer group quota flag) = accepted_of m.book
last_written m (Withdraw declarer group) = accepted_of m.book
last_written m (OwnQuota group quota) = accepted_of m.book
last_written m (Order unit kind price quantity) = accepted_of m.book + 1
last_written m (Fill order price quantity) = accepted_of m.book
last_written m (Cancel order) = accepted_of m.book
last_written m Close = accepted_of m.book

-- ---- what a call that names an order reads

-- a test holds or not
pub split {ℓ} : (b : Bool) {P : Type ℓ} → (b ≡ true → P) → (b ≡ false → P) → P
split true p q = p refl
split false p q = q refl

-- nothing refuses, or something does
pub is_zero {ℓ} : (r : ℕ) {P : Type ℓ} → (r ≡ 0 → P) → (r ≢ 0 → P) → P
is_zero zero p q = p refl
is_zero (suc r) p q = q (λ e. omega arith)

-- ---- the claims hold

-- gates that were opened over as many places, of any contents
open_same : (rs bs ps qs : List ℕ) → length ps ≡ length qs → open_refusal (memory rs bs ps) ≡ open_refusal (memory rs bs qs)
unfolding open_refusal
open_same rs bs ps qs l = rw l

pub opened_alike : (rs bs ps qs : List ℕ) → length ps ≡ length qs → open_refusal (memory rs bs ps) ≡ 0 → SameGiven (opened (memory rs bs ps)) (opened (memory rs bs qs))
unfolding open_register open_book
opened_alike rs bs ps qs l e =
    let f : open_refusal (memory rs bs qs) ≡ 0 = sym (open_same rs bs ps qs l) ∙ e in
    rw (e, f) (record { register = refl; book = ap (λ (n : ℕ). fresh_book (n / place_words)) l; places = record { lengths = l; words = λ i o. absurd (omega arith) } })

-- ---- the words that a call writes

-- calls 1 to 7 and the close leave the places as they were
module _ (m : Memory) where
  quota_kept : (answer : Answer) (rs : List ℕ) → (on_register m answer rs).memory.places ≡ m.places
  quota_kept answer rs = split (book_sound m) (λ e. rw e) (λ e. rw e)

  enrol_kept : (code class : ℕ) → (enrolling m code class).memory.places ≡ m.places
  enrol_kept code class = split (book_sound m) (λ e. rw e) (λ e. rw e)

  close_kept : (closing_sound m).memory.places ≡ m.places
  close_kept = split (book_sound m) (λ e. go e (close_refusal m.register) refl) (λ e. rw e)
    where
      go : book_sound m ≡ true → (r : ℕ) → close_refusal m.register ≡ r → (closing_sound m).memory.places ≡ m.places
      go e zero z = rw (e, z)
      go e (suc r) z = rw (e, z)

-- what is read alike where something is written is read alike where nothing is
put_or_not : (f : List ℕ → ℕ) (r : ℕ) (xs ps : List ℕ) → f xs ≡ f ps → f (unless_refused r xs ps) ≡ f ps
put_or_not f zero xs ps e = e
put_or_not f (suc r) xs ps e = refl

all_kept : {rule : Rule} {m : Memory} {c : Call} → (step rule m c).memory.places ≡ m.places → PlacesKept rule m c
all_kept e = record { lengths = ap length e; words = λ i u. ap (λ (z : List ℕ). get_or z i 0) e }

-- an open quantity written or not
open_kept : (r k q : ℕ) (ps : List ℕ) → (length (unless_refused r (put_open ps k q) ps) ≡ length ps) × ((i : ℕ) → i ≢ place_base k + 3 → get_or (unless_refused r (put_open ps k q) ps) i 0 ≡ get_or ps i 0)
open_kept r k q ps = (
  put_or_not length r (put_open ps k q) ps (length-put_open ps k q),
  λ i d. put_or_not (λ z. get_or z i 0) r (put_open ps k q) ps (open_word ps k q i d),
)

-- in every memory
pub places_kept : (rule : Rule) (m : Memory) (c : Call) → PlacesKept rule m c
unfolding step order_places fill_places cancel_places
places_kept rule m (Enrol code class) = all_kept (enrol_kept m code class)
places_kept rule m (Attach unit group) = all_kept (quota_kept m (answered (attach_refusal m.register unit group)) (attach_after m.register unit group))
places_kept rule m (Detach unit) = all_kept (quota_kept m (answered (detach_refusal m.register unit)) (detach_after m.register unit))
places_kept rule m (Regular declarer group base quota) = all_kept (quota_kept m (answered (regular_refusal m.register declarer group base quota)) (regular_after m.register declarer group base quota))
places_kept rule m (Raise declarer group quota flag) = all_kept (quota_kept m (answered (raise_refusal m.register declarer group quota flag)) (raise_after m.register declarer group quota flag))
places_kept rule m (Withdraw declarer group) = all_kept (quota_kept m (answered (withdraw_refusal m.register declarer group)) (withdraw_after m.register declarer group))
places_kept rule m (OwnQuota group quota) = all_kept (quota_kept m (answered (own_quota_refusal m.register group quota)) (own_quota_after m.register group quota))
places_kept rule m (Order unit kind price quantity) =
    let p : Place = record { group = group_of_unit m.register unit; kind = kind; price = price; «open» = quantity } in
    let n : ℕ = accepted_of m.book + 1 in
    let r : ℕ = order_refusal rule m.register m.book m.places unit kind price quantity in
    record {
      lengths = put_or_not length r (put_place m.places n p) m.places (length-put-place m.places n p);
      words = λ i u. put_or_not (λ z. get_or z i 0) r (put_place m.places n p) m.places (place_word_lem m.places n p i u);
    }
places_kept rule m (Fill order price quantity) =
    let o = open_kept (fill_refusal m.register m.book m.places order price quantity) order ((place_at m.places order).«open» - quantity) m.places in
    record { lengths = o.0; words = o.1 }
places_kept rule m (Cancel order) =
    let o = open_kept (cancel_refusal m.register m.book m.places order) order 0 m.places in
    record { lengths = o.0; words = o.1 }
places_kept rule m Close = all_kept (close_kept m)

-- a load writes the register alone
pub load_keeps : (rule : Rule) (m : Memory) (f : FileRead) → ((step_entry rule m (Loaded f)).memory.book ≡ m.book) × ((step_entry rule m (Loaded f)).memory.places ≡ m.places)
unfolding step_entry
load_keeps rule m f = (split (book_sound m) (λ e. rw e) (λ e. rw e), quota_kept m (answered (load_refusal m.register f)) (load_after m.register f))

-- a fill or a cancel that is not refused names a number that was given
fill_unused : (rule : Rule) (m : Memory) (k : ℕ) (price : Mils) (quantity i : ℕ) → place_words * accepted_of m.book ≤ i → get_or (step rule m (Fill k price quantity)).memory.places i 0 ≡ get_or m.places i 0
unfolding step
fill_unused rule m k price quantity i l =
    is_zero (fill_refusal m.register m.book m.places k price quantity)
    (λ z.
    let c = (fill_kept m.register m.book m.places k price quantity z).clear.named in
    (places_kept rule m (Fill k price quantity)).words i (λ e. omega (arith, c.number-low, c.number-high)))
    (λ d. ap (λ (z : List ℕ). get_or z i 0) (fill-refused m.register m.book m.places k price quantity d).1)

cancel_unused : (rule : Rule) (m : Memory) (k i : ℕ) → place_words * accepted_of m.book ≤ i → get_or (step rule m (Cancel k)).memory.places i 0 ≡ get_or m.places i 0
unfolding step
cancel_unused rule m k i l =
    is_zero (cancel_refusal m.register m.book m.places k)
    (λ z.
    let c = (cancel_kept m.register m.book m.places k z).clear.named in
    (places_kept rule m (Cancel k)).words i (λ e. omega (arith, c.number-low, c.number-high)))
    (λ d. ap (λ (z : List ℕ). get_or z i 0) (cancel-refused m.register m.book m.places k d).1)

-- a word above the last number given stays as it was; an order takes one number more
pub unused_kept : (rule : Rule) (m : Memory) (c : Call) (i : ℕ) → place_words * last_written m c ≤ i → get_or (step rule m c).memory.places i 0 ≡ get_or m.places i 0
unused_kept rule m (Enrol code class) i l = (places_kept rule m (Enrol code class)).words i tt
unused_kept rule m (Attach unit group) i l = (places_kept rule m (Attach unit group)).words i tt
unused_kept rule m (Detach unit) i l = (places_kept rule m (Detach unit)).words i tt
unused_kept rule m (Regular declarer group base quota) i l = (places_kept rule m (Regular declarer group base quota)).words i tt
unused_kept rule m (Raise declarer group quota flag) i l = (places_kept rule m (Raise declarer group quota flag)).words i tt
unused_kept rule m (Withdraw declarer group) i l = (places_kept rule m (Withdraw declarer group)).words i tt
unused_kept rule m (OwnQuota group quota) i l = (places_kept rule m (OwnQuota group quota)).words i tt
unused_kept rule m (Order unit kind price quantity) i l = (places_kept rule m (Order unit kind price quantity)).words i (λ b. omega arith)
unused_kept rule m (Fill order price quantity) i l = fill_unused rule m order price quantity i l
unused_kept rule m (Cancel order) i l = cancel_unused rule m order i l
unused_kept rule m Close i l = (places_kept rule m Close).words i tt
