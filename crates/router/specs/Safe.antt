-- What a router may count on at every call, whatever its memory holds, damaged or not: a refusal returns its number alone and leaves all
-- memory as it was; memory with a figure out of its range is answered by 1; and a code that is no call's is refused by 2.
-- `step` is the definition that the contract of `ekhurtza_call` names, `step_entry` that of `ekhurtza_load`. Assumes nothing.
use Rattle.std.specs.Prelude.{ℕ, zero, suc, ◌+◌, ◌-◌, ◌*◌, ◌≤◌, ◌≡◌, refl, ◌≢◌, Bool, true, false, not, ◌&&◌, List, [], ◌∷◌, ltb}
use Rattle.std.proofs.Common.{sym, arith, ne_eqb}
use Rattle.std.proofs.lemmas.Bool.{false≢true}
use Rattle.rules.specs.Tests.{pick}
use Rattle.rules.specs.Calls.{accepted, refused}
use Rattle.rules.specs.Codes.{no_call, order_call_of, call_of}
use Rattle.rules.specs.Keyed.{find, is_there}
use Rattle.rules.specs.Lists.{enrol_rules, attach_rules, detach_rules, regular_rules, raise_rules, withdraw_rules, own_quota_rules, order_rules, fill_rules, cancel_rules, close_rules}
use Rattle.rules.specs.Orders.{shanghai}
use Rattle.rules.specs.Refusals.{unsound_number, out_of_range_number, short_buffer_number, refusal, unless_refused}
use Rattle.rules.specs.declared.calls.Answer.{Answer}
use Rattle.rules.specs.declared.money.Mils.{Mils}
use Rattle.rules.specs.declared.calls.Call.{Call}
use Rattle.rules.specs.declared.calls.Call.TheVariants.{Enrol, Attach, Detach, Regular, Raise, Withdraw, OwnQuota, Order, Fill, Cancel, Close}
use Rattle.register.specs.Layout.{ratios_of, put_ratios, group_count, group_at, put_group, add_group, units_of, add_unit, remove_unit}
use Rattle.register.specs.Check.{register_ok}
use Rattle.quota.specs.Asks.{is_sound, groups_enrolled, group_of_unit}
use Rattle.quota.specs.Groups.{fresh_group, declared_group, raised_group, filed_group, own_group}
use Rattle.quota.specs.Reads.{enrol_reads, attach_reads, group_reads, figure_reads}
use Rattle.quota.specs.Calls.{enrol_refusal, enrol_answer, enrol_after, attach_refusal, attach_after, detach_refusal, detach_after, regular_refusal, regular_after, raise_refusal, raise_after, withdraw_refusal, withdraw_after, own_quota_refusal, own_quota_after, close_refusal, close_after, load_refusal, load_after}
use Rattle.book.specs.Layout.{accepted_of, no_money, place_at, put_accepted, put_money, put_place, put_open}
use Rattle.book.specs.Check.{book_ok}
use Rattle.orders.specs.Host.{host_ok, named_ok}
use Rattle.orders.specs.Calls.{unless_broken, order_reads, place_reads, order_booked, order_refusal, order_answer, order_book, order_places, fill_booked, fill_refusal, fill_book, fill_places, cancel_booked, cancel_refusal, cancel_book, cancel_places, closed_book}
use Rattle.orders.specs.Booking.{Booked}
use Rattle.rows.specs.Row.{row_refusal, row_of}
use Rattle.listing.specs.Text.{listing_kept, row_bytes}
use Rattle.gate_listing.specs.Listed.{gate_rows, list_refusal}
use Rattle.router.specs.Handed.{handed_refusal}
use Rattle.claim.specs.Step.{Memory, Stepped, memory, book_sound, enrolled_book, step, step_entry}
use Rattle.rules.specs.Loads.{load_rules, loaded, FileRead}
use Rattle.history.specs.Runs.{Loaded}

-- "A refusal returns its number alone; gate, places and buffers keep their contents." (Refusal list)
abbrev pub Alone : Memory → Stepped → Type 0
Alone m s = s.answer.refusal ≢ 0 → (s.answer.number ≡ 0) × (s.memory ≡ m)

-- every word that says a figure of the gate is in its range, and N is the one at opening
abbrev pub is_whole : Memory → Bool
is_whole m = host_ok m.register m.book m.places

-- the answer of a step, and its refusal
abbrev pub answer_in : Stepped → Answer
answer_in s = s.answer

abbrev pub refusal_in : Stepped → ℕ
refusal_in s = s.answer.refusal

-- what holds of every memory at every call
pub record Safe (m : Memory) (c : Call) : Type 0 where
  pub alone : Alone m (step shanghai m c)
  pub damaged : is_whole m ≡ false → refusal_in (step shanghai m c) ≡ unsound_number

-- the three shapes of a step

module _ (m : Memory) where
  -- calls 1 to 7
  alone_register : (b : Bool) (r n : ℕ) (rs : List ℕ)
      → Alone m (pick b (record { answer = unless_refused r (accepted n) (refused r); memory = memory (unless_refused r rs m.register) m.book m.places }) (record { answer = refused unsound_number; memory = m }))
  alone_register true zero n rs h = absurd (h refl)
  alone_register true (suc r) n rs h = (refl, refl)
  alone_register false r n rs h = (refl, refl)

  -- call 1, which writes its group's money too
  alone_enrol : (b : Bool) (r n : ℕ) (rs bs : List ℕ)
      → Alone m (pick b (record { answer = unless_refused r (accepted n) (refused r); memory = memory (unless_refused r rs m.register) (unless_refused r bs m.book) m.places }) (record { answer = refused unsound_number; memory = m }))
  alone_enrol true zero n rs bs h = absurd (h refl)
  alone_enrol true (suc r) n rs bs h = (refl, refl)
  alone_enrol false r n rs bs h = (refl, refl)

  -- calls 8 to 10
  alone_book : (r n : ℕ) (bs ps : List ℕ)
      → Alone m (record { answer = unless_refused r (accepted n) (refused r); memory = memory m.register (unless_refused r bs m.book) (unless_refused r ps m.places) })
  alone_book zero n bs ps h = absurd (h refl)
  alone_book (suc r) n bs ps h = (refl, refl)

  -- the close
  alone_close : (b : Bool) (r : ℕ) (rs bs : List ℕ)
      → Alone m (pick b (unless_refused r (record { answer = accepted 0; memory = memory rs bs m.places }) (record { answer = refused r; memory = m })) (record { answer = refused unsound_number; memory = m }))
  alone_close true zero rs bs h = absurd (h refl)
  alone_close true (suc r) rs bs h = (refl, refl)
  alone_close false r rs bs h = (refl, refl)

  -- a register or a book that is not sound, at calls 1 to 7; s says whether the register is
  hurt_enrol : (s b : Bool) (rules : List (ℕ × Bool)) (n : ℕ) (rs bs : List ℕ) → (s && b) ≡ false
      → refusal_in (pick b (record { answer = unless_refused (refusal ((unsound_number, not s) ∷ rules)) (accepted n) (refused (refusal ((unsound_number, not s) ∷ rules))); memory = memory rs bs m.places }) (record { answer = refused unsound_number; memory = m })) ≡ unsound_number
  hurt_enrol true true rules n rs bs e = absurd (false≢true (sym e))
  hurt_enrol false true rules n rs bs e = refl
  hurt_enrol true false rules n rs bs e = refl
  hurt_enrol false false rules n rs bs e = refl

  hurt_register : (s b : Bool) (rules : List (ℕ × Bool)) (n : ℕ) (rs : List ℕ) → (s && b) ≡ false
      → refusal_in (pick b (record { answer = unless_refused (refusal ((unsound_number, not s) ∷ rules)) (accepted n) (refused (refusal ((unsound_number, not s) ∷ rules))); memory = memory rs m.book m.places }) (record { answer = refused unsound_number; memory = m })) ≡ unsound_number
  hurt_register true true rules n rs e = absurd (false≢true (sym e))
  hurt_register false true rules n rs e = refl
  hurt_register true false rules n rs e = refl
  hurt_register false false rules n rs e = refl

  hurt_close : (s b : Bool) (rules : List (ℕ × Bool)) (rs bs : List ℕ) → (s && b) ≡ false
      → refusal_in (pick b (unless_refused (refusal ((unsound_number, not s) ∷ rules)) (record { answer = accepted 0; memory = memory rs bs m.places }) (record { answer = refused (refusal ((unsound_number, not s) ∷ rules)); memory = m })) (record { answer = refused unsound_number; memory = m })) ≡ unsound_number
  hurt_close true true rules rs bs e = absurd (false≢true (sym e))
  hurt_close false true rules rs bs e = refl
  hurt_close true false rules rs bs e = refl
  hurt_close false false rules rs bs e = refl

-- calls 8 to 10: s says whether the memory is sound
hurt_listed : (s : Bool) (rules : List (ℕ × Bool)) (booked : Booked) (n : ℕ) → s ≡ false
    → (unless_refused (unless_broken (refusal ((unsound_number, not s) ∷ rules)) booked) (accepted n) (refused (unless_broken (refusal ((unsound_number, not s) ∷ rules)) booked))).refusal ≡ unsound_number
hurt_listed true rules booked n e = absurd (false≢true (sym e))
hurt_listed false rules booked n e = refl

fails : (a b : Bool) → a ≡ false → (a && b) ≡ false
fails true b e = absurd (false≢true (sym e))
fails false b e = refl

always_alone : (m : Memory) (c : Call) → Alone m (step shanghai m c)
unfolding step enrol_answer enrol_after attach_after detach_after regular_after raise_after withdraw_after own_quota_after close_after order_answer order_book order_places fill_book fill_places cancel_book cancel_places
always_alone m (Enrol code class) =
    alone_enrol m (book_sound m) (enrol_refusal m.register code class) (group_count m.register) (add_group m.register (fresh_group code class)) (put_money m.book (groups_enrolled m.register) no_money)
always_alone m (Attach unit group) = alone_register m (book_sound m) (attach_refusal m.register unit group) 0 (add_unit m.register unit group)
always_alone m (Detach unit) = alone_register m (book_sound m) (detach_refusal m.register unit) 0 (remove_unit m.register unit)
always_alone m (Regular declarer group base quota) = alone_register m (book_sound m) (regular_refusal m.register declarer group base quota) 0 (put_group m.register group (declared_group (group_at m.register group) declarer base quota))
always_alone m (Raise declarer group quota flag) = alone_register m (book_sound m) (raise_refusal m.register declarer group quota flag) 0 (put_group m.register group (raised_group (group_at m.register group) declarer quota))
always_alone m (Withdraw declarer group) = alone_register m (book_sound m) (withdraw_refusal m.register declarer group) 0 (put_group m.register group (filed_group (group_at m.register group)))
always_alone m (OwnQuota group quota) = alone_register m (book_sound m) (own_quota_refusal m.register group quota) 0 (put_group m.register group (own_group (group_at m.register group) quota))
always_alone m (Order unit kind price quantity) =
    alone_book m (order_refusal shanghai m.register m.book m.places unit kind price quantity) (accepted_of m.book + 1)
    (put_accepted (put_money m.book (group_of_unit m.register unit) (order_booked m.register m.book unit kind price quantity).money) (accepted_of m.book + 1))
    (put_place m.places (accepted_of m.book + 1) (record { group = group_of_unit m.register unit; kind = kind; price = price; «open» = quantity }))
always_alone m (Fill order price quantity) =
    alone_book m (fill_refusal m.register m.book m.places order price quantity) 0
    (put_money m.book (place_at m.places order).group (fill_booked m.book m.places order price quantity).money)
    (put_open m.places order ((place_at m.places order).«open» - quantity))
always_alone m (Cancel order) =
    alone_book m (cancel_refusal m.register m.book m.places order) 0
    (put_money m.book (place_at m.places order).group (cancel_booked m.book m.places order).money)
    (put_open m.places order 0)
always_alone m Close = alone_close m (book_sound m) (close_refusal m.register) (close_after m.register) (closed_book m.book)

always_hurt : (m : Memory) (c : Call) → is_whole m ≡ false → refusal_in (step shanghai m c) ≡ unsound_number
unfolding step host_ok is_sound book_sound enrol_refusal enrol_answer attach_refusal detach_refusal regular_refusal raise_refusal withdraw_refusal own_quota_refusal close_refusal order_refusal order_answer fill_refusal cancel_refusal
always_hurt m (Enrol code class) e = hurt_enrol m (register_ok m.register) (book_ok m.book m.places (groups_enrolled m.register)) (enrol_rules code class (enrol_reads m.register code class)) (group_count m.register) (enrol_after m.register code class) (enrolled_book m.register m.book code class) e
always_hurt m (Attach unit group) e = hurt_register m (register_ok m.register) (book_ok m.book m.places (groups_enrolled m.register)) (attach_rules unit group (attach_reads m.register unit group)) 0 (attach_after m.register unit group) e
always_hurt m (Detach unit) e = hurt_register m (register_ok m.register) (book_ok m.book m.places (groups_enrolled m.register)) (detach_rules unit (is_there (find unit (units_of m.register)))) 0 (detach_after m.register unit) e
always_hurt m (Regular declarer group base quota) e = hurt_register m (register_ok m.register) (book_ok m.book m.places (groups_enrolled m.register)) (regular_rules (ratios_of m.register) declarer group base quota (group_reads m.register group) (figure_reads m.register group declarer)) 0 (regular_after m.register declarer group base quota) e
always_hurt m (Raise declarer group quota flag) e = hurt_register m (register_ok m.register) (book_ok m.book m.places (groups_enrolled m.register)) (raise_rules declarer group quota flag (group_reads m.register group)) 0 (raise_after m.register declarer group quota flag) e
always_hurt m (Withdraw declarer group) e = hurt_register m (register_ok m.register) (book_ok m.book m.places (groups_enrolled m.register)) (withdraw_rules declarer group (group_reads m.register group)) 0 (withdraw_after m.register declarer group) e
always_hurt m (OwnQuota group quota) e = hurt_register m (register_ok m.register) (book_ok m.book m.places (groups_enrolled m.register)) (own_quota_rules group quota (group_reads m.register group)) 0 (own_quota_after m.register group quota) e
always_hurt m (Order unit kind price quantity) e =
    hurt_listed (host_ok m.register m.book m.places) (order_rules shanghai unit kind price quantity (order_reads m.register m.book unit)) (order_booked m.register m.book unit kind price quantity) (accepted_of m.book + 1) e
always_hurt m (Fill order price quantity) e =
    hurt_listed (host_ok m.register m.book m.places && named_ok m.register m.book m.places order) (fill_rules order price quantity (place_reads m.book m.places order)) (fill_booked m.book m.places order price quantity) 0 (fails (host_ok m.register m.book m.places) (named_ok m.register m.book m.places order) e)
always_hurt m (Cancel order) e =
    hurt_listed (host_ok m.register m.book m.places && named_ok m.register m.book m.places order) (cancel_rules order (place_reads m.book m.places order)) (cancel_booked m.book m.places order) 0 (fails (host_ok m.register m.book m.places) (named_ok m.register m.book m.places order) e)
always_hurt m Close e = hurt_close m (register_ok m.register) (book_ok m.book m.places (groups_enrolled m.register)) close_rules (close_after m.register) (closed_book m.book) e

pub safe : (m : Memory) (c : Call) → Safe m c
safe m c = record { alone = always_alone m c; damaged = always_hurt m c }

-- the same of a load (2026-01)
pub record LoadSafe (m : Memory) (f : FileRead) : Type 0 where
  pub alone : Alone m (step_entry shanghai m (Loaded f))
  pub damaged : is_whole m ≡ false → refusal_in (step_entry shanghai m (Loaded f)) ≡ unsound_number

pub load_safe : (m : Memory) (f : FileRead) → LoadSafe m f
unfolding step_entry host_ok is_sound book_sound load_refusal load_after
load_safe m f = record {
  alone = alone_register m (book_sound m) (load_refusal m.register f) 0 (put_ratios m.register (loaded f));
  damaged = λ e. hurt_register m (register_ok m.register) (book_ok m.book m.places (groups_enrolled m.register)) (load_rules f (ltb 0 (group_count m.register))) 0 (load_after m.register f) e;
}

-- the same of a fill and a cancel, where a figure in the place of the order that they name is out of its range

fails_too : (a b : Bool) → b ≡ false → (a && b) ≡ false
fails_too true b e = e
fails_too false b e = refl

pub fill_damaged : (m : Memory) (order : ℕ) (price : Mils) (quantity : ℕ) → named_ok m.register m.book m.places order ≡ false
    → refusal_in (step shanghai m (Fill order price quantity)) ≡ unsound_number
unfolding step fill_refusal
fill_damaged m order price quantity e =
    hurt_listed (host_ok m.register m.book m.places && named_ok m.register m.book m.places order) (fill_rules order price quantity (place_reads m.book m.places order)) (fill_booked m.book m.places order price quantity) 0 (fails_too (host_ok m.register m.book m.places) (named_ok m.register m.book m.places order) e)

pub cancel_damaged : (m : Memory) (order : ℕ) → named_ok m.register m.book m.places order ≡ false → refusal_in (step shanghai m (Cancel order)) ≡ unsound_number
unfolding step cancel_refusal
cancel_damaged m order e =
    hurt_listed (host_ok m.register m.book m.places && named_ok m.register m.book m.places order) (cancel_rules order (place_reads m.book m.places order)) (cancel_booked m.book m.places order) 0 (fails_too (host_ok m.register m.book m.places) (named_ok m.register m.book m.places order) e)

-- and of a listing and a row

first_refuses : (s b : Bool) (rules : List (ℕ × Bool)) → s ≡ false → refusal ((unsound_number, not (s && b)) ∷ rules) ≡ unsound_number
first_refuses true b rules e = absurd (false≢true (sym e))
first_refuses false b rules e = refl

pub listing_damaged : (m : Memory) (room : ℕ) → is_whole m ≡ false → list_refusal m room ≡ unsound_number
unfolding list_refusal
listing_damaged m room e = first_refuses (is_whole m) (listing_kept (gate_rows m.register m.book)) ((short_buffer_number, ltb room (row_bytes * groups_enrolled m.register)) ∷ []) e

pub row_damaged : (m : Memory) (group room : ℕ) → is_whole m ≡ false → handed_refusal m group room ≡ unsound_number
unfolding handed_refusal row_of row_refusal
row_damaged m group room e = rw e

-- a code that is no call's: the call that it stands for, and its answer

pub unknown : (code a b c d : ℕ) → (1 ≤ code → code ≤ 11 → ⊥) → call_of code a b c d ≡ no_call
unfolding call_of order_call_of
unknown code a b c d h =
    rw (
      ne_eqb code 1 (λ e. h (omega arith) (omega arith)),
      ne_eqb code 2 (λ e. h (omega arith) (omega arith)),
      ne_eqb code 3 (λ e. h (omega arith) (omega arith)),
      ne_eqb code 4 (λ e. h (omega arith) (omega arith)),
      ne_eqb code 5 (λ e. h (omega arith) (omega arith)),
      ne_eqb code 6 (λ e. h (omega arith) (omega arith)),
      ne_eqb code 7 (λ e. h (omega arith) (omega arith)),
      ne_eqb code 8 (λ e. h (omega arith) (omega arith)),
      ne_eqb code 9 (λ e. h (omega arith) (omega arith)),
      ne_eqb code 10 (λ e. h (omega arith) (omega arith)),
      ne_eqb code 11 (λ e. h (omega arith) (omega arith)),
    )

module _ (m : Memory) (rules : List (ℕ × Bool)) (rs : List ℕ) where
  out_of_range : (s b : Bool) → (s && b) ≡ true
      → answer_in (pick b (record { answer = unless_refused (refusal ((unsound_number, not s) ∷ (out_of_range_number, true) ∷ rules)) (accepted 0) (refused (refusal ((unsound_number, not s) ∷ (out_of_range_number, true) ∷ rules))); memory = memory rs m.book m.places }) (record { answer = refused unsound_number; memory = m })) ≡ refused out_of_range_number
  out_of_range true true e = refl
  out_of_range true false e = absurd (false≢true e)
  out_of_range false b e = absurd (false≢true e)

pub unknown_refused : (m : Memory) → is_whole m ≡ true → (step shanghai m no_call).answer ≡ refused out_of_range_number
unfolding step host_ok is_sound book_sound detach_refusal detach_rules
unknown_refused m e =
    out_of_range m ((6, not (is_there (find 18_446_744_073_709_551_615 (units_of m.register)))) ∷ []) (detach_after m.register 18_446_744_073_709_551_615) (register_ok m.register) (book_ok m.book m.places (groups_enrolled m.register)) e
