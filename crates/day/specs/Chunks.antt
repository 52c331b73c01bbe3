-- An input that comes in pieces is answered as if it came whole: lines told from a first piece and then from what is left of it with the
-- next piece behind are the lines told from both together; and of a line that is too long already, thirty-nine bytes are as good as all.
-- Assumes nothing.
use Rattle.std.specs.Prelude.{ℕ, zero, suc, ◌+◌, ◌≤◌, ◌<◌, ◌≡◌, refl, Bool, true, false, List, [], ◌∷◌, ◌++◌, eqb, ltb, length, take, drop}
use Rattle.std.proofs.Common.{sym, ap, ◌∙◌, append_assoc, add_assoc, zero-add, suc-add, arith, lt-ltb, le-ltb, ltb-true, ltb-false, ne_eqb, length-append, take-append-drop, drop-drop, length-take-le}
use Rattle.std.proofs.lemmas.Bool.{false≢true}
use Rattle.std.proofs.lemmas.List.{take-append-le, drop-append-le}
use Rattle.std.proofs.Math.Seq.{take-append-add, drop-append-add}
use Rattle.rules.specs.Tests.{pick}
use Rattle.rules.specs.Calls.{refused}
use Rattle.rules.specs.Refusals.{malformed_number}
use Rattle.claim.specs.Step.{Memory, Stepped}
use Rattle.callfile.specs.Lines.{line_formed, read_line, call_bytes, line_bytes}
use Rattle.day.specs.Day.{line_step, printed, line_length, is_whole, first_line, behind_line, Told, none_told, before, told}

-- ---- pieces

-- a line that ends in the first piece
whole_length : (a b : List ℕ) → is_whole a ≡ true → line_length (a ++ b) ≡ line_length a
unfolding line_length
whole_length [] b w = absurd (false≢true w)
whole_length (x ∷ a) b w = go (eqb x 10) (λ v. whole_length a b v) w
  where
    go : (t : Bool) → (is_whole a ≡ true → line_length (a ++ b) ≡ line_length a) → ltb (pick t 0 (suc (line_length a))) (suc (length a)) ≡ true
        → pick t 0 (suc (line_length (a ++ b))) ≡ pick t 0 (suc (line_length a))
    go true ih v = refl
    go false ih v =
        let l = ltb-true (suc (line_length a)) (suc (length a)) v in
        ap suc (ih (lt-ltb (line_length a) (length a) (omega (arith, l))))

module _ (a b : List ℕ) (w : is_whole a ≡ true) where
  inside : line_length a < length a
  inside = ltb-true (line_length a) (length a) w

  whole_still : is_whole (a ++ b) ≡ true
  whole_still = ap (λ (x : ℕ). ltb x (length (a ++ b))) (whole_length a b w) ∙ lt-ltb (line_length a) (length (a ++ b)) (omega (arith, inside, length-append a b))

  first-same : first_line (a ++ b) ≡ first_line a
  first-same = ap (λ (x : ℕ). take x (a ++ b)) (whole_length a b w) ∙ take-append-le (line_length a) a b (omega (arith, inside))

  behind_same : behind_line (a ++ b) ≡ behind_line a ++ b
  behind_same = ap (λ (x : ℕ). drop (suc x) (a ++ b)) (whole_length a b w) ∙ drop-append-le (suc (line_length a)) a b (omega (arith, inside))

-- lines told one after the other
abbrev pub joined : Told → Told → Told
joined r s = record { lines = r.lines + s.lines; used = r.used + s.used; text = r.text ++ s.text; memory = s.memory }

joined-none : (m : Memory) (s : Told) → joined (none_told m) s ≡ s
joined-none m s =
    let l : 0 + s.lines ≡ s.lines = zero-add s.lines in
    let u : 0 + s.used ≡ s.used = zero-add s.used in
    rw (l, u) refl

joined-before : (s : Stepped) (e : ℕ) (r q : Told) → before s e (joined r q) ≡ joined (before s e r) q
joined-before s e r q =
    let l : suc (r.lines + q.lines) ≡ suc r.lines + q.lines = sym (suc-add r.lines q.lines) in
    let u : suc e + (r.used + q.used) ≡ suc e + r.used + q.used = sym (add_assoc (suc e) r.used q.used) in
    let t : printed s.answer ++ (r.text ++ q.text) ≡ (printed s.answer ++ r.text) ++ q.text = sym (append_assoc (printed s.answer) r.text q.text) in
    rw (l, u, t) refl

pub first_told : (n : ℕ) (m : Memory) (t : List ℕ) → is_whole t ≡ true → told (suc n) m t ≡ before (line_step m (first_line t)) (line_length t) (told n (line_step m (first_line t)).memory (behind_line t))
unfolding told
first_told n m t w = rw w refl

-- FIRST LAW: what is left of a piece goes on with the next one
pub told_pieces : (n : ℕ) (m : Memory) (a b : List ℕ) (k : ℕ)
    → told ((told n m a).lines + k) m (a ++ b) ≡ joined (told n m a) (told k (told n m a).memory (drop (told n m a).used a ++ b))
unfolding told
told_pieces zero m a b k = ap (λ (x : ℕ). told x m (a ++ b)) (zero-add k) ∙ sym (joined-none m (told k m (a ++ b)))
told_pieces (suc n) m a b k = go (is_whole a) refl (told_pieces n (line_step m (first_line a)).memory (behind_line a) b k)
  where
    s : Stepped
    s = line_step m (first_line a)

    rest : Told
    rest = told n s.memory (behind_line a)

    here : Bool → Told
    here t = pick t (before s (line_length a) rest) (none_told m)

    go : (t : Bool) → is_whole a ≡ t → told (rest.lines + k) s.memory (behind_line a ++ b) ≡ joined rest (told k rest.memory (drop rest.used (behind_line a) ++ b))
        → told ((here t).lines + k) m (a ++ b) ≡ joined (here t) (told k (here t).memory (drop (here t).used a ++ b))
    go true w ih =
        let c : suc rest.lines + k ≡ suc (rest.lines + k) = suc-add rest.lines k in
        let d : drop rest.used (behind_line a) ≡ drop (suc (line_length a) + rest.used) a = drop-drop rest.used (suc (line_length a)) a in
        ap (λ (x : ℕ). told x m (a ++ b)) c
        ∙ first_told (rest.lines + k) m (a ++ b) (whole_still a b w)
        ∙ ap (λ (x : List ℕ). before (line_step m x) (line_length (a ++ b)) (told (rest.lines + k) (line_step m x).memory (behind_line (a ++ b)))) (first-same a b w)
        ∙ ap (λ (x : ℕ). before s x (told (rest.lines + k) s.memory (behind_line (a ++ b)))) (whole_length a b w)
        ∙ ap (λ (x : List ℕ). before s (line_length a) (told (rest.lines + k) s.memory x)) (behind_same a b w)
        ∙ ap (before s (line_length a)) ih
        ∙ joined-before s (line_length a) rest (told k rest.memory (drop rest.used (behind_line a) ++ b))
        ∙ ap (λ (x : List ℕ). joined (before s (line_length a) rest) (told k rest.memory (x ++ b))) d
    go false w ih = ap (λ (x : ℕ). told x m (a ++ b)) (zero-add k) ∙ sym (joined-none m (told k m (a ++ b)))

-- ---- a line that is too long

-- a text without line feed in front of another
open_length : (a b : List ℕ) → is_whole a ≡ false → line_length (a ++ b) ≡ length a + line_length b
unfolding line_length
open_length [] b w = sym (zero-add (line_length b))
open_length (x ∷ a) b w = go (eqb x 10) (λ v. open_length a b v) w
  where
    go : (t : Bool) → (is_whole a ≡ false → line_length (a ++ b) ≡ length a + line_length b) → ltb (pick t 0 (suc (line_length a))) (suc (length a)) ≡ false
        → pick t 0 (suc (line_length (a ++ b))) ≡ suc (length a) + line_length b
    go true ih v = let l = ltb-false 0 (suc (length a)) v in absurd (omega (arith, l))
    go false ih v =
        let l = ltb-false (suc (line_length a)) (suc (length a)) v in
        ap suc (ih (le-ltb (line_length a) (length a) (omega (arith, l)))) ∙ sym (suc-add (length a) (line_length b))

-- a line of other than thirty-eight bytes says nothing
pub long_malformed : (m : Memory) (line : List ℕ) → call_bytes ≤ length line → line_step m line ≡ record { answer = refused malformed_number; memory = m }
unfolding line_step read_line line_formed
long_malformed m line h = rw (ne_eqb (length line) line_bytes (λ e. omega (arith, e))) refl

module _ (a b : List ℕ) (w : is_whole a ≡ false) where
  pub whole_later : is_whole (a ++ b) ≡ is_whole b
  whole_later = go (is_whole b) refl
    where
      l : length (a ++ b) ≡ length a + length b
      l = length-append a b

      o : line_length (a ++ b) ≡ length a + line_length b
      o = open_length a b w

      go : (t : Bool) → is_whole b ≡ t → is_whole (a ++ b) ≡ is_whole b
      go true e = lt-ltb (line_length (a ++ b)) (length (a ++ b)) (omega (arith, l, o, ltb-true (line_length b) (length b) e)) ∙ sym e
      go false e = le-ltb (line_length (a ++ b)) (length (a ++ b)) (omega (arith, l, o, ltb-false (line_length b) (length b) e)) ∙ sym e

  pub first_later : length (first_line (a ++ b)) ≡ length a + length (first_line b)
  first_later =
      ap (λ (x : ℕ). length (take x (a ++ b))) (open_length a b w) ∙ ap length (take-append-add a b (line_length b)) ∙ length-append a (first_line b)

  pub behind_later : behind_line (a ++ b) ≡ behind_line b
  behind_later =
      let e : suc (length a + line_length b) ≡ length a + suc (line_length b) = omega arith in
      ap (λ (x : ℕ). drop (suc x) (a ++ b)) (open_length a b w) ∙ ap (λ (x : ℕ). drop x (a ++ b)) e ∙ drop-append-add a b (suc (line_length b))

-- what is printed and left in memory
pub record SameTold (r s : Told) : Type 0 where
  pub lines : r.lines ≡ s.lines
  pub text : r.text ≡ s.text
  pub memory : r.memory ≡ s.memory

-- SECOND LAW: two beginnings of a line, each too long and without line feed, are told alike
pub long_alike : (k : ℕ) (m : Memory) (a a' b : List ℕ) → is_whole a ≡ false → is_whole a' ≡ false → call_bytes ≤ length a → call_bytes ≤ length a' → SameTold (told k m (a ++ b)) (told k m (a' ++ b))
unfolding told
long_alike zero m a a' b w w' h h' = record { lines = refl; text = refl; memory = refl }
long_alike (suc k) m a a' b w w' h h' = go (is_whole b) refl
  where
    skipped : Stepped
    skipped = record { answer = refused malformed_number; memory = m }

    one : (x : List ℕ) → is_whole x ≡ false → call_bytes ≤ length x → is_whole b ≡ true → told (suc k) m (x ++ b) ≡ before skipped (line_length (x ++ b)) (told k m (behind_line b))
    one x v l e =
        let s : line_step m (first_line (x ++ b)) ≡ skipped = long_malformed m (first_line (x ++ b)) (omega (arith, l, first_later x b v)) in
        first_told k m (x ++ b) (whole_later x b v ∙ e)
        ∙ ap (λ (z : Stepped). before z (line_length (x ++ b)) (told k z.memory (behind_line (x ++ b)))) s
        ∙ ap (λ (z : List ℕ). before skipped (line_length (x ++ b)) (told k m z)) (behind_later x b v)

    none : (x : List ℕ) → is_whole x ≡ false → is_whole b ≡ false → told (suc k) m (x ++ b) ≡ none_told m
    none x v e = rw (whole_later x b v ∙ e) refl

    go : (t : Bool) → is_whole b ≡ t → SameTold (told (suc k) m (a ++ b)) (told (suc k) m (a' ++ b))
    go true e =
        let p = one a w h e in
        let q = one a' w' h' e in
        record {
          lines = ap (λ (r : Told). r.lines) p ∙ sym (ap (λ (r : Told). r.lines) q);
          text = ap (λ (r : Told). r.text) p ∙ sym (ap (λ (r : Told). r.text) q);
          memory = ap (λ (r : Told). r.memory) p ∙ sym (ap (λ (r : Told). r.memory) q);
        }
    go false e =
        let p = none a w e ∙ sym (none a' w' e) in
        record { lines = ap (λ (r : Told). r.lines) p; text = ap (λ (r : Told). r.text) p; memory = ap (λ (r : Told). r.memory) p }

-- no line feed in a text, none in its beginning
pub open_take : (n : ℕ) (a : List ℕ) → n ≤ length a → is_whole a ≡ false → is_whole (take n a) ≡ false
open_take n a h w = go (is_whole (take n a)) refl
  where
    go : (t : Bool) → is_whole (take n a) ≡ t → is_whole (take n a) ≡ false
    go true e =
        let s : is_whole (take n a ++ drop n a) ≡ true = whole_still (take n a) (drop n a) e in
        absurd (false≢true (sym w ∙ ap is_whole (sym (take-append-drop n a)) ∙ s))
    go false e = e

-- so thirty-nine bytes of an unfinished line are as good as all of it
pub cut_alike : (k : ℕ) (m : Memory) (a b : List ℕ) → is_whole a ≡ false → call_bytes ≤ length a → SameTold (told k m (a ++ b)) (told k m (take call_bytes a ++ b))
cut_alike k m a b w h = long_alike k m a (take call_bytes a) b w (open_take call_bytes a h w) h (omega (arith, length-take-le call_bytes a h))
