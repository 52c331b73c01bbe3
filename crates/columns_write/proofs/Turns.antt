-- One turn of each loop over a column from right to left, over plain values. Assumes nothing.
use Rattle.std.specs.Prelude.{◌&&◌, eqb}
use Rattle.std.proofs.Common.{ℕ, zero, suc, ◌<◌, get_or, ◌+◌, ◌-◌, ◌/◌, ◌%◌, ◌≤◌, ◌≡◌, refl, ap, sym, ◌∙◌, true, false, List, [], ◌∷◌, ◌++◌, length, take, drop, length-take-le, length-set, arith, append_assoc, eq-eqb, ne_eqb}
use Rattle.std.proofs.Math.Bool.{and-true, and-false}
use Rattle.std.proofs.Math.ListN.{replicate, set}
use Rattle.std.proofs.Math.Seq.{take-suc, take-take}
use Rattle.std.proofs.lemmas.List.{drop-set, take-set, take-replicate}
use Rattle.columns.specs.Column.{marked, same}
use Rattle.columns.specs.Parts.{front}
use Rattle.columns.specs.Laws.{length_marked}
use Rattle.columns.proofs.Parts.{length-front, marked_tenth, marked_front, same_parts}

-- ---- a digit, and what stands in front of it

module _ (mark i rest b : ℕ) (f : b ≡ 48 + rest % 10) (some : 0 < i) where
  before : suc (i - 1) ≡ i
  before = omega arith

  tenth : (rest / 10 ≡ 0 → ⊥) → marked mark i rest ≡ marked mark (i - 1) (rest / 10) ++ b ∷ []
  tenth o = ap (λ (k : ℕ). marked mark k rest) (sym before) ∙ rw f (marked_tenth rest (some_left (rest / 10) o) mark (i - 1))
    where
      some_left : (m : ℕ) → (m ≡ 0 → ⊥) → 1 ≤ m
      some_left zero h = absurd (h refl)
      some_left (suc m) h = omega arith

  last : rest / 10 ≡ 0 → marked mark i rest ≡ front mark (i - 1) ++ b ∷ []
  last h = ap (λ (k : ℕ). marked mark k rest) (sym before) ∙ rw f (marked_front mark (i - 1) rest h)

-- ---- a column put

module _ (t : List ℕ) (mark w n i rest b : ℕ) (e : marked mark w n ≡ marked mark i rest ++ drop i t) (f : b ≡ 48 + rest % 10) (some : 0 < i) (most : i ≤ w) (h : length t ≡ w) where
  behind : drop (i - 1) (set t (i - 1) b) ≡ b ∷ drop i t
  behind = let j : i - 1 + 1 ≡ i = omega arith in rw (drop-set t (i - 1) b (omega arith), j)

  pub put_turn : (rest / 10 ≡ 0 → ⊥) → marked mark w n ≡ marked mark (i - 1) (rest / 10) ++ drop (i - 1) (set t (i - 1) b)
  put_turn o = rw (behind, e, tenth mark i rest b f some o) (append_assoc (marked mark (i - 1) (rest / 10)) (b ∷ []) (drop i t))

  pub put_last : (a : List ℕ) → a ≡ front mark (length (take (i - 1) (set t (i - 1) b))) → rest / 10 ≡ 0 → a ++ drop (i - 1) (set t (i - 1) b) ≡ marked mark w n
  put_last a g z =
      let l : length (take (i - 1) (set t (i - 1) b)) ≡ i - 1 = length-take-le (i - 1) (set t (i - 1) b) (rw (length-set t (i - 1) b) (omega arith)) in
      rw (behind, g, l, e, last mark i rest b f some z) (sym (append_assoc (front mark (i - 1)) (b ∷ []) (drop i t)))

pub blank_turn : (t : List ℕ) (i b : ℕ) → take i t ≡ replicate i 32 → 0 < i → take (i - 1) (set t (i - 1) b) ≡ replicate (i - 1) 32
blank_turn t i b e some =
    take-set t (i - 1) b ∙ sym (take-take (i - 1) i t (omega arith)) ∙ ap (λ (x : List ℕ). take (i - 1) x) e ∙ take-replicate (i - 1) i 32 (omega arith)

pub put_over : (t : List ℕ) (mark w n i rest : ℕ) → marked mark w n ≡ marked mark i rest ++ drop i t → i ≤ 0 → t ≡ marked mark w n
unfolding marked
put_over t mark w n i rest e h = let z : i ≡ 0 = omega arith in sym (rw z at e)

-- ---- a column compared

module _ (t : List ℕ) (mark i rest b : ℕ) (f : b ≡ 48 + rest % 10) (some : 0 < i) (most : i ≤ length t) where
  ends : (x : List ℕ) → length x ≡ i - 1 → same (take i t) (x ++ b ∷ []) ≡ (same (take (i - 1) t) x && (eqb (get_or t (i - 1) 0) b && true))
  unfolding same
  ends x l =
      let a : take i t ≡ take (i - 1) t ++ get_or t (i - 1) 0 ∷ [] = ap (λ (m : ℕ). take m t) (sym (before mark i rest b f some)) ∙ take-suc t (i - 1) 0 (omega arith) in
      rw a (same_parts (take (i - 1) t) (get_or t (i - 1) 0 ∷ []) x (b ∷ []) (length-take-le (i - 1) t (omega arith) ∙ sym l))

  pub same_turn : get_or t (i - 1) 0 ≡ b → (rest / 10 ≡ 0 → ⊥) → same (take i t) (marked mark i rest) ≡ same (take (i - 1) t) (marked mark (i - 1) (rest / 10))
  same_turn e o =
      rw (tenth mark i rest b f some o, ends (marked mark (i - 1) (rest / 10)) (length_marked mark (i - 1) (rest / 10)), eq-eqb (get_or t (i - 1) 0) b e)
      (and-true (same (take (i - 1) t) (marked mark (i - 1) (rest / 10))))

  pub same_last : get_or t (i - 1) 0 ≡ b → rest / 10 ≡ 0 → same (take i t) (marked mark i rest) ≡ same (take (i - 1) t) (front mark (length (take (i - 1) t)))
  same_last e z =
      let l : length (take (i - 1) t) ≡ i - 1 = length-take-le (i - 1) t (omega arith) in
      rw (last mark i rest b f some z, l, ends (front mark (i - 1)) (length-front mark (i - 1)), eq-eqb (get_or t (i - 1) 0) b e)
      (and-true (same (take (i - 1) t) (front mark (i - 1))))

  pub same_not : (get_or t (i - 1) 0 ≡ b → ⊥) → same (take i t) (marked mark i rest) ≡ false
  same_not o = go (rest / 10) refl
    where
      none : (x : List ℕ) → length x ≡ i - 1 → same (take i t) (x ++ b ∷ []) ≡ false
      none x l = ends x l ∙ rw (ne_eqb (get_or t (i - 1) 0) b o) (and-false (same (take (i - 1) t) x))

      go : (m : ℕ) → rest / 10 ≡ m → same (take i t) (marked mark i rest) ≡ false
      go zero z = rw (last mark i rest b f some z) (none (front mark (i - 1)) (length-front mark (i - 1)))
      go (suc m) z = rw (tenth mark i rest b f some (λ y. absurd (omega (arith, y, z)))) (none (marked mark (i - 1) (rest / 10)) (length_marked mark (i - 1) (rest / 10)))

pub same_over : (t : List ℕ) (mark i rest : ℕ) → i ≤ 0 → same (take i t) (marked mark i rest) ≡ true
unfolding marked same
same_over t mark i rest h = let z : i ≡ 0 = omega arith in rw z

-- the turns of both loops, and their ends
pub ruleset put_turns = (put_turn, put_last, blank_turn, put_over)

pub ruleset same_turns = (same_turn, same_last, same_not, same_over)
