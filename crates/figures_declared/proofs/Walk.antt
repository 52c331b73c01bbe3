-- A declarer's place as the library's `position` gives it, a sum from an index on, and eight places moved down. Assumes nothing.
use Prim.Native.Nat.{ℕ, zero, suc, ◌+◌, ◌-◌, ◌≤◌, ◌<◌, min}
use Rattle.std.specs.Prelude.{Option, Some, None, position}
use mathlib.Core.Path.{◌≡◌, refl, sym, ap, ◌∙◌}
use mathlib.Core.List.{List, [], ◌∷◌, ◌++◌}
use native.Mathlib.Numerals.{add-one}
use native.Mathlib.Omega.{arith}
use mathlib.Core.Bool.{Bool, true, false}
use borrow.Author.Tests.{leb-true, leb-false}
use Rattle.std.proofs.Math.Dec.{eqb-suc-suc, eqb-suc-zero, eqb-zero-suc}
use lib.Dec.{eqb, leb}
use lib.ListN.{length, get_or, drop, take, set, drop_of_length-le, length-append, length-drop}
use lib.Seq.{drop-cons, length-take-le, take_all, paste, set_at}
use Rattle.std.specs.List.{position_or_len}
use Rattle.std.proofs.lemmas.List.Recursion.{is_position_or_len}
use Rattle.rules.specs.Keyed.{find, is_there}
use Rattle.rules.specs.Tests.{pick}
use Rattle.rules.specs.Sums.{sum_over}
use Rattle.figures.specs.declared.Figures.{Figures}
use Rattle.figures.specs.Places.{place_in, closed_up}
use Rattle.figures.specs.Figures.{standing_of, place_of, place_there, held, sum_of}
use Rattle.figures.specs.Laws.{standing-length, standing-place, place-stands, not_full, sum-places}
use Rattle.rules.specs.Money.{millions}
use Rattle.rules.specs.declared.money.Millions.{Millions}

-- the first n of eight elements, where n is held to eight
pub take-eight {ℓ} : {A : Type ℓ} (n : ℕ) (xs : List A) → length xs ≡ 8 → take (min n 8) xs ≡ take n xs
take-eight n xs e = go (leb n 8) refl
  where
    go : (b : Bool) → leb n 8 ≡ b → take (min n 8) xs ≡ take n xs
    go true t = let h = leb-true n 8 t in let m : min n 8 ≡ n = omega arith in ap (λ (k : ℕ). take k xs) m
    go false t = let h = leb-false n 8 t in let m : min n 8 ≡ 8 = omega arith in take_all (min n 8) xs (omega arith) ∙ sym (take_all n xs (omega arith))

-- at most eight stand
pub standing_most : (f : Figures) → length f.declarers ≡ 8 → length f.quotas ≡ 8 → length (standing_of f) ≤ 8
standing_most f d q = omega (arith, standing-length f d q)

swapped : (a b : ℕ) → eqb a b ≡ eqb b a
swapped zero zero = refl
swapped zero (suc b) = eqb-zero-suc b ∙ sym (eqb-suc-zero b)
swapped (suc a) zero = eqb-suc-zero a ∙ sym (eqb-zero-suc a)
swapped (suc a) (suc b) = eqb-suc-suc a b ∙ swapped a b ∙ sym (eqb-suc-suc b a)

place_position_or_len : (k : ℕ) (js : List ℕ) → place_in k js ≡ position_or_len (eqb k) js
unfolding place_in
place_position_or_len k js =
    is_position_or_len (place_in k) (eqb k) refl
    (λ x xs. let u : 1 + place_in k xs ≡ suc (place_in k xs) = omega arith in ap (λ (b : Bool). pick b 0 (suc (place_in k xs))) (swapped x k) ∙ ap (λ (n : ℕ). pick (eqb k x) 0 n) (sym u)) js

-- the first of those that stand, by the library's `position`
pub place_first : (f : Figures) (d n : ℕ) (o : Option ℕ) → length f.declarers ≡ 8 → length f.quotas ≡ 8 → n ≡ length (standing_of f)
    → o ≡ position (eqb d) (take n f.declarers) → place_there f d ≡ o
unfolding place_of
place_first f d n o de qe ne oe =
    let k = standing-length f de qe in
    let t : take n f.declarers ≡ take f.standing f.declarers = ap (λ (k : ℕ). take k f.declarers) (ne ∙ k) ∙ take-eight f.standing f.declarers de in
    let s = standing-place f de qe d in
    let l : length (take n f.declarers) ≡ length (standing_of f) = length-take-le n f.declarers (omega arith) ∙ ne in
    let p : position_or_len (eqb d) (take n f.declarers) ≡ place_of f d = ap (position_or_len (eqb d)) t ∙ sym (place_position_or_len d (take f.standing f.declarers)) in
    sym (oe ∙ rw (s, p, l))

module _ {A : Type 0} (m : A → ℕ) (z : A) (xs : List A) (i : ℕ) where
  -- a sum from index i on
  pub sum_over_on : i < length xs → sum_over m (drop i xs) ≡ m (get_or xs i z) + sum_over m (drop (i + 1) xs)
  unfolding sum_over
  sum_over_on h = rw (add-one, drop-cons xs i z h)

  pub sum_over_end : length xs ≤ i → sum_over m (drop i xs) ≡ 0
  unfolding sum_over
  sum_over_end h = rw (drop_of_length-le xs h)

-- eight elements of which those after place p are moved down, and another in the last place
pub closing_end : {A : Type 0} (l : List A) (p : ℕ) (x : A) → length l ≡ 8 → p < 8 → set (paste l p (drop (p + 1) l) (8 - (p + 1))) 7 x ≡ closed_up p x l
closing_end {A} l p x e hp =
    let a : p + (8 - (p + 1)) ≡ 7 = omega arith in
    let t : length (drop (suc p) l) ≤ 8 - (p + 1) = rw length-drop (omega arith) in
    let s : length (take p l ++ drop (suc p) l) ≡ 7 = length-append (take p l) (drop (suc p) l) ∙ omega (arith, length-take-le p l (omega arith), length-drop (suc p) l) in
    ap (λ (k : ℕ). set (paste l p (drop k l) (8 - (p + 1))) 7 x) (add-one p)
    ∙ ap (λ (r : List A). set (take p l ++ r ++ drop (p + (8 - (p + 1))) l) 7 x) (take_all (8 - (p + 1)) (drop (suc p) l) t)
    ∙ ap (λ (k : ℕ). set (take p l ++ drop (suc p) l ++ drop k l) 7 x) a
    ∙ ap (λ (r : List A). set (take p l ++ drop (suc p) l ++ r) 7 x) (drop-cons l 7 x (omega arith) ∙ ap (λ (r : List A). get_or l 7 x ∷ r) (drop_of_length-le l {i = 8} (omega arith)))
    ∙ set_at (take p l ++ drop (suc p) l) (get_or l 7 x) [] x 7 s

-- as many stand as are said to, eight at most
pub ruleset standing_counted = (standing-length)

-- a place that is given is one of those that stand
pub place_stands : (f : Figures) (d : ℕ) (p : ℕ) → length f.declarers ≡ 8 → length f.quotas ≡ 8 → place_there f d ≡ Some p → (p < 8) × (p < f.standing)
place_stands f d p de qe e = go (is_there (find d (standing_of f))) refl e
  where
    go : (b : Bool) → is_there (find d (standing_of f)) ≡ b → pick b (Some (place_of f d)) None ≡ Some p → (p < 8) × (p < f.standing)
    go true h k = let s = place-stands f de qe d h in let u : place_of f d ≡ p = cc in (omega arith, omega arith)
    go false h k = absurd (cc)

-- the sum of the first of the places, as many as stand
pub sum_of_first : (f : Figures) (s n : ℕ) → length f.declarers ≡ 8 → length f.quotas ≡ 8 → n ≡ length (standing_of f) → s ≡ sum_over held (take n f.quotas) → millions s ≡ sum_of f
sum_of_first f s n de qe e h =
    ap millions
    (h ∙ ap (λ (k : ℕ). sum_over held (take k f.quotas)) (e ∙ standing-length f de qe) ∙ ap (λ (l : List Millions). sum_over held l) (take-eight f.standing f.quotas qe))
    ∙ sym (sum-places f de qe)
