-- What the library's methods on slices say of a column, in the words of specs/Column.antt and specs/Scan.antt. Assumes nothing.
use Rattle.std.proofs.Common.{ℕ, suc, ◌+◌, ◌≤◌, ◌≡◌, refl, sym, Bool, true, false, not, List, [], ◌∷◌, eqb, ltb, cond, length, ◌-◌, arith, ltb-false, Option, Some, None}
use Rattle.std.specs.List.{list_any, position, position_or_len}
use Rattle.std.specs.Option.{unwrap_or}
use Rattle.std.specs.Cmp.Lexicographic.{pointwise}
use borrow.Rule.Slice.PartMut.{put_mid}
use Rattle.std.proofs.Math.Seq.{paste}
use Rattle.std.proofs.lemmas.Slice.{put_mid-paste}
use Rattle.std.proofs.lemmas.List.Recursion.{is_position_or_len}
use Rattle.rules.specs.Tests.{pick}
use Rattle.columns.specs.Column.{same, minus}
use Rattle.columns.specs.Scan.{blanks}

-- `==`
pub same_is : (xs ys : List ℕ) → pointwise eqb xs ys ≡ same xs ys
unfolding same
same_is [] [] = refl
same_is [] (y ∷ ys) = refl
same_is (x ∷ xs) [] = refl
same_is (x ∷ xs) (y ∷ ys) = rw (same_is xs ys)

-- `copy_from_slice`, and what else writes to a column of w bytes from at on
pub put_is : (d new s : List ℕ) (at w : ℕ) → new ≡ s → length s ≡ w → put_mid at (at + w - at) d new ≡ paste d at s w
put_is d new s at w e l = put_mid-paste at (at + w - at) d new s w e (omega arith) (sym l)

-- `contains`
pub minus_is : (xs : List ℕ) → list_any (λ b. eqb b 45) xs ≡ minus xs
unfolding minus
minus_is [] = refl
minus_is (x ∷ xs) = rw (minus_is xs)

-- `position`
blanks_first : (xs : List ℕ) → blanks xs ≡ position_or_len (λ b. not (eqb b 32)) xs
unfolding blanks
blanks_first = is_position_or_len blanks (λ b. not (eqb b 32)) refl (λ x xs. step (eqb x 32) (blanks xs))
  where
    step : (b : Bool) (n : ℕ) → pick b (suc n) 0 ≡ cond (not b) 0 (1 + n)
    step true n = omega arith
    step false n = refl

blanks_most : (xs : List ℕ) → blanks xs ≤ length xs
unfolding blanks
blanks_most [] = omega arith
blanks_most (x ∷ xs) = go (eqb x 32) (blanks_most xs)
  where
    go : (b : Bool) → blanks xs ≤ length xs → pick b (suc (blanks xs)) 0 ≤ suc (length xs)
    go true h = omega arith
    go false h = omega arith

pub blanks_is : (xs : List ℕ) (o : Option ℕ) → o ≡ position (λ b. not (eqb b 32)) xs → (unwrap_or o (length xs) ≡ blanks xs) × (unwrap_or o (length xs) ≤ length xs)
blanks_is xs o e =
    let n : unwrap_or o (length xs) ≡ blanks xs = rw (e, ← blanks_first xs) (go (ltb (blanks xs) (length xs)) refl) in
    (n, rw n (blanks_most xs))
  where
    go : (b : Bool) → ltb (blanks xs) (length xs) ≡ b → unwrap_or (cond b (Some (blanks xs)) None) (length xs) ≡ blanks xs
    go true h = refl
    go false h = omega (arith, ltb-false (blanks xs) (length xs) h, blanks_most xs)
