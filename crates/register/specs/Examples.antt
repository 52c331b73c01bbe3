-- Examples of the self check, by computation: a record with every word at its greatest value passes; with any one word a step above it, with
-- class 0, or with a figure that nobody holds, it does not. The numbers are those of document 01, "Money and names", and of request 2026-01. Assumes nothing.
use Rattle.std.specs.Prelude.{ℕ, zero, suc, ◌+◌, ◌≡◌, refl, Bool, true, false, List, [], ◌∷◌, ◌++◌, get_or, set, replicate}
use Rattle.words.specs.Each.{all_below}
use Rattle.register.specs.Layout.{first_unit, first_unit_group, record_words}
use Rattle.register.specs.Check.{record_ok, unit_ok, ratio_ok}

-- code, class, maximum (10,000,000 is none), own quota, holder (99,999 with its withdrawal filed), its figure, eight figures standing, the
-- declarers, their quotas
abbrev pub greatest : List ℕ
greatest =
    99_999 ∷ 4 ∷ 10_000_000 ∷ 10_000_000 ∷ 199_999 ∷ 9_999_999 ∷ 8
    ∷ 99_999 ∷ 99_999 ∷ 99_999 ∷ 99_999 ∷ 99_999 ∷ 99_999 ∷ 99_999 ∷ 99_999
    ∷ 9_999_999 ∷ 9_999_999 ∷ 9_999_999 ∷ 9_999_999 ∷ 9_999_999 ∷ 9_999_999 ∷ 9_999_999 ∷ 9_999_999 ∷ []

-- the check of a record with word j one above; of the first n words
unfoldable pub above : ℕ → List Bool
above zero = []
above (suc j) = above j ++ (record_ok (set greatest j (get_or greatest j 0 + 1)) ∷ [])

-- words of a register with one group and one unit
abbrev pub attached : ℕ → ℕ → List ℕ
attached unit group = set (set (1 ∷ 1 ∷ replicate 1_998 0) first_unit unit) first_unit_group group

-- the check of each of the first n words of the ratios, where it is x and the others are 1
unfoldable pub ratios_at : ℕ → ℕ → List Bool
ratios_at x zero = []
ratios_at x (suc j) = ratios_at x j ++ (ratio_ok (set (replicate 8 1) (2 + j) x) j ∷ [])

pub record Examples : Type 0 where
  pub passes : record_ok greatest ≡ true
  -- the holder's word may be one higher: 200,000, nobody, where there is no figure; and no higher
  pub refused : above record_words ≡ replicate record_words false
  pub nobody : (record_ok (set (set greatest 4 200_000) 5 0) ≡ true) × (record_ok (set (set greatest 4 200_000) 5 1) ≡ false) × (record_ok (set (set greatest 4 200_001) 5 0) ≡ false)
  pub class_low : (record_ok (set greatest 1 1) ≡ true) × (record_ok (set greatest 1 0) ≡ false)
  pub unit : (unit_ok (attached 99_999 0) 0 ≡ true) × (unit_ok (attached 100_000 0) 0 ≡ false) × (unit_ok (attached 99_999 1) 0 ≡ false)
  -- "numerator and denominator (both 1 to 100)" (2026-01): all six
  pub ratios : (ratios_at 1 6 ≡ replicate 6 true) × (ratios_at 100 6 ≡ replicate 6 true) × (ratios_at 0 6 ≡ replicate 6 false) × (ratios_at 101 6 ≡ replicate 6 false)

pub examples : Examples
unfolding record_ok all_below above ratios_at
examples = record {
  passes = refl;
  refused = refl;
  nobody = (refl, refl, refl);
  class_low = (refl, refl);
  unit = (refl, refl, refl);
  ratios = (refl, refl, refl, refl);
}
