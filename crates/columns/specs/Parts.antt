-- What stands in front of a number's digits in a column: the digits are written and compared from right to left, and it when none is left. (2026-02) Both
-- together are what specs/Column.antt writes: `marked_tenth` and `marked_front` in proofs/Parts.antt.
use Rattle.std.specs.Prelude.{ℕ, zero, suc, List, [], ◌∷◌}

-- blanks, the last one the mark
unfoldable pub front : ℕ → ℕ → List ℕ
front mark zero = []
front mark (suc zero) = mark ∷ []
front mark (suc (suc k)) = 32 ∷ front mark (suc k)
