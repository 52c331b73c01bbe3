-- A unit looked for among the attached ones, and what its place says of the memory. Assumes nothing.
use Rattle.std.proofs.Common.{ℕ, ◌+◌, ◌-◌, ◌≡◌, ◌<◌, ◌≤◌, ap, List, Some, None, eqb, length, take, drop, get_or, arith}
use Rattle.std.specs.Prelude.{min}
use Rattle.std.specs.List.{position}
use Rattle.rules.specs.Keyed.{find}
use Rattle.register.specs.Layout.{unit_count, unit_column, units_of, first_unit, first_unit_group, register_length, remove_unit}
use Rattle.register.proofs.Steps.{no_units, first_units, found_step, missing_step, unit_not_there}

pub none_there : (ws : List ℕ) (unit : ℕ) → (length ws ≡ register_length → ⊥) → find unit (units_of ws) ≡ None
unfolding find
none_there ws unit h = ap (find unit) (no_units ws h)

pub units_first : (ws : List ℕ) (n : ℕ) → n ≡ min (unit_count ws) 256 → take (first_unit + n - first_unit) (drop first_unit ws) ≡ take (unit_count ws) (unit_column ws)
units_first ws n e = let k : first_unit + n - first_unit ≡ min (unit_count ws) 256 = omega arith in first_units ws _ (unit_count ws) k

module _ (ws : List ℕ) (unit : ℕ) (l : length ws ≡ register_length) where
  pub found_within : (k : ℕ) → position (eqb unit) (take (unit_count ws) (unit_column ws)) ≡ Some k → k < 256
  found_within k e = (found_step ws unit l k e).0

  pub found_group : (k : ℕ) → position (eqb unit) (take (unit_count ws) (unit_column ws)) ≡ Some k → find unit (units_of ws) ≡ Some (get_or ws (first_unit_group + k) 0)
  found_group k e = (found_step ws unit l k e).1

  pub missing : position (eqb unit) (take (unit_count ws) (unit_column ws)) ≡ None → find unit (units_of ws) ≡ None
  missing e = missing_step ws unit l e

pub not_there : (ws : List ℕ) (unit : ℕ) → length ws ≡ register_length → unit_count ws ≤ 256
    → position (eqb unit) (take (first_unit + unit_count ws - first_unit) (drop first_unit ws)) ≡ None → ws ≡ remove_unit ws unit
not_there ws unit l h e = unit_not_there ws unit l h e
