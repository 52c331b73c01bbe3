-- `register_check::units_ok` meets its contract. Assumes nothing.
use Rattle.std.proofs.Common.{◌≡◌}
use Rattle.words.specs.Each.{all_below}
use Rattle.register.specs.Check.{unit_ok}
use Rattle.register_check.proofs.units_ok.Given as goal

abbrev pub invariant-loop-k : goal.invariant-loop-k
invariant-loop-k l = l.ok ≡ all_below l.k (unit_ok l.register)
