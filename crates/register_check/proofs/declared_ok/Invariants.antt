-- `register_check::declared_ok` meets its contract. Assumes nothing.
use Rattle.std.proofs.Common.{◌≡◌}
use Rattle.words.specs.Each.{all_below}
use Rattle.register.specs.Columns.{declared_ok}
use Rattle.register_check.proofs.declared_ok.Given as goal

abbrev pub invariant-loop-j : goal.invariant-loop-j
invariant-loop-j l = l.ok ≡ all_below l.j (declared_ok l.register)
