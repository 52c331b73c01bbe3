-- `register_check::all_scalars_ok` meets its contract. Assumes nothing.
use Rattle.std.proofs.Common.{◌≡◌}
use Rattle.words.specs.Each.{all_below}
use Rattle.register.specs.Columns.{scalars_ok}
use Rattle.register_check.proofs.all_scalars_ok.Given as goal

abbrev pub invariant-loop-i : goal.invariant-loop-i
invariant-loop-i l = l.ok ≡ all_below l.i (scalars_ok l.register)
