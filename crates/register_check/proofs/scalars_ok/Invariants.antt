-- `register_check::scalars_ok` meets its contract. Assumes nothing.
use Rattle.std.proofs.Common.{◌≡◌}
use Rattle.words.specs.Each.{all_below}
use Rattle.std.specs.Prelude.{◌+◌, ◌*◌, leb, get_or}
use Rattle.register.specs.Columns.{most_scalars}
use Rattle.register.specs.Layout.{first_scalar}
use Rattle.register_check.proofs.scalars_ok.Given as goal

abbrev pub invariant-loop-k : goal.invariant-loop-k
invariant-loop-k l = l.ok ≡ all_below l.k (λ k. leb (get_or l.register (first_scalar + 64 * k + l.i) 0) (get_or most_scalars k 0))
