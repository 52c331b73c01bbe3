-- `figures_declared::sum_in` meets its contract: the sum so far and the sum of what is left are the sum; the quotas seen, held to the range, do not wrap. Assumes nothing.
use Prim.Native.Nat.{◌+◌, ◌*◌, ◌≤◌}
use mathlib.Core.Path.{◌≡◌}
use lib.ListN.{drop}
use Rattle.rules.specs.Limits.{top_quota}
use Rattle.rules.specs.Sums.{sum_over}
use Rattle.figures.specs.Figures.{held}
use Rattle.figures_declared.proofs.sum_in.Given as goal

abbrev pub invariant-loop-quota : goal.invariant-loop-quota
invariant-loop-quota l = (l.sum ≤ top_quota * l.quota-index) × (sum_over held l.quotas ≡ l.sum + sum_over held (drop l.quota-index l.quotas))
