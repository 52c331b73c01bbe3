-- `quota_close::close_quotas` meets its contract. Assumes nothing.
use mathlib.Core.Path.{◌≡◌}
use Rattle.quota.specs.Calls.{closed_below}
use Rattle.quota_close.proofs.close_quotas.Given as goal

abbrev pub invariant-loop-i : goal.invariant-loop-i
invariant-loop-i l = l.register ≡ closed_below l.initial.register l.i
