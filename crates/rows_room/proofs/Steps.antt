-- A quota in mils is small, so that no sum wraps. Assumes nothing.
use Prim.Native.Nat.{◌*◌, ◌≤◌}
use mathlib.Core.Path.{◌≡◌}
use native.Mathlib.Omega.{arith}
use Rattle.rules.specs.Limits.{top_quota, mils_aMillion}
use Rattle.rules.specs.Money.{mils_of}
use Rattle.rules.specs.declared.money.Millions.{Millions}
use Rattle.rules.specs.declared.money.Mils.{Mils}

pub quota_small : (own : Millions) (m : Mils) → m ≡ mils_of own → m.0 ≤ top_quota * mils_aMillion
unfolding mils_of
quota_small own m e = rw e (omega arith)
