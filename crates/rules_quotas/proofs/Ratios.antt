-- Products of a base and a ratio's numerator, both held to their ranges. Assumes nothing.
use Prim.Native.Nat.{ℕ, ◌+◌, ◌*◌, ◌≤◌, min}
use mathlib.Core.Path.{◌≡◌}
use native.Mathlib.Nat.{mul-le-mul_left, div-zero}
use native.Mathlib.Omega.{arith}
use Rattle.rules.specs.Limits.{top_quota, top_ratio}
use Rattle.rules.specs.Quotas.{over_half_up}

pub product_fits : (a b c n : ℕ) → c ≡ min a top_quota → n ≡ min b top_ratio → c * n ≤ 999_999_900
product_fits a b c n ec en =
    let h : n ≤ top_ratio = omega arith in
    omega (arith, ec, mul-le-mul_left c h)

-- nothing is divided by 0: the quota is 0 then
pub over_none : (x d : ℕ) → d ≡ 0 → over_half_up x d ≡ 0
over_none x d e = rw e (div-zero (2 * x + 0))
