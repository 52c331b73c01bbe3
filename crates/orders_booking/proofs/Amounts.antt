-- The largest amount, amounts in their ranges, and the test of three totals against L. Assumes nothing.
use Prim.Native.Nat.{ℕ, ◌*◌, ◌≤◌}
use mathlib.Core.Path.{◌≡◌, refl}
use mathlib.Core.Bool.{Bool, true, false, ◌&&◌}
use native.Mathlib.Omega.{arith}
use native.Mathlib.Nat.{le_trans, mul-le-mul_left, mul-le-mul_right}
use borrow.Author.Tests.{leb-true, le-leb}
use lib.Dec.{leb}
use Rattle.rules.specs.Sums.{when}
use Rattle.rules.specs.Limits.{top_price, top_quantity}
use Rattle.rules.specs.declared.money.Mils.{Mils}
use Rattle.orders.specs.Booking.{amount_in_range}

pub amount_most : (p q : ℕ) → p ≤ top_price → q ≤ top_quantity → p * q ≤ 99_999_990_000_000
amount_most p q h k = le_trans (mul-le-mul_left p k) (mul-le-mul_right top_quantity h)

pub in_range_most : (p : Mils) (q : ℕ) → amount_in_range p q ≤ 99_999_990_000_000
unfolding amount_in_range when
in_range_most p q = go (leb p.0 top_price) (leb q top_quantity) refl refl
  where
    go : (a b : Bool) → leb p.0 top_price ≡ a → leb q top_quantity ≡ b → when (a && b) (p.0 * q) ≤ 99_999_990_000_000
    go true true e f = amount_most p.0 q (leb-true p.0 top_price e) (leb-true q top_quantity f)
    go true false e f = omega arith
    go false b e f = omega arith

-- what is counted, in steps of a sum
pub counted_most : (b : Bool) (p : Mils) (q r : ℕ) → r ≡ when b (amount_in_range p q) → r ≤ 99_999_990_000_000
unfolding when
counted_most true p q r e = omega (arith, in_range_most p q)
counted_most false p q r e = omega arith

-- a price and a quantity in their ranges
module _ (p : Mils) (q : ℕ) (h : p.0 ≤ top_price) (k : q ≤ top_quantity) where
  pub in_range_lem : amount_in_range p q ≡ p.0 * q
  unfolding amount_in_range when
  in_range_lem = rw (le-leb p.0 top_price h, le-leb q top_quantity k)
