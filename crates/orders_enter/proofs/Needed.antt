-- What the booking and the next number ask, from a list that refuses nothing. Assumes nothing.
use Prim.Native.Nat.{ℕ, zero, suc, ◌≤◌, ◌<◌}
use mathlib.Core.Path.{◌≡◌, refl}
use mathlib.Core.List.{List}
use native.Mathlib.Omega.{arith}
use Rattle.std.proofs.Common.{◌⊎◌, inl, inr}
use Rattle.rules.specs.Limits.{top_price, top_quantity}
use Rattle.rules.specs.Orders.{Rule}
use Rattle.rules.specs.declared.money.Mils.{Mils}
use Rattle.quota.specs.Asks.{group_of_unit}
use Rattle.book.specs.Layout.{accepted_of, money_at}
use Rattle.book.specs.Known.{InMoney}
use Rattle.orders.specs.Calls.{order_listed}
use Rattle.orders.specs.Clear.{order_clear}

module _ (rule : Rule) (rs bs ps : List ℕ) (u k : ℕ) (p : Mils) (q : ℕ) where
  abbrev needed : Type 0
  needed = InMoney (money_at bs (group_of_unit rs u)) × ((p.0 ≤ top_price) × ((q ≤ top_quantity) × (accepted_of bs < 65_536)))

  pub order_fits : (1 ≤ order_listed rule rs bs ps u k p q) ⊎ needed
  order_fits = go (order_listed rule rs bs ps u k p q) refl
    where
      go : (r : ℕ) → order_listed rule rs bs ps u k p q ≡ r → (1 ≤ order_listed rule rs bs ps u k p q) ⊎ needed
      go zero z =
          let c = order_clear rule rs bs ps u k p q z in
          let l = c.host.book.places-high in
          inr (c.money, (c.price_high, (c.quantity_high, omega (arith, c.room))))
      go (suc r) z = inl (omega arith)
