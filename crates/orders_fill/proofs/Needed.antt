-- What the booking asks, from a list that refuses nothing. Assumes nothing.
use Prim.Native.Nat.{ℕ, zero, suc, ◌≤◌}
use mathlib.Core.Path.{◌≡◌, refl}
use mathlib.Core.List.{List}
use native.Mathlib.Omega.{arith}
use Rattle.std.proofs.Common.{◌⊎◌, inl, inr}
use Rattle.rules.specs.Limits.{top_price, top_quantity}
use Rattle.rules.specs.declared.money.Mils.{Mils}
use Rattle.book.specs.Layout.{money_at, place_at}
use Rattle.book.specs.Known.{InMoney}
use Rattle.orders.specs.Calls.{fill_listed}
use Rattle.orders.specs.Clear.{fill_clear}

module _ (rs bs ps : List ℕ) (k : ℕ) (p : Mils) (q : ℕ) where
  abbrev needed : Type 0
  needed = InMoney (money_at bs (place_at ps k).group) × (((place_at ps k).price.0 ≤ top_price) × ((p.0 ≤ top_price) × ((q ≤ top_quantity) × (q ≤ (place_at ps k).«open»))))

  pub fill_fits : (1 ≤ fill_listed rs bs ps k p q) ⊎ needed
  fill_fits = go (fill_listed rs bs ps k p q) refl
    where
      go : (r : ℕ) → fill_listed rs bs ps k p q ≡ r → (1 ≤ fill_listed rs bs ps k p q) ⊎ needed
      go zero z = let c = fill_clear rs bs ps k p q z in inr (c.named.money, (c.named.place.price_most, (c.price_high, (c.quantity_high, c.open_most))))
      go (suc r) z = inl (omega arith)
