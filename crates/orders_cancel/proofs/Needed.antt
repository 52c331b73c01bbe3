-- What the booking asks, from a list that refuses nothing. Assumes nothing.
use Prim.Native.Nat.{ℕ, zero, suc, ◌≤◌}
use mathlib.Core.Path.{◌≡◌, refl}
use mathlib.Core.List.{List}
use native.Mathlib.Omega.{arith}
use Rattle.std.proofs.Common.{◌⊎◌, inl, inr}
use Rattle.rules.specs.Limits.{top_price, top_quantity}
use Rattle.book.specs.Layout.{place_at}
use Rattle.orders.specs.Calls.{cancel_listed}
use Rattle.orders.specs.Clear.{cancel_clear}

module _ (rs bs ps : List ℕ) (k : ℕ) where
  pub cancel_fits : (1 ≤ cancel_listed rs bs ps k) ⊎ (((place_at ps k).price.0 ≤ top_price) × ((place_at ps k).«open» ≤ top_quantity))
  cancel_fits = go (cancel_listed rs bs ps k) refl
    where
      go : (r : ℕ) → cancel_listed rs bs ps k ≡ r → (1 ≤ cancel_listed rs bs ps k) ⊎ (((place_at ps k).price.0 ≤ top_price) × ((place_at ps k).«open» ≤ top_quantity))
      go zero z = let c = cancel_clear rs bs ps k z in inr (c.named.place.price_most, c.named.place.open_most)
      go (suc r) z = inl (omega arith)
