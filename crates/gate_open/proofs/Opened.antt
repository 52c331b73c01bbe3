-- The opening: a proper one's lengths. Assumes nothing.
use Prim.Native.Nat.{ℕ, zero, suc, ◌*◌, ◌≤◌}
use mathlib.Core.Path.{◌≡◌, refl, sym}
use mathlib.Core.Bool.{Bool, true, false, ◌&&◌}
use native.Mathlib.Omega.{arith}
use borrow.Author.Tests.{eqb-true}
use lib.Dec.{eqb}
use lib.ListN.{length, replicate}
use Rattle.std.proofs.Common.{List, ◌⊎◌, inl, inr}
use Rattle.rules.specs.Tests.{pick, both}
use Rattle.rules.specs.Limits.{is_places}
use Rattle.rules.specs.Refusals.{unsound_number}
use Rattle.claim.specs.Opening.{places_lent, open_refusal, open_register}
use Rattle.book.specs.Layout.{book_length, place_words}
use Rattle.register.specs.Layout.{register_length, put_ratios}
use Rattle.rules.specs.Quotas.{old_ratios}
use Rattle.rules.specs.declared.quotas.Ratios.{Ratios}
use Rattle.claim.specs.Step.{Memory}

module _ (lent : Memory) where
  abbrev lengths : Type 0
  lengths = (length lent.register ≡ register_length) × (length lent.book ≡ book_length)

  -- a proper opening: every slice has its length
  open_known : open_refusal lent ≡ 0 → lengths
  unfolding open_refusal
  open_known e = go (eqb (length lent.register) register_length && rest) refl e
    where
      rest : Bool
      rest = eqb (length lent.book) book_length && (eqb (length lent.places) (place_words * places_lent lent) && is_places (places_lent lent))

      go : (t : Bool) → (eqb (length lent.register) register_length && rest) ≡ t → pick t 0 unsound_number ≡ 0 → lengths
      go true q z =
          let a = both (eqb (length lent.register) register_length) rest q in
          let b = both (eqb (length lent.book) book_length) (eqb (length lent.places) (place_words * places_lent lent) && is_places (places_lent lent)) a.1 in
          (eqb-true (length lent.register) register_length a.0, eqb-true (length lent.book) book_length b.0)
      go false q z = absurd (omega arith)

  -- the same, as tactics can use it
  pub open_fits : (1 ≤ open_refusal lent) ⊎ lengths
  open_fits = go (open_refusal lent) refl
    where
      go : (r : ℕ) → open_refusal lent ≡ r → (1 ≤ open_refusal lent) ⊎ lengths
      go zero e = inr (open_known e)
      go (suc r) e = inl (omega arith)

  -- every word 0, then the ratios
  pub register_opened : (xs ys : List ℕ) (t : Ratios) → 0 ≡ open_refusal lent → xs ≡ replicate (length lent.register) 0 → t ≡ old_ratios
      → ys ≡ put_ratios xs t → ys ≡ open_register lent
  unfolding open_register
  register_opened xs ys t e x o y = rw (← e, y, x, o, (open_known (sym e)).0)
