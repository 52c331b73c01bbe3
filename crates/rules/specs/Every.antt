-- What holds of every element of a list. Nothing of the paper.
use Rattle.std.specs.Prelude.{ℕ, zero, suc, List, [], ◌∷◌, get_or}

module _ {A : Type 0} (P : A → Type 0) where
  abbrev pub Every : List A → Type 0
  Every [] = Unit {0}
  Every (x ∷ xs) = P x × Every xs

  -- and of each place, with a default of which it holds too
  pub every-at : (d : A) → P d → (xs : List A) → Every xs → (i : ℕ) → P (get_or xs i d)
  every-at d h [] e i = h
  every-at d h (x ∷ xs) e zero = e.0
  every-at d h (x ∷ xs) e (suc i) = every-at d h xs e.1 i
