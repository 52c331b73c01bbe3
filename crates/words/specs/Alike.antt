-- Two memories that have the same word at a place. Nothing of the paper.
use Rattle.std.specs.Prelude.{ℕ, ◌≡◌, List, get_or}

module _ (vs ws : List ℕ) where
  abbrev pub AlikeAt : ℕ → Type 0
  AlikeAt i = get_or vs i 0 ≡ get_or ws i 0

  pub alike_at : (i j : ℕ) → j ≡ i → AlikeAt j → AlikeAt i
  alike_at i j e a = rw e at a
