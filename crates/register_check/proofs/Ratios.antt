-- A word of the ratios, read from their slice.
use Rattle.std.specs.Prelude.{ℕ, List, ◌+◌, ◌<◌, ◌≡◌, take, drop, get_or}
use Rattle.std.proofs.Common.{◌∙◌, get_or-take, get_or-drop}

pub ratio_read : (ws : List ℕ) (i : ℕ) → i < 6 → get_or (take 6 (drop 2 ws)) i 0 ≡ get_or ws (2 + i) 0
ratio_read ws i l = get_or-take 6 (drop 2 ws) i 0 l ∙ get_or-drop 2 ws i 0
