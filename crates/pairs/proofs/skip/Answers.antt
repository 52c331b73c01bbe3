-- `pairs::skip` meets its contract. Assumes nothing.
-- Kept (proof): blocks of sixteen and the words that they are made of: a step that no lemma's first call shows.
use Prim.Native.Nat.{ℕ, ◌/◌}
use mathlib.Core.Path.{◌≡◌, ap, ◌∙◌}
use mathlib.Core.List.{List}
use native.Mathlib.Omega.{arith}
use lib.Dec.{eqb}
use lib.ListN.{length}
use Rattle.std.specs.Option.{unwrap_or}
use Rattle.std.specs.List.{list_any, position, position_or_len}
use Rattle.std.specs.Simd.{first_chunks}
use Rattle.pairs.proofs.Search.{blocks_lack, position_or, place_least}
use Rattle.pairs.proofs.skip.Goals as goal

pub returns : goal.returns
returns c =
    let ws = c.args.ws.now in
    let n : ℕ = length ws / 16 in
    let test = λ (block : List ℕ). list_any (λ word. eqb word c.args.key) block in
    let b : c.unwrap_or.result ≡ position_or_len test (first_chunks 16 n ws) =
    c.unwrap_or.ensures
    ∙ ap (λ o. unwrap_or o (length c.as_chunks.result.0.now)) c.block_of.ensures
    ∙ ap (λ (l : List (List ℕ)). unwrap_or (position test l) (length l)) c.as_chunks.ensures.front
    ∙ position_or test (first_chunks 16 n ws) in
    let m = place_least test n ws in
    (omega arith, rw b (blocks_lack ws n c.args.key (omega arith)))
