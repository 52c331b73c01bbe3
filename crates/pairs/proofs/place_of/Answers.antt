-- `pairs::place_of` meets its contract. Assumes nothing.
-- Kept (proof): a key above 32 bits is no word: the tactics do not read `try_from`'s clause backwards.
use Rattle.std.proofs.Common.{◌∙◌, arith}
use Rattle.pairs.proofs.Search.{above_words, position_above}
use Rattle.pairs.proofs.place_of.Goals as goal

pub returns-in_err-ok : goal.returns-in_err-ok
returns-in_err-ok c =
    let a = above_words c.try_from.result c.args.key c.try_from.ensures c.in_err-ok.ensures.value in
    c.from_residual.ensures ∙ position_above c.args.ws.now 4294967296 c.args.key (λ k. let f = c.type_inv.ws k in omega arith) a
