-- `pairs::searched` meets its contract. Assumes nothing.
-- Kept (proof): where the search began stands in facts alone, and not in what is to be shown.
use Rattle.std.proofs.Common.{sym, ◌∙◌}
use Rattle.pairs.proofs.Search.{position_later, position_nowhere}
use Rattle.pairs.proofs.searched.Goals as goal

pub returns-in_err-later : goal.returns-in_err-later
returns-in_err-later c =
    c.from_residual.ensures ∙ position_nowhere c.args.ws.now c.skip-from.result c.args.key c.skip-from.ensures.1 (sym c.first_of.ensures ∙ c.in_err-later.was)

pub returns : goal.returns
returns c = position_later c.args.ws.now c.skip-from.result c.args.key c.skip-from.ensures.1 c.in_ok-later.later c.skip-from.ensures.0 (sym c.first_of.ensures ∙ c.in_ok-later.was)
