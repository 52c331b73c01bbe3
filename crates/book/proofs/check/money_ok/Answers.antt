-- `book::check::money_ok` meets its contract. Assumes nothing.
-- Kept (proof): the join stands in a fact alone, and not in what is to be shown: the tactics do not find which one it is.
use Rattle.std.proofs.Common.{arith}
use Rattle.book.proofs.Money.{all_within}
use Rattle.book.proofs.check.money_ok.Goals as goal

pub returns-then-joined-lt4611686018427387904 : goal.returns-then-joined-lt4611686018427387904
returns-then-joined-lt4611686018427387904 c = all_within _ _ _ c.joined.ensures (omega arith)
