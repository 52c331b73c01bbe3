-- `book::check::each_ok` meets its contract. Assumes nothing.
use Rattle.std.proofs.Common.{◌≡◌}
use Rattle.std.specs.Prelude.{leb, take}
use Rattle.std.specs.List.{list_all}
use Rattle.rules.specs.Limits.{top_money}
use Rattle.book.proofs.check.each_ok.Given as goal

abbrev pub invariant-loop-word : goal.invariant-loop-word
invariant-loop-word l = l.ok ≡ list_all (λ word. leb word top_money) (take l.word-index l.money)
