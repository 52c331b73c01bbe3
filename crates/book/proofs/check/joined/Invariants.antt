-- `book::check::joined` meets its contract. Assumes nothing.
use Rattle.std.specs.Prelude.{◌≤◌, take}
use Rattle.std.specs.List.{All}
use Rattle.book.proofs.check.joined.Given as goal

abbrev pub invariant-loop-word : goal.invariant-loop-word
invariant-loop-word l = All (λ word. word ≤ l.m) (take l.word-index l.money)
