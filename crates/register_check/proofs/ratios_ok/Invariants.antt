-- `register_check::ratios_ok` meets its contract. Assumes nothing.
use Rattle.std.proofs.Common.{◌≡◌}
use Rattle.words.specs.Each.{all_below}
use Rattle.register.specs.Check.{ratio_ok}
use Rattle.register_check.proofs.ratios_ok.Given as goal

abbrev pub invariant-loop-word : goal.invariant-loop-word
invariant-loop-word l = l.ok ≡ all_below l.word-index (ratio_ok l.register)
