-- `register_groups::gathered` meets its contract. Assumes nothing.
use Rattle.std.proofs.Common.{◌≡◌, length}
use Rattle.register.proofs.Steps.{Gathered}
use Rattle.register.specs.Layout.{record_words}
use Rattle.register_groups.proofs.gathered.Given as goal

abbrev pub invariant-loop-k : goal.invariant-loop-k
invariant-loop-k l = (length l.r ≡ record_words) × Gathered l.register l.i l.r l.k
