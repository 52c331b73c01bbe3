-- `register_groups::scatter` meets its contract. Assumes nothing.
use Rattle.std.proofs.Common.{◌≡◌}
use Rattle.register.specs.Layout.{put_words}
use Rattle.register_groups.proofs.scatter.Given as goal

abbrev pub invariant-loop-k : goal.invariant-loop-k
invariant-loop-k l = l.register ≡ put_words l.initial.register l.i l.r l.k
