-- What is filled lies within the text and is what the source has given; each turn that goes on fills more of it.
use Rattle.std.proofs.Common.{length, take, ◌-◌, ◌≤◌}
use Rattle.std.specs.Io.KnownBytes.{Consumes}
use Rattle.streams.proofs.read_text.Given as goal

abbrev pub invariant-loop-filled : goal.invariant-loop-filled
invariant-loop-filled g l = (l.filled ≤ length l.text) × Consumes (g.R.Read.remaining l.initial.source) (g.R.Read.remaining l.source) (take l.filled l.text)

abbrev pub decreases-loop-filled : goal.decreases-loop-filled
decreases-loop-filled g l = length l.initial.text - l.filled
