-- What is held of the input lies within its buffer.
use Rattle.std.proofs.Common.{length, ◌≤◌}
use Rattle.gateday.proofs.print_day.Given as goal

abbrev pub invariant-loop : goal.invariant-loop
invariant-loop g l = l.filled ≤ length l.input
