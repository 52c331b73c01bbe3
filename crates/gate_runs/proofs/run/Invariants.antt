-- `gate_runs::run` meets its contract. Assumes nothing.
use mathlib.Core.Path.{◌≡◌}
use Rattle.rules.specs.Orders.{shanghai}
use Rattle.claim.specs.Demand.{run}
use Rattle.gate.specs.Lent.{memory_in, SameLent}
use Rattle.gate_runs.specs.Runs.{decoded}
use Rattle.gate_runs.proofs.Ran.{room_after}
use Rattle.gate_runs.proofs.run.Given as goal

abbrev pub invariant-loop-i : goal.invariant-loop-i
invariant-loop-i l = record {
  after : memory_in l.gate ≡ run shanghai (memory_in l.initial.gate) (decoded l.calls l.i);
  answers : l.answers ≡ room_after (memory_in l.initial.gate) l.calls l.initial.answers l.i;
  same : SameLent l.initial.gate l.gate;
}
