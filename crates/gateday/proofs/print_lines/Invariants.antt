-- So far the text was told as `Begun` says, an equation for each of its two; each turn that goes on tells a byte more.
use Rattle.std.proofs.Common.{◌≡◌, length, drop, ◌+◌, ◌-◌, ◌≤◌}
use Rattle.gate.specs.Lent.{memory_in, SameLent}
use Rattle.day.specs.Whole.{told_all}
use Rattle.gateday.proofs.print_lines.Given as goal

abbrev pub invariant-loop-from : goal.invariant-loop-from
invariant-loop-from g l = record {
  within : l.from ≤ length l.text;
  used : (told_all (memory_in l.fn.gate) l.text).used ≡ l.from + (told_all (memory_in l.gate) (drop l.from l.text)).used;
  memory : (told_all (memory_in l.fn.gate) l.text).memory ≡ (told_all (memory_in l.gate) (drop l.from l.text)).memory;
  same : SameLent l.fn.gate l.gate;
}

abbrev pub decreases-loop-from : goal.decreases-loop-from
decreases-loop-from g l = length l.text - l.from
