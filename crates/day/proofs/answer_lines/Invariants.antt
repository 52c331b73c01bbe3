-- After k lines the text is told up to `used`, as `Reached` says.
use Rattle.std.proofs.Common.{◌≡◌, ◌/◌, length}
use Rattle.gate.specs.Lent.{memory_in, SameLent}
use Rattle.day.proofs.Telling.{Reached}
use Rattle.day.proofs.answer_lines.Given as goal

abbrev pub invariant-loop-k : goal.invariant-loop-k
invariant-loop-k l = record {
  room : l.room ≡ length l.initial.out / 10;
  told : Reached (memory_in l.initial.gate) l.text l.initial.out l.k l.used (memory_in l.gate) l.out;
  same : SameLent l.initial.gate l.gate;
}
