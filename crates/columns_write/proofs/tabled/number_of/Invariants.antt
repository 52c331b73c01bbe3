-- `columns_write::tabled::number_of` meets its contract. Assumes nothing.
use Rattle.std.proofs.Common.{◌≡◌, ◌+◌, ◌*◌, ◌-◌, ◌^◌, length, drop}
use Rattle.columns.specs.Column.{number}
use Rattle.columns_write.proofs.tabled.number_of.Given as goal

abbrev pub invariant-loop-b : goal.invariant-loop-b
invariant-loop-b l = number l.column ≡ l.number * 10 ^ (length l.column - l.b-index) + number (drop l.b-index l.column)
