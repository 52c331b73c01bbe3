-- `columns_write::tabled::is_marked` meets its contract. Assumes nothing.
use Rattle.std.proofs.Common.{◌≡◌, length, take}
use Rattle.columns.specs.Column.{marked, same}
use Rattle.columns_write.proofs.tabled.is_marked.Given as goal

abbrev pub invariant-loop-i : goal.invariant-loop-i
invariant-loop-i l = same l.column (marked l.mark (length l.column) l.n) ≡ same (take l.i l.column) (marked l.mark l.i l.rest)
