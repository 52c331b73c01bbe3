-- `columns_write::written::put_over` meets its contract. Assumes nothing.
use Rattle.std.proofs.Common.{◌≡◌, ◌++◌, length, take, drop}
use Rattle.std.proofs.Math.ListN.{replicate}
use Rattle.columns.specs.Column.{marked}
use Rattle.columns_write.proofs.written.put_over.Given as goal

abbrev pub invariant-loop-i : goal.invariant-loop-i
invariant-loop-i l =
    (marked l.mark (length l.initial.column) l.n ≡ marked l.mark l.i l.rest ++ drop l.i l.column)
    × (take l.i l.column ≡ replicate l.i 32)
