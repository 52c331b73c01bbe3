-- `gate_listing::put_rows`: the rows before group i are written, and those from it on keep the rules. Assumes nothing.
use Rattle.std.proofs.Common.{◌≡◌, ◌*◌, ◌-◌, true}
use Rattle.std.proofs.Math.Seq.{paste}
use Rattle.listing.specs.Text.{listing_text, rows_kept, row_bytes}
use Rattle.gate_listing.specs.Listed.{rows_on}
use Rattle.gate_listing.proofs.put_rows.Given as goal

abbrev pub invariant-loop-i : goal.invariant-loop-i
invariant-loop-i l = record {
  written : l.buffer ≡ paste l.initial.buffer 0 (listing_text (rows_on l.register l.book 0 l.i)) (row_bytes * l.i);
  rest : rows_kept (rows_on l.register l.book l.i (l.n - l.i)) ≡ true;
}
