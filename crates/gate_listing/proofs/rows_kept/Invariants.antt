-- `gate_listing::rows_kept`: the keys of the rows read so far, and that the rest decides. Assumes nothing.
use Rattle.std.proofs.Common.{◌≡◌, ◌≤◌, length, take, map, ◌&&◌}
use Rattle.listing.specs.Text.{key_of, rows_kept}
use Rattle.listing.specs.Keys.{keys_differ, key_number}
use Rattle.gate_listing.specs.Listed.{rows_on}
use Rattle.gate_listing.proofs.Rows.{rest_kept, rest_new}
use Rattle.gate_listing.proofs.rows_kept.Given as goal

abbrev pub invariant-loop-i : goal.invariant-loop-i
invariant-loop-i l = record {
  room : l.n ≤ length l.keys;
  keys : take l.i l.keys ≡ map key_number (rows_on l.register l.book 0 l.i);
  rest : rows_kept (rows_on l.register l.book 0 l.n) ≡ (rest_kept l.register l.book l.i l.n && keys_differ (map key_of (rows_on l.register l.book 0 l.n)));
  new : rows_kept (rows_on l.register l.book 0 l.n) ≡ rest_new l.register l.book l.i l.n;
}
