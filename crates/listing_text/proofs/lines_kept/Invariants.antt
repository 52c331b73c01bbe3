-- `listing_text::lines_kept`: the lines read so far are rows, these are their keys, and the rest decides. Assumes nothing.
use Rattle.std.proofs.Common.{◌≡◌, ◌≤◌, true, length, take, map}
use Rattle.std.specs.List.{list_all}
use Rattle.listing.specs.Text.{row_good}
use Rattle.listing.specs.Keys.{line_key_number, lines_kept_by_number}
use Rattle.listing_text.proofs.Turns.{rest_kept}
use Rattle.listing_text.proofs.lines_kept.Given as goal

abbrev pub invariant-loop-i : goal.invariant-loop-i
invariant-loop-i l = record {
  all : list_all row_good (take l.i l.lines) ≡ true;
  room : length l.lines ≤ length l.keys;
  keys : take l.i l.keys ≡ map line_key_number (take l.i l.lines);
  rest : lines_kept_by_number l.lines ≡ rest_kept l.i l.lines;
}
