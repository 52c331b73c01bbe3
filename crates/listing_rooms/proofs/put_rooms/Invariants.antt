-- `listing_rooms::put_rooms`: the reader stands before row i, and the lines of the rows before it are written. Assumes nothing.
use Rattle.std.proofs.Common.{◌≡◌, ◌*◌, take}
use Rattle.std.proofs.Math.Seq.{paste}
use Rattle.rules.specs.Numbers.{refusal_number}
use Rattle.listing.specs.Text.{rows_in, row_bytes}
use Rattle.listing.specs.Rooms.{room_bytes, rooms_text}
use Rattle.listing_rooms.proofs.put_rooms.Given as goal

abbrev pub invariant-loop-i : goal.invariant-loop-i
invariant-loop-i l = record {
  checked : refusal_number l.reader.checked ≡ 0;
  text : l.reader.text ≡ l.fn.reader.text;
  place : l.reader.at ≡ row_bytes * l.i;
  out : l.out ≡ paste l.initial.out 0 (rooms_text (take l.i (rows_in l.fn.reader.text.now))) (room_bytes * l.i);
}
