-- The rooms' part of the table of answers: texts, and what `readlisting` writes for them, by computation. Expected values are worked out by hand from document
-- 01: own quota × 1,000,000,000 − net. Assumes nothing.
use Rattle.std.specs.Prelude.{◌≡◌, refl, []}
use Prim.Native.String.{String, ◌++◌}
use Rattle.rules.specs.Money.{mils_of}
use Rattle.columns.specs.Column.{byte_at, marked, dashed, number, digits, same, minus, read_plain, read_optional, read_signed, plain_at, optional_at, signed_at, same_at}
use Rattle.columns.specs.Texts.{bytes}
use Rattle.rows.specs.Row.{signed_net, row_obeys, row_kept}
use Rattle.rows.specs.Kept.{money_fits}
use Rattle.rows.specs.Room.{difference, room_under, room_of}
use Rattle.listing.specs.Text.{row_in, row_formed, row_good, fresh, rows_from, rows_good, is_listing, rows_in}
use Rattle.listing.specs.Rooms.{room_text, rooms_text, rooms_of}

infix 10 ◌gives◌
abbrev ◌gives◌ : String → String → Type 0
text gives rooms = rooms_of (bytes text) ≡ bytes rooms

pub record RoomsAnswered : Type 0 where
  -- document 01's row: 5,000,000,000 − 3,740,000,000
  pub paper : "    1 1       8       5           3740000000           2500000000           1240000000                    0\n"
      gives "    1 1           1260000000\n"
  -- where the maximum is none there is none
  pub none : "    1 1       -       -                    7                    7                    0                    0\n"
      gives "    1 1                    -\n"
  -- net one mil below the own quota, at it, one mil above it: 1, 0 and −1
  pub one_left : "    1 3       8       5           4999999999                    0           4999999999                    0\n"
      gives "    1 3                    1\n"
  pub none_left : "    1 3       8       5           5000000000                    0           5000000000                    0\n"
      gives "    1 3                    0\n"
  pub overrun : "    1 3       8       5           5000000001                    0           5000000001                    0\n"
      gives "    1 3                   -1\n"
  -- own quota 0: with net 0 nothing is left, below it what was sold
  pub own_zero : "    0 4       8       0                    0                    0                    0                    0\n"
      gives "    0 4                    0\n"
  pub sold : "    1 1       8       0                   -1                    0                    0                    1\n"
      gives "    1 1                    1\n"
  -- the largest and the smallest room: the top quota with all of L sold, own quota 0 with all of L open
  pub largest : "99999 4 9999999 9999999 -6553599344640000000                    0                    0  6553599344640000000\n"
      gives "99999 4  6563599343640000000\n"
  pub smallest : "99999 4       1       0  6553599344640000000  6553599344640000000                    0                    0\n"
      gives "99999 4 -6553599344640000000\n"
  -- rows in their order
  pub two : "    1 1       8       5           3740000000           2500000000           1240000000                    0\n" ++ "99999 4       1       0  6553599344640000000  6553599344640000000                    0                    0\n"
      gives ("    1 1           1260000000\n" ++ "99999 4 -6553599344640000000\n")
  -- "no groups, no bytes" (Lines and columns)
  pub empty : rooms_of [] ≡ []
  -- what is no listing: a code twice with one class, a missing line feed, a net that is not open + bought − sold, an own quota above the maximum
  pub repeated : "    1 1       8       5           3740000000           2500000000           1240000000                    0\n" ++ "    1 1       8       5           3740000000           2500000000           1240000000                    0\n"
      gives " 21\n"
  pub no_feed : "    1 1       8       5           3740000000           2500000000           1240000000                    0"
      gives " 21\n"
  pub wrong_net : "    1 1       8       5           3740000001           2500000000           1240000000                    0\n"
      gives " 21\n"
  pub above : "    1 1       4       5           3740000000           2500000000           1240000000                    0\n"
      gives " 21\n"

pub rooms_answered : RoomsAnswered
unfolding byte_at marked dashed number digits same minus read_plain read_optional read_signed plain_at optional_at signed_at same_at signed_net money_fits row_obeys row_kept row_in row_formed row_good fresh rows_from rows_good is_listing rows_in mils_of difference room_under room_of room_text rooms_text rooms_of
rooms_answered =
    record {
      paper = refl;
      none = refl;
      one_left = refl;
      none_left = refl;
      overrun = refl;
      own_zero = refl;
      sold = refl;
      largest = refl;
      smallest = refl;
      two = refl;
      empty = refl;
      repeated = refl;
      no_feed = refl;
      wrong_net = refl;
      above = refl;
    }
