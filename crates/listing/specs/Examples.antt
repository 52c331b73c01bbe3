-- Examples that pin the format, by computation: the laws hold of any format that can be read back. Document 01's row, a row with "-", a net
-- below 0, no rows; and texts that are not listings. Assumes nothing.
use Rattle.std.specs.Prelude.{ℕ, zero, suc, ◌≡◌, refl, true, false, List, [], ◌∷◌, ◌++◌, Some, None}
use Prim.Native.String.{String}
use Rattle.rules.specs.Money.{millions, mils}
use Rattle.columns.specs.Column.{byte_at, marked, dashed, number, digits, same, minus, read_plain, read_optional, read_signed, plain_at, optional_at, signed_at, same_at}
use Rattle.columns.specs.Texts.{bytes}
use Rattle.rows.specs.Row.{signed_net, row_obeys, row_kept}
use Rattle.rows.specs.Kept.{money_fits}
use Rattle.rows.specs.declared.Row.{Row}
use Rattle.listing.specs.Text.{row_text, row_in, row_formed, row_good, listing_text, fresh, rows_kept, listing_kept, rows_from, rows_good, is_listing, rows_in, refusal_of_text, step_at}
use Rattle.listing.specs.Laws.{listing_read}
use Rattle.listing.specs.declared.texts.Step.TheVariants.{Next, End}

-- ---- lines

abbrev pub paper_line : String
paper_line = "    1 1       8       5           3740000000           2500000000           1240000000                    0\n"

abbrev pub none_line : String
none_line = "    1 1       -       -                    0                    0                    0                    0\n"

abbrev pub below_line : String
below_line = "    1 1       8       0                   -1                    0                    0                    1\n"

-- ---- rows

abbrev pub paper_row : Row
paper_row =
    record {
      code = 1;
      class = 1;
      maximum = Some (millions 8);
      own = Some (millions 5);
      money = record { «open» = mils 2_500_000_000; bought = mils 1_240_000_000; sold = mils 0 };
      below = false;
      net = mils 3_740_000_000;
    }

abbrev pub none_row : Row
none_row = record { code = 1; class = 1; maximum = None; own = None; money = record { «open» = mils 0; bought = mils 0; sold = mils 0 }; below = false; net = mils 0 }

abbrev pub below_row : Row
below_row =
    record { code = 1; class = 1; maximum = Some (millions 8); own = Some (millions 0); money = record { «open» = mils 0; bought = mils 0; sold = mils 1 }; below = true; net = mils 1 }

-- as many rows, of different codes
unfoldable pub many : ℕ → List Row
many zero = []
many (suc n) = record { code = n; class = 4; maximum = None; own = None; money = record { «open» = mils 0; bought = mils 0; sold = mils 0 }; below = false; net = mils 0 } ∷ many n

-- written as this text, and read from it
abbrev pub Written : Row → String → Type 0
Written r t = (row_text r ≡ bytes t) × ((is_listing (bytes t) ≡ true) × (rows_in (bytes t) ≡ r ∷ []))

abbrev pub Refused : String → Type 0
Refused t = refusal_of_text (bytes t) ≡ 21

pub record Examples : Type 0 where
  pub paper : Written paper_row paper_line
  pub none : Written none_row none_line
  pub below : Written below_row below_line
  -- "no groups, no bytes" (Lines and columns)
  pub empty : (refusal_of_text [] ≡ 0) × ((rows_in [] ≡ []) × (step_at [] 0 ≡ End))
  pub handed_out : (step_at (bytes paper_line) 0 ≡ Next paper_row) × (step_at (bytes paper_line) 108 ≡ End)
  -- no line feed, a blank or a carriage return in its place, one too many, a header
  pub no_feed : Refused "    1 1       8       5           3740000000           2500000000           1240000000                    0"
  pub blank_for_feed : Refused "    1 1       8       5           3740000000           2500000000           1240000000                    0 "
  pub return : Refused "    1 1       8       5           3740000000           2500000000           1240000000                    0\r\n"
  pub two_feeds : Refused "    1 1       8       5           3740000000           2500000000           1240000000                    0\n\n"
  pub header : Refused " code c maximum     own                  net                 open               bought                 sold\n"
  -- a class that is not controlled; a code with a leading zero
  pub brokerage : Refused "    1 2       8       5           3740000000           2500000000           1240000000                    0\n"
  pub leading_zero : Refused "   01 1       8       5           3740000000           2500000000           1240000000                    0\n"
  -- an own quota above the maximum, "-" for one of the two; an own quota above a maximum of 0
  pub above : Refused "    1 1       5       8           3740000000           2500000000           1240000000                    0\n"
  pub own_missing : Refused "    1 1       8       -           3740000000           2500000000           1240000000                    0\n"
  pub maximum_missing : Refused "    1 1       -       5           3740000000           2500000000           1240000000                    0\n"
  pub above_zero : Refused "    1 1       0       1           3740000000           2500000000           1240000000                    0\n"
  -- a net that is not open + bought − sold, one without its minus, "-0"; a missing amount
  pub wrong_net : Refused "    1 1       8       5           3740000000           2500000000           1240000000                    1\n"
  pub no_minus : Refused "    1 1       8       0                    1                    0                    0                    1\n"
  pub minus_zero : Refused "    1 1       8       5                   -0                    0                    0                    0\n"
  pub no_amount : Refused "    1 1       8       5                    0                    -                    0                    0\n"
  -- open + bought + sold is L, and 1 above L
  pub at_L : refusal_of_text (bytes "    1 1       8       5  6553599344640000000  6553599344640000000                    0                    0\n") ≡ 0
  pub above_L : Refused "    1 1       8       5  6553599344640000001  6553599344640000001                    0                    0\n"
  -- code with class repeated
  pub repeated : refusal_of_text (bytes paper_line ++ bytes below_line) ≡ 21
  -- "at most 64 rows" (Lines and columns)
  pub most : is_listing (listing_text (many 64)) ≡ true
  pub too_many : refusal_of_text (listing_text (many 65)) ≡ 21

pub examples : Examples
unfolding byte_at marked dashed number digits same minus read_plain read_optional read_signed plain_at optional_at signed_at same_at signed_net money_fits row_obeys row_kept row_text row_in row_formed row_good fresh rows_from rows_good is_listing rows_in step_at listing_text rows_kept listing_kept many
examples =
    record {
      paper = (refl, (refl, refl));
      none = (refl, (refl, refl));
      below = (refl, (refl, refl));
      empty = (refl, (refl, refl));
      handed_out = (refl, refl);
      no_feed = refl;
      blank_for_feed = refl;
      return = refl;
      two_feeds = refl;
      header = refl;
      brokerage = refl;
      leading_zero = refl;
      above = refl;
      own_missing = refl;
      maximum_missing = refl;
      above_zero = refl;
      wrong_net = refl;
      no_minus = refl;
      minus_zero = refl;
      no_amount = refl;
      at_L = refl;
      above_L = refl;
      repeated = refl;
      most = (listing_read (many 64) refl).0;
      too_many = refl;
    }
