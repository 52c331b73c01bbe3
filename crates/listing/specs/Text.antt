-- "A listing line is one group in enrolment order: code 5 columns, class 2, maximum 8, own quota 8, net 21, open buys 21, bought 21, sold 21,
-- line feed." What is written for rows, and which texts are read as rows. A text is a list of bytes: 10 is the line feed. (Lines and columns)
use Rattle.std.specs.Prelude.{ℕ, zero, suc, ◌+◌, ◌/◌, ◌%◌, Bool, true, false, not, ◌&&◌, List, [], ◌∷◌, ◌++◌, eqb, leb, length, take, drop, Option, Some, None}
use Rattle.std.proofs.Math.Seq.{paste}
use Rattle.rules.specs.Tests.{pick}
use Rattle.rules.specs.Limits.{most_groups}
use Rattle.rules.specs.Money.{millions, mils, Limit}
use Rattle.rules.specs.Refusals.{malformed_number}
use Rattle.columns.specs.Column.{column, optional_text, signed_text, part, holds, plain_at, optional_at, signed_at, same_at, optional_put}
use Rattle.columns.specs.Reading.{Optional}
use Rattle.rows.specs.Row.{row_kept}
use Rattle.rows.specs.declared.Row.{Row}
use Rattle.listing.specs.declared.keys.Key.{Key}
use Rattle.listing.specs.declared.reader.ListingReader.{ListingReader}
use Rattle.listing.specs.declared.texts.Step.{Step}
use Rattle.listing.specs.declared.texts.Step.TheVariants.{Next, Broken, End}

-- ---- one row

-- its bytes: columns of 5, 2, 8, 8, 21, 21, 21, 21, and the line feed
abbrev pub row_bytes : ℕ
row_bytes = 108

-- ""-" stands for a maximum of none, and then for own quota" (Lines and columns)
abbrev pub is_set : Limit → Bool
is_set None = false
is_set (Some quota) = true

abbrev pub millions_in : Limit → ℕ
millions_in None = 0
millions_in (Some quota) = quota.0

abbrev pub limit_text : Limit → List ℕ
limit_text limit = optional_text 8 (is_set limit) (millions_in limit)

unfoldable pub row_text : Row → List ℕ
row_text r =
    column 5 r.code ++ column 2 r.class ++ limit_text r.maximum ++ limit_text r.own
    ++ signed_text 21 r.below r.net.0 ++ column 21 r.money.«open».0 ++ column 21 r.money.bought.0 ++ column 21 r.money.sold.0
    ++ (10 ∷ [])

-- the row that the columns of a line say
abbrev pub limit_of : Optional → Limit
limit_of o = pick o.present (Some (millions o.number)) None

unfoldable pub row_in : List ℕ → Row
row_in l =
    record {
      code = (plain_at l 0 5).number;
      class = (plain_at l 5 2).number;
      maximum = limit_of (optional_at l 7 8);
      own = limit_of (optional_at l 15 8);
      money = record { «open» = mils (plain_at l 44 21).number; bought = mils (plain_at l 65 21).number; sold = mils (plain_at l 86 21).number };
      below = (signed_at l 23 21).below;
      net = mils (signed_at l 23 21).size;
    }

-- each column is formed, and the line feed stands at the end
unfoldable pub row_formed : List ℕ → Bool
row_formed l =
    (plain_at l 0 5).formed && (plain_at l 5 2).formed && (optional_at l 7 8).formed && (optional_at l 15 8).formed
    && (signed_at l 23 21).formed && (plain_at l 44 21).formed && (plain_at l 65 21).formed && (plain_at l 86 21).formed
    && same_at l 107 (10 ∷ [])

-- a line is a row: 108 bytes, formed, and "A row obeys: .." holds of it (Lines and columns)
unfoldable pub row_good : List ℕ → Bool
row_good l = eqb (length l) row_bytes && (row_formed l && row_kept (row_in l))

-- what a line says: its row, where it is one
abbrev pub read_line : List ℕ → Option Row
read_line l = pick (row_good l) (Some (row_in l)) None

-- put into a buffer from at on: a limit; the maximum, and behind it the own quota
abbrev pub limit_put : List ℕ → ℕ → Limit → List ℕ
limit_put d at limit = optional_put d at 8 (is_set limit) (millions_in limit)

abbrev pub limits_put : List ℕ → ℕ → Limit → Limit → List ℕ
limits_put d at maximum own = limit_put (limit_put d at maximum) (at + 8) own

-- a row put into a buffer from at on, where it keeps its rules and there is room
unfoldable pub row_put : List ℕ → ℕ → Row → List ℕ
row_put d at r = pick (row_kept r && holds (length d) at row_bytes) (paste d at (row_text r) row_bytes) d

-- ---- rows one after the other

-- "No header; no groups, no bytes." (Lines and columns)
unfoldable pub listing_text : List Row → List ℕ
listing_text [] = []
listing_text (r ∷ rs) = row_text r ++ listing_text rs

-- "code with class not repeated" (Lines and columns)
abbrev pub key_of : Row → Key
key_of r = record { code = r.code; class = r.class }

abbrev pub same_key : Row → Row → Bool
same_key r s = eqb r.code s.code && eqb r.class s.class

unfoldable pub fresh : Row → List Row → Bool
fresh r [] = true
fresh r (s ∷ rs) = not (same_key r s) && fresh r rs

unfoldable pub rows_kept : List Row → Bool
rows_kept [] = true
rows_kept (r ∷ rs) = row_kept r && (fresh r rs && rows_kept rs)

-- "at most 64 rows" (Lines and columns)
unfoldable pub listing_kept : List Row → Bool
listing_kept rs = leb (length rs) most_groups && rows_kept rs

-- the first n rows of a text, and whether each is one and none repeats the code and class of another
unfoldable pub rows_from : ℕ → List ℕ → List Row
rows_from zero t = []
rows_from (suc n) t = row_in (take row_bytes t) ∷ rows_from n (drop row_bytes t)

unfoldable pub rows_good : ℕ → List ℕ → Bool
rows_good zero t = true
rows_good (suc n) t = row_good (take row_bytes t) && (fresh (row_in (take row_bytes t)) (rows_from n (drop row_bytes t)) && rows_good n (drop row_bytes t))

-- the whole text is a listing; the rows that it has
unfoldable pub is_listing : List ℕ → Bool
is_listing t = eqb (length t % row_bytes) 0 && (leb (length t / row_bytes) most_groups && rows_good (length t / row_bytes) t)

unfoldable pub rows_in : List ℕ → List Row
rows_in t = rows_from (length t / row_bytes) t

abbrev pub refusal_of_text : List ℕ → ℕ
refusal_of_text t = pick (not (is_listing t)) malformed_number 0

-- "then hands out the rows one after the other": what stands at a place (Lines and columns)
abbrev pub line_step : Option Row → Step
line_step None = Broken
line_step (Some row) = Next row

unfoldable pub step_at : List ℕ → ℕ → Step
step_at t at = pick (holds (length t) at row_bytes) (line_step (read_line (part t at row_bytes))) End

-- the same by a reader whose text was refused by that number, or by 0: a refused text hands out no row
unfoldable pub step_in : List ℕ → ℕ → ℕ → Step
step_in t at refusal = pick (eqb refusal 0) (step_at t at) Broken

-- what a reader of a text finds at a place: the whole text is checked first
abbrev pub step_of : List ℕ → ℕ → Step
step_of t at = step_in t at (refusal_of_text t)

-- the place behind the row at a place, and a reader that has moved on to it
unfoldable pub next_at : List ℕ → ℕ → ℕ
next_at t at = pick (holds (length t) at row_bytes) (at + row_bytes) at

abbrev pub moved_on : ListingReader → ListingReader
moved_on r = record { text = r.text; at = next_at r.text.now r.at; checked = r.checked }

-- what a case says: the refusal list's number, 0 for none
abbrev pub number_of : Step → ℕ
number_of (Next row) = 0
number_of Broken = malformed_number
number_of End = 0
