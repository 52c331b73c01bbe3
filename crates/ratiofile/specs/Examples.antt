-- Examples by computation, worked out from 2026-01, "Our own ratio table", and document 01, "Lines and columns": files that are formed, both ways, and texts
-- broken in one place each. Assumes nothing.
use Rattle.std.specs.Prelude.{ℕ, ◌≡◌, refl, true, false, set}
use Prim.Native.String.{String, ◌++◌}
use Rattle.rules.specs.declared.loads.RatioLine.{RatioLine}
use Rattle.rules.specs.Loads.{FileRead}
use Rattle.columns.specs.Column.{byte_at, marked, number, digits, same, read_plain, plain_at}
use Rattle.columns.specs.Texts.{bytes}
use Rattle.ratiofile.specs.File.{line_text, file_text, line_in, file_formed, file_of, file_in}

abbrev line : ℕ → ℕ → ℕ → RatioLine
line class numerator denominator = record { class = class; numerator = numerator; denominator = denominator }

-- the text is what is written for the file, and the file is what is read from the text
abbrev Says : String → FileRead → Type 0
Says t f = (file_text f ≡ bytes t) × (file_in (bytes t) ≡ f)

-- of a text that is not formed nothing is kept
abbrev nothing : FileRead
nothing = file_of false (line 0 0 0) (line 0 0 0) (line 0 0 0)

abbrev NotFormed : String → Type 0
NotFormed t = file_in (bytes t) ≡ nothing

abbrev ours : String
ours = " 1   5   2\n 3   1   1\n 4   1   1\n"

-- these ten bytes are no line of a file: not its first, not its second, not its third
abbrev NoLine : String → Type 0
NoLine l =
    NotFormed (l ++ "\n 3   1   1\n 4   1   1\n") × NotFormed (" 1   5   2\n" ++ l ++ "\n 4   1   1\n")
    × NotFormed (" 1   5   2\n 3   1   1\n" ++ l ++ "\n")

pub record Examples : Type 0 where
  -- "5/2, 1/1, 1/1", for classes 1, 3 and 4; both ends of "1 to 100"; a number of its own in each column (2026-01)
  pub paper : Says " 1   5   2\n 3   1   1\n 4   1   1\n" (file_of true (line 1 5 2) (line 3 1 1) (line 4 1 1))
  pub top : Says " 1 100 100\n 3 100   1\n 4   1 100\n" (file_of true (line 1 100 100) (line 3 100 1) (line 4 1 100))
  pub own_columns : Says " 1   2   3\n 4   5   6\n 7   8   9\n" (file_of true (line 1 2 3) (line 4 5 6) (line 7 8 9))
  -- formed, whatever the numbers: out of range, out of order, at the width of the columns (rules/specs/Loads.antt decides)
  pub out_of_range : Says " 9   0 101\n 0 101   0\n10   0   0\n" (file_of true (line 9 0 101) (line 0 101 0) (line 10 0 0))
  pub widest : Says "9999999999\n9999999999\n9999999999\n" (file_of true (line 99 9999 9999) (line 99 9999 9999) (line 99 9999 9999))
  pub zeros : Says " 0   0   0\n 0   0   0\n 0   0   0\n" (file_of true (line 0 0 0) (line 0 0 0) (line 0 0 0))
  pub out_of_order : Says " 4   1   1\n 3   1   1\n 1   5   2\n" (file_of true (line 4 1 1) (line 3 1 1) (line 1 5 2))
  pub class_two : Says " 2   1   1\n 2   1   1\n 2   1   1\n" (file_of true (line 2 1 1) (line 2 1 1) (line 2 1 1))
  -- "three lines": 33 bytes (2026-01)
  pub empty : NotFormed ""
  pub line_feed_alone : NotFormed "\n"
  pub one_line : NotFormed " 1   5   2\n"
  pub two-lines : NotFormed " 1   5   2\n 3   1   1\n"
  pub four_lines : NotFormed " 1   5   2\n 3   1   1\n 4   1   1\n 4   1   1\n"
  pub bytes_32 : NotFormed " 1   5   2\n 3   1   1\n 4   1   1"
  pub bytes_34_blank : NotFormed " 1   5   2\n 3   1   1\n 4   1   1\n "
  pub bytes_34_line_feed : NotFormed " 1   5   2\n 3   1   1\n 4   1   1\n\n"
  pub bytes_34_blank_in_front : NotFormed "  1   5   2\n 3   1   1\n 4   1   1\n"
  pub carriage_returns : NotFormed " 1   5   2\r\n 3   1   1\r\n 4   1   1\r\n"
  pub blanks : NotFormed "                                 "
  -- "line feed", behind each line (2026-01)
  pub first_feed_blank : NotFormed " 1   5   2  3   1   1\n 4   1   1\n"
  pub second_feed_blank : NotFormed " 1   5   2\n 3   1   1  4   1   1\n"
  pub last_feed_blank : NotFormed " 1   5   2\n 3   1   1\n 4   1   1 "
  pub first_feed_return : NotFormed " 1   5   2\r 3   1   1\n 4   1   1\n"
  pub last_feed_return : NotFormed " 1   5   2\n 3   1   1\n 4   1   1\r"
  pub last_feed_digit : NotFormed " 1   5   2\n 3   1   1\n 4   1   10"
  pub last_feed_letter : NotFormed " 1   5   2\n 3   1   1\n 4   1   1n"
  pub last_feed_tab : NotFormed " 1   5   2\n 3   1   1\n 4   1   1\t"
  pub feed_one_early : NotFormed " 1   5  2\n\n 3   1   1\n 4   1   1\n"
  pub return_in_the_column : NotFormed " 1   5  2\r\n 3   1   1\n 4   1   1\n"
  pub lines_of_ten_and_twelve : NotFormed " 1   5  2\n 3    1   1\n 4   1   1\n"
  -- "right-justified with blanks, no leading zeros, no plus, a minus only in net": each column, in each line (Lines and columns)
  pub class_leading_zero : NoLine "01   1   1"
  pub numerator_leading_zero : NoLine " 1  01   1"
  pub denominator_leading_zero : NoLine " 1   1  01"
  pub class_zeros_only : NoLine "00   1   1"
  pub numerator_zeros_only : NoLine " 10000   1"
  pub denominator_zeros_only : NoLine " 1   10000"
  pub class_left_justified : NoLine "1    1   1"
  pub numerator_left_justified : NoLine " 11      1"
  pub denominator_left_justified : NoLine " 1   11   "
  pub numerator_blank_behind : NoLine " 1  1    1"
  pub denominator_blank_behind : NoLine " 1   1  1 "
  pub numerator_blank-within : NoLine " 1 1 1   1"
  pub denominator_blank-within : NoLine " 1   1 1 1"
  pub class_blank : NoLine "     1   1"
  pub numerator_blank : NoLine " 1       1"
  pub denominator_blank : NoLine " 1   1    "
  pub class_minus : NoLine "-1   1   1"
  pub numerator_minus : NoLine " 1  -1   1"
  pub denominator_minus : NoLine " 1   1  -1"
  pub class_dash : NoLine " -   1   1"
  pub numerator_dash : NoLine " 1   -   1"
  pub denominator_dash : NoLine " 1   1   -"
  pub class_plus : NoLine "+1   1   1"
  pub numerator_plus : NoLine " 1  +1   1"
  pub denominator_plus : NoLine " 1   1  +1"
  pub class_letter : NoLine " a   1   1"
  pub numerator_letter : NoLine " 1   x   1"
  pub denominator_letter : NoLine " 1   1   x"
  pub class_tab : NoLine "\t1   1   1"
  pub numerator_tab : NoLine " 1\t  1   1"
  pub denominator_tab : NoLine " 1   1\t  1"
  pub class_feed_within : NoLine "\n1   1   1"
  pub numerator_feed_within : NoLine " 1  \n1   1"
  pub denominator_feed_within : NoLine " 1   1  \n1"
  pub numerator_point : NoLine " 1 1.0   1"
  pub denominator_point : NoLine " 1   1 1.0"
  pub class_return : NoLine "\r1   1   1"
  pub numerator_return : NoLine " 1  1\r   1"
  pub denominator_return : NoLine " 1   1  1\r"
  -- each column one place to the left, or to the right
  pub one_to_the_left : NoLine "1   1   1 "
  pub one_to_the_right : NoLine "  1   1   "
  -- bytes that no quoted text has: 0 for a blank, and the digit 1 with its top bit
  pub zero_byte : file_in (set (bytes ours) 0 0) ≡ nothing
  pub top_bit : file_in (set (bytes ours) 1 177) ≡ nothing

pub examples : Examples
unfolding byte_at marked number digits same read_plain plain_at line_text file_text line_in file_formed file_in
examples =
    record {
      paper = (refl, refl);
      top = (refl, refl);
      own_columns = (refl, refl);
      out_of_range = (refl, refl);
      widest = (refl, refl);
      zeros = (refl, refl);
      out_of_order = (refl, refl);
      class_two = (refl, refl);
      empty = refl;
      line_feed_alone = refl;
      one_line = refl;
      two-lines = refl;
      four_lines = refl;
      bytes_32 = refl;
      bytes_34_blank = refl;
      bytes_34_line_feed = refl;
      bytes_34_blank_in_front = refl;
      carriage_returns = refl;
      blanks = refl;
      first_feed_blank = refl;
      second_feed_blank = refl;
      last_feed_blank = refl;
      first_feed_return = refl;
      last_feed_return = refl;
      last_feed_digit = refl;
      last_feed_letter = refl;
      last_feed_tab = refl;
      feed_one_early = refl;
      return_in_the_column = refl;
      lines_of_ten_and_twelve = refl;
      class_leading_zero = (refl, refl, refl);
      numerator_leading_zero = (refl, refl, refl);
      denominator_leading_zero = (refl, refl, refl);
      class_zeros_only = (refl, refl, refl);
      numerator_zeros_only = (refl, refl, refl);
      denominator_zeros_only = (refl, refl, refl);
      class_left_justified = (refl, refl, refl);
      numerator_left_justified = (refl, refl, refl);
      denominator_left_justified = (refl, refl, refl);
      numerator_blank_behind = (refl, refl, refl);
      denominator_blank_behind = (refl, refl, refl);
      numerator_blank-within = (refl, refl, refl);
      denominator_blank-within = (refl, refl, refl);
      class_blank = (refl, refl, refl);
      numerator_blank = (refl, refl, refl);
      denominator_blank = (refl, refl, refl);
      class_minus = (refl, refl, refl);
      numerator_minus = (refl, refl, refl);
      denominator_minus = (refl, refl, refl);
      class_dash = (refl, refl, refl);
      numerator_dash = (refl, refl, refl);
      denominator_dash = (refl, refl, refl);
      class_plus = (refl, refl, refl);
      numerator_plus = (refl, refl, refl);
      denominator_plus = (refl, refl, refl);
      class_letter = (refl, refl, refl);
      numerator_letter = (refl, refl, refl);
      denominator_letter = (refl, refl, refl);
      class_tab = (refl, refl, refl);
      numerator_tab = (refl, refl, refl);
      denominator_tab = (refl, refl, refl);
      class_feed_within = (refl, refl, refl);
      numerator_feed_within = (refl, refl, refl);
      denominator_feed_within = (refl, refl, refl);
      numerator_point = (refl, refl, refl);
      denominator_point = (refl, refl, refl);
      class_return = (refl, refl, refl);
      numerator_return = (refl, refl, refl);
      denominator_return = (refl, refl, refl);
      one_to_the_left = (refl, refl, refl);
      one_to_the_right = (refl, refl, refl);
      zero_byte = refl;
      top_bit = refl;
    }
