-- 2026-01, "Our own ratio table": "The file is three lines, for classes 1, 3 and 4 in that order: class, numerator and denominator (both 1 to 100), in
-- columns of 2, 4 and 4, line feed." What is written for nine numbers, and what is read from a text. Whether the numbers are in range and the classes in
-- order is not the file's form: rules/specs/Loads.antt refuses those by 2 and by 23. A text is a list of bytes: 10 is a line feed.
use Rattle.std.specs.Prelude.{ℕ, Bool, true, false, ◌&&◌, List, [], ◌∷◌, ◌++◌, eqb, length, get_or, Option, Some, None}
use Rattle.rules.specs.Tests.{pick}
use Rattle.rules.specs.declared.loads.RatioLine.{RatioLine}
use Rattle.rules.specs.Loads.{FileRead, no_numbers}
use Rattle.columns.specs.Column.{column, fits, plain_at, part}

-- the bytes of a line, its line feed with it: 2, 4, 4 and 1; and of "three lines" (2026-01)
abbrev pub line_bytes : ℕ
line_bytes = 11

abbrev pub file_bytes : ℕ
file_bytes = 33

-- ---- what is written

-- "class, numerator and denominator .., in columns of 2, 4 and 4, line feed" (2026-01)
unfoldable pub line_text : RatioLine → List ℕ
line_text l = column 2 l.class ++ column 4 l.numerator ++ column 4 l.denominator ++ (10 ∷ [])

-- "three lines" (2026-01)
unfoldable pub file_text : FileRead → List ℕ
file_text f = line_text f.first ++ line_text f.second ++ line_text f.third

-- room in the columns: a class below 100, a numerator and a denominator below 10,000
abbrev pub line_fits : RatioLine → Bool
line_fits l = fits 2 l.class && (fits 4 l.numerator && fits 4 l.denominator)

unfoldable pub file_fits : FileRead → Bool
file_fits f = line_fits f.first && (line_fits f.second && line_fits f.third)

-- ---- what is read

-- what a line says: formed where its columns are numbers and its last byte is a line feed, whatever the numbers
pub record Line : Type 0 where
  pub formed : Bool
  pub numbers : RatioLine

-- and what of it is told: the numbers, where the line is formed
abbrev pub formed_line : Line → Option RatioLine
formed_line l = pick l.formed (Some l.numbers) None

-- the numbers of a line, and whether the three columns are numbers and a line feed stands behind them
unfoldable pub line_in : List ℕ → Line
line_in t =
    record {
      formed = (plain_at t 0 2).formed && ((plain_at t 2 4).formed && ((plain_at t 6 4).formed && eqb (get_or t 10 0) 10));
      numbers = record { class = (plain_at t 0 2).number; numerator = (plain_at t 2 4).number; denominator = (plain_at t 6 4).number };
    }

abbrev pub first_line : List ℕ → Line
first_line t = line_in (part t 0 line_bytes)

abbrev pub second_line : List ℕ → Line
second_line t = line_in (part t 11 line_bytes)

abbrev pub third_line : List ℕ → Line
third_line t = line_in (part t 22 line_bytes)

-- three lines and not a byte more
unfoldable pub file_formed : List ℕ → Bool
file_formed t = eqb (length t) file_bytes && ((first_line t).formed && ((second_line t).formed && (third_line t).formed))

abbrev pub file_of : Bool → RatioLine → RatioLine → RatioLine → FileRead
file_of formed first second third = record { formed = formed; first = first; second = second; third = third }

-- of a text that is not formed nothing is kept
abbrev pub not_formed : FileRead
not_formed = file_of false no_numbers no_numbers no_numbers

unfoldable pub file_in : List ℕ → FileRead
file_in t = pick (file_formed t) (file_of true (first_line t).numbers (second_line t).numbers (third_line t).numbers) not_formed
