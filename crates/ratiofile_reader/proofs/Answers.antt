-- What a line and a file say, column by column and line by line. Assumes nothing.
use mathlib.Core.Path.{◌≡◌, refl}
use mathlib.Core.Bool.{Bool, true, false, ◌&&◌}
use mathlib.Core.List.{List}
use Prim.Native.Nat.{ℕ}
use borrow.Author.Tests.{eq-eqb, ne_eqb}
use lib.Dec.{eqb}
use lib.ListN.{length, get_or}
use Rattle.std.specs.Prelude.{Option, Some, None}
use Rattle.rules.specs.Tests.{pick}
use Rattle.rules.specs.Loads.{read_as}
use Rattle.rules.specs.declared.loads.RatioLine.{RatioLine}
use Rattle.rules.specs.declared.loads.RatioFile.{RatioFile}
use Rattle.columns.specs.Column.{plain_at, part}
use Rattle.columns.specs.Reading.{Plain, formed_plain}
use Rattle.ratiofile.specs.File.{formed_line, line_bytes, file_bytes, line_in, first_line, second_line, third_line, file_formed, file_of, not_formed, file_in}

-- ---- a line

abbrev pub line_says : Option ℕ → Option ℕ → Option ℕ → Bool → Option RatioLine
line_says None q r feed = None
line_says (Some class) None r feed = None
line_says (Some class) (Some numerator) None feed = None
line_says (Some class) (Some numerator) (Some denominator) feed = pick feed (Some (record { class = class; numerator = numerator; denominator = denominator })) None

line_columns : (f g h feed : Bool) (a b c : ℕ)
    → pick (f && (g && (h && feed))) (Some (record { class = a; numerator = b; denominator = c })) None ≡ line_says (pick f (Some a) None) (pick g (Some b) None) (pick h (Some c) None) feed
line_columns false g h feed a b c = refl
line_columns true false h feed a b c = refl
line_columns true true false feed a b c = refl
line_columns true true true feed a b c = refl

pub line_says_is : (t : List ℕ) → formed_line (line_in t) ≡ line_says (formed_plain (plain_at t 0 2)) (formed_plain (plain_at t 2 4)) (formed_plain (plain_at t 6 4)) (eqb (get_or t 10 0) 10)
unfolding line_in
line_says_is t =
    let p : ℕ → ℕ → Plain = plain_at t in
    line_columns (p 0 2).formed (p 2 4).formed (p 6 4).formed (eqb (get_or t 10 0) 10) (p 0 2).number (p 2 4).number (p 6 4).number

-- ---- a file

pub file_long : (t : List ℕ) → (length t ≡ file_bytes → ⊥) → read_as None ≡ file_in t
unfolding file_in file_formed
file_long t h = rw (ne_eqb (length t) file_bytes h)

abbrev pub file_says : Option RatioLine → Option RatioLine → Option RatioLine → Option RatioFile
file_says None q r = None
file_says (Some first) None r = None
file_says (Some first) (Some second) None = None
file_says (Some first) (Some second) (Some third) = Some (record { first = first; second = second; third = third })

file_lines : (f g h : Bool) (a b c : RatioLine)
    → read_as (file_says (pick f (Some a) None) (pick g (Some b) None) (pick h (Some c) None)) ≡ pick (f && (g && h)) (file_of true a b c) not_formed
file_lines false g h a b c = refl
file_lines true false h a b c = refl
file_lines true true false a b c = refl
file_lines true true true a b c = refl

pub file_says_is : (t : List ℕ) → length t ≡ file_bytes
    → read_as (file_says (formed_line (line_in (part t 0 line_bytes))) (formed_line (line_in (part t 11 line_bytes))) (formed_line (line_in (part t 22 line_bytes)))) ≡ file_in t
unfolding file_in file_formed
file_says_is t l =
    rw (eq-eqb (length t) file_bytes l)
    (file_lines (first_line t).formed (second_line t).formed (third_line t).formed (first_line t).numbers (second_line t).numbers (third_line t).numbers)
