-- "A call line is the code, 1 to 11, in 2 columns, four fields of 9, line feed; unused fields are 0. Any other line is malformed." What is written
-- for a call and for an answer, what is read from a line (given without its line feed), and every byte of a buffer after a put. (Lines and columns)
use Rattle.std.specs.Prelude.{ℕ, Bool, true, false, ◌&&◌, ◌||◌, List, [], ◌∷◌, ◌++◌, eqb, leb, length, get_or, Option, Some, None}
use Rattle.std.proofs.Math.Seq.{paste}
use Rattle.rules.specs.Tests.{pick, within}
use Rattle.rules.specs.Codes.{call_of}
use Rattle.rules.specs.declared.calls.Call.{Call}
use Rattle.rules.specs.declared.calls.Call.TheVariants.{Enrol, Attach, Detach, Regular, Raise, Withdraw, OwnQuota, Order, Fill, Cancel, Close}
use Rattle.rules.specs.declared.calls.Answer.{Answer}
use Rattle.columns.specs.Column.{column, fits, plain_at, holds}
use Rattle.callfile.specs.declared.words.Words as code

-- a call as its code and four fields
pub record Words : Type 0 where
  pub code : ℕ
  pub first : ℕ
  pub second : ℕ
  pub third : ℕ
  pub fourth : ℕ

abbrev pub coded : ℕ → ℕ → ℕ → ℕ → ℕ → Words
coded code first second third fourth = record { code = code; first = first; second = second; third = third; fourth = fourth }

-- the same of the code's words, whose fields are an array
abbrev pub spelled : code.Words → Words
spelled w = coded w.code (get_or w.fields 0 0) (get_or w.fields 1 0) (get_or w.fields 2 0) (get_or w.fields 3 0)

-- "Codes, with fields": 1 enrol group (code, class) to 11 close (The eleven calls)
unfoldable pub words_of : Call → Words
words_of (Enrol code class) = coded 1 code class 0 0
words_of (Attach unit group) = coded 2 unit group 0 0
words_of (Detach unit) = coded 3 unit 0 0 0
words_of (Regular declarer group base quota) = coded 4 declarer group base.0 quota.0
words_of (Raise declarer group quota flag) = coded 5 declarer group quota.0 flag
words_of (Withdraw declarer group) = coded 6 declarer group 0 0
words_of (OwnQuota group quota) = coded 7 group quota.0 0 0
words_of (Order unit kind price quantity) = coded 8 unit kind price.0 quantity
words_of (Fill order price quantity) = coded 9 order price.0 quantity 0
words_of (Cancel order) = coded 10 order 0 0 0
words_of Close = coded 11 0 0 0 0

-- ---- what is written

-- the bytes of a call line: "the code .. in 2 columns, four fields of 9"; and with its line feed (Lines and columns)
abbrev pub line_bytes : ℕ
line_bytes = 38

abbrev pub call_bytes : ℕ
call_bytes = 39

-- "the code .. in 2 columns, four fields of 9" (Lines and columns)
unfoldable pub line_text : Words → List ℕ
line_text w = column 2 w.code ++ column 9 w.first ++ column 9 w.second ++ column 9 w.third ++ column 9 w.fourth

-- "line feed" (Lines and columns)
unfoldable pub call_text : Call → List ℕ
call_text call = line_text (words_of call) ++ (10 ∷ [])

-- "the refusal number or 0 in 3 columns and the group or order number given (else 0) in 6, line feed" (Lines and columns)
unfoldable pub answer_text : Answer → List ℕ
answer_text answer = column 3 answer.refusal ++ column 6 answer.number ++ (10 ∷ [])

-- room in the columns
unfoldable pub words_fit : Words → Bool
words_fit w = fits 2 w.code && (fits 9 w.first && (fits 9 w.second && (fits 9 w.third && fits 9 w.fourth)))

abbrev pub call_fits : Call → Bool
call_fits call = words_fit (words_of call)

abbrev pub answer_fits : Answer → Bool
answer_fits answer = fits 3 answer.refusal && fits 6 answer.number

-- ---- what is read

-- how many fields each call has, by its code
unfoldable pub fields : ℕ → ℕ
fields code = get_or (0 ∷ 2 ∷ 2 ∷ 1 ∷ 4 ∷ 4 ∷ 2 ∷ 2 ∷ 4 ∷ 3 ∷ 1 ∷ 0 ∷ []) code 0

-- field i, counted from 1, of a call with n fields: "unused fields are 0" (Lines and columns)
abbrev pub used_or_zero : ℕ → ℕ → ℕ → Bool
used_or_zero n i x = leb i n || eqb x 0

-- "the code, 1 to 11" (Lines and columns)
unfoldable pub is_call : Words → Bool
is_call w =
    within 1 11 w.code
    && (used_or_zero (fields w.code) 1 w.first && (used_or_zero (fields w.code) 2 w.second
    && (used_or_zero (fields w.code) 3 w.third && used_or_zero (fields w.code) 4 w.fourth)))

unfoldable pub line_of : List ℕ → Words
line_of t = coded (plain_at t 0 2).number (plain_at t 2 9).number (plain_at t 11 9).number (plain_at t 20 9).number (plain_at t 29 9).number

unfoldable pub columns_formed : List ℕ → Bool
columns_formed t =
    (plain_at t 0 2).formed && ((plain_at t 2 9).formed && ((plain_at t 11 9).formed && ((plain_at t 20 9).formed && (plain_at t 29 9).formed)))

unfoldable pub line_formed : List ℕ → Bool
line_formed t = eqb (length t) line_bytes && (columns_formed t && is_call (line_of t))

abbrev pub call_from : Words → Call
call_from w = call_of w.code w.first w.second w.third w.fourth

-- what a line says; where it is not formed, the call is none of the eleven
pub record Line : Type 0 where
  pub formed : Bool
  pub call : Call

-- and what of it is told: the call, where the line is formed
abbrev pub formed_call : Line → Option Call
formed_call l = pick l.formed (Some l.call) None

-- "Any other line is malformed." (Lines and columns)
abbrev pub malformed : Line
malformed = record { formed = false; call = call_of 0 0 0 0 0 }

unfoldable pub read_line : List ℕ → Line
read_line t = pick (line_formed t) (record { formed = true; call = call_from (line_of t) }) malformed

-- ---- put into a buffer: the other bytes stay, and all of them where there is no room

unfoldable pub call_put : List ℕ → ℕ → Call → List ℕ
call_put d at call = pick (holds (length d) at call_bytes && call_fits call) (paste d at (call_text call) call_bytes) d

unfoldable pub answer_put : List ℕ → ℕ → Answer → List ℕ
answer_put d at answer = pick (holds (length d) at 10 && answer_fits answer) (paste d at (answer_text answer) 10) d
