-- What gateday prints for its input: an answer for each line, in order. "Program `gateday` .. reads call lines from standard input, prints for
-- each the refusal number or 0 in 3 columns and the group or order number given (else 0) in 6, line feed". A text is a list of bytes: 10 is
-- the line feed. (Lines and columns)
use Rattle.std.specs.Prelude.{ℕ, zero, suc, ◌+◌, ◌-◌, ◌/◌, min, ◌≡◌, Bool, ◌&&◌, List, [], ◌∷◌, ◌++◌, eqb, leb, ltb, length, take, drop}
use Rattle.std.proofs.Math.Seq.{paste}
use Rattle.rules.specs.Tests.{pick}
use Rattle.rules.specs.Orders.{shanghai}
use Rattle.rules.specs.Calls.{refused}
use Rattle.rules.specs.Refusals.{malformed_number}
use Rattle.rules.specs.declared.calls.Answer.{Answer}
use Rattle.history.specs.Runs.{Loaded}
use Rattle.claim.specs.Step.{Memory, Stepped, step, step_entry}
use Rattle.ratiofile.specs.File.{file_in}
use Rattle.day.specs.declared.Progress.{Progress}
use Rattle.callfile.specs.Lines.{read_line, answer_text, call_bytes}

-- a line without its line feed: its call's answer and the memory after it; "A malformed line .. prints 21 with 0 and is skipped" (Lines and columns)
unfoldable pub line_step : Memory → List ℕ → Stepped
line_step m line = pick (read_line line).formed (step shanghai m (read_line line).call) (record { answer = refused malformed_number; memory = m })

-- An answer's ten bytes. No answer is wider than its columns; over foreign memory, where that is not known, it is held to them.
abbrev pub held_to : Answer → Answer
held_to a = record { refusal = min a.refusal 999; number = min a.number 999_999 }

unfoldable pub printed : Answer → List ℕ
printed a = answer_text (held_to a)

-- the bytes before the first line feed, or all where there is none
unfoldable pub line_length : List ℕ → ℕ
line_length [] = 0
line_length (b ∷ t) = pick (eqb b 10) 0 (suc (line_length t))

-- a text begins with a whole line: it has a line feed
abbrev pub is_whole : List ℕ → Bool
is_whole t = ltb (line_length t) (length t)

abbrev pub first_line : List ℕ → List ℕ
first_line t = take (line_length t) t

abbrev pub behind_line : List ℕ → List ℕ
behind_line t = drop (suc (line_length t)) t

-- lines answered: how many, the bytes of the input that they take, what is printed for them, and the memory after them
pub record Told : Type 0 where
  pub lines : ℕ
  pub used : ℕ
  pub text : List ℕ
  pub memory : Memory

abbrev pub none_told : Memory → Told
none_told m = record { lines = 0; used = 0; text = []; memory = m }

-- a line answered before the others
abbrev pub before : Stepped → ℕ → Told → Told
before s e r = record { lines = suc r.lines; used = suc e + r.used; text = printed s.answer ++ r.text; memory = r.memory }

-- the whole lines of a text, n at most
unfoldable pub told : ℕ → Memory → List ℕ → Told
told zero m t = none_told m
told (suc n) m t =
    pick (is_whole t)
    (before (line_step m (first_line t)) (line_length t) (told n (line_step m (first_line t)).memory (behind_line t)))
    (none_told m)

-- as many lines as there is room for answers, ten bytes each
abbrev pub told_in : List ℕ → Memory → List ℕ → Told
told_in out m t = told (length out / 10) m t

-- what the function over a text and a buffer leaves: bytes used and written, the memory, and every byte of the buffer
pub record Answered (r : Told) (out : List ℕ) (p : Progress) (m : Memory) (out' : List ℕ) : Type 0 where
  pub used : p.used ≡ r.used
  pub written : p.written ≡ length r.text
  pub memory : m ≡ r.memory
  pub buffer : out' ≡ paste out 0 r.text (length r.text)

-- "or a last one without line feed, prints 21 with 0": where bytes are left over, and the buffer has ten (Lines and columns)
unfoldable pub rest_text : ℕ → List ℕ → List ℕ
rest_text rest out = pick (leb 1 rest && leb 10 (length out)) (printed (refused malformed_number)) []

-- a file of ratios by its text: its answer and the memory after it (2026-01)
abbrev pub file_step : Memory → List ℕ → Stepped
file_step m file = step_entry shanghai m (Loaded (file_in file))

-- what is printed for it, where the buffer has ten bytes
unfoldable pub file_text : Memory → List ℕ → List ℕ → List ℕ
file_text m file out = pick (leb 10 (length out)) (printed (file_step m file).answer) []

-- what the function over a file's text and a buffer leaves: bytes written, the memory, and every byte of the buffer
pub record LoadAnswered (m : Memory) (file out : List ℕ) (written : ℕ) (m' : Memory) (out' : List ℕ) : Type 0 where
  pub bytes : written ≡ length (file_text m file out)
  pub memory : m' ≡ (file_step m file).memory
  pub buffer : out' ≡ paste out 0 (file_text m file out) (length (file_text m file out))

-- how many bytes of an unfinished line are kept for the next reading: all, or thirty-nine, which are too many for a call line already
unfoldable pub kept_bytes : ℕ → ℕ → ℕ → ℕ
kept_bytes used filled room = pick (leb filled room) (min (filled - used) call_bytes) 0
