-- What gateday prints for its whole input, "reads call lines from standard input, prints for each ..", and the same where the input comes in
-- pieces, as the program reads it. Pieces.antt proves that the two are one (`pieces`). A text is a list of bytes. (Lines and columns)
use Rattle.std.specs.Prelude.{ℕ, List, [], ◌∷◌, ◌++◌, leb, length, take, drop}
use Rattle.rules.specs.Tests.{pick}
use Rattle.rules.specs.Calls.{refused}
use Rattle.rules.specs.Refusals.{malformed_number}
use Rattle.claim.specs.Step.{Memory}
use Rattle.day.specs.Day.{printed, file_step, Told, told}
use Rattle.callfile.specs.Lines.{call_bytes}

-- ---- the whole input

-- every whole line answered, one after the other: a text has no more lines than bytes
abbrev pub told_all : Memory → List ℕ → Told
told_all m t = told (length t) m t

-- what stands behind the last line feed
abbrev pub behind_last : Memory → List ℕ → List ℕ
behind_last m t = drop (told_all m t).used t

-- "or a last one without line feed, prints 21 with 0 and is skipped" (Lines and columns)
abbrev pub last_text : List ℕ → List ℕ
last_text rest = pick (leb 1 (length rest)) (printed (refused malformed_number)) []

-- what is printed for an input, and the memory after it
pub record Printed : Type 0 where
  pub text : List ℕ
  pub memory : Memory

-- an answer for each line in order, and one for a last line without line feed
abbrev pub day : Memory → List ℕ → Printed
day m t = record { text = (told_all m t).text ++ last_text (behind_last m t); memory = (told_all m t).memory }

-- "and at the end the listing": of the memory that the last call left (Lines and columns)
abbrev pub day_text : (Memory → List ℕ) → Memory → List ℕ → List ℕ
day_text listing m t = (day m t).text ++ listing (day m t).memory

-- with a file of ratios: the load's answer first, and then the day of the gate that it leaves (2026-01)
abbrev pub ratios_text : (Memory → List ℕ) → Memory → List ℕ → List ℕ → List ℕ
ratios_text listing m file t = printed (file_step m file).answer ++ day_text listing (file_step m file).memory t

-- ---- the input in pieces: the whole lines of what was kept and of the piece behind it are answered, and of what is left then thirty-nine
-- bytes at most are kept

abbrev pub after : Told → Printed → Printed
after r p = record { text = r.text ++ p.text; memory = p.memory }

unfoldable pub in_pieces : Memory → List ℕ → List (List ℕ) → Printed
in_pieces m kept [] = record { text = last_text kept; memory = m }
in_pieces m kept (p ∷ ps) = after (told_all m (kept ++ p)) (in_pieces (told_all m (kept ++ p)).memory (take call_bytes (behind_last m (kept ++ p))) ps)

-- the pieces one behind the other
unfoldable pub joined_up : List (List ℕ) → List ℕ
joined_up [] = []
joined_up (p ∷ ps) = p ++ joined_up ps
