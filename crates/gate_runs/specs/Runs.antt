-- A lent list of calls, run in order: five words a call, "the code, 1 to 11", and four fields in the paper's order; two words an answer, the refusal
-- and the number given. Fields that a call does not use are ignored. Shanghai's rule. (Lines and columns)
use Rattle.std.specs.Prelude.{ℕ, zero, suc, ◌+◌, ◌*◌, ◌/◌, ◌&&◌, List, [], ◌∷◌, ◌++◌, eqb, length, get_or}
use Rattle.rules.specs.Tests.{pick}
use Rattle.rules.specs.Orders.{shanghai}
use Rattle.rules.specs.Codes.{call_of}
use Rattle.rules.specs.Refusals.{out_of_range_number, unless_refused}
use Rattle.rules.specs.declared.calls.Call.{Call}
use Rattle.rules.specs.declared.calls.Answer.{Answer}
use Rattle.claim.specs.Step.{Memory}
use Rattle.claim.specs.Demand.{run, answers_of}

-- call i of the words
unfoldable pub call_at : List ℕ → ℕ → Call
call_at ws i = call_of (get_or ws (5 * i) 0) (get_or ws (5 * i + 1) 0) (get_or ws (5 * i + 2) 0) (get_or ws (5 * i + 3) 0) (get_or ws (5 * i + 4) 0)

-- the first n calls of the words
unfoldable pub decoded : List ℕ → ℕ → List Call
decoded ws zero = []
decoded ws (suc n) = decoded ws n ++ (call_at ws n ∷ [])

-- as many calls as the words hold
abbrev pub call_count : List ℕ → ℕ
call_count ws = length ws / 5

abbrev pub calls_of : List ℕ → List Call
calls_of ws = decoded ws (call_count ws)

-- the words of the answers
unfoldable pub answer_words : List Answer → List ℕ
answer_words [] = []
answer_words (a ∷ as') = a.refusal ∷ a.number ∷ answer_words as'

-- 2 where the words are not five a call, or the room for the answers is not two a call
unfoldable pub run_refusal : List ℕ → List ℕ → ℕ
run_refusal ws out = pick (eqb (length ws) (5 * call_count ws) && eqb (length out) (2 * call_count ws)) 0 out_of_range_number

-- the memory afterwards, and what stands in the room for the answers
unfoldable pub run_memory : Memory → List ℕ → List ℕ → Memory
run_memory m ws out = unless_refused (run_refusal ws out) (run shanghai m (calls_of ws)) m

unfoldable pub run_answers : Memory → List ℕ → List ℕ → List ℕ
run_answers m ws out = unless_refused (run_refusal ws out) (answer_words (answers_of shanghai m (calls_of ws))) out
