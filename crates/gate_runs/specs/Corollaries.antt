-- What a run leaves after an opening, by its contract and the third demand. Assumes nothing.
use Rattle.std.specs.Prelude.{ℕ, ◌≡◌, refl, List}
use Rattle.std.proofs.Common.{ap, ◌∙◌}
use Rattle.rules.specs.Orders.{shanghai}
use Rattle.rules.specs.Lists.{detach_rules}
use Rattle.rules.specs.Laws.{where_accepted}
use Rattle.rules.specs.Calls.{refused}
use Rattle.rules.specs.Codes.{no_call}
use Rattle.rules.specs.Refusals.{out_of_range_number}
use Rattle.history.specs.Past.{History, at_opening}
use Rattle.history.specs.Answers.{refusals, answer}
use Rattle.history.specs.Runs.{Entry, answers, after_all}
use Rattle.claim.specs.Step.{step, Memory}
use Rattle.claim.specs.Opening.{places_lent, open_refusal}
use Rattle.claim.specs.Demand.{run, answers_of, run_all, opened}
use Rattle.claim.proofs.Theorem.{all_sim, opened_sim, steps}
use Rattle.claim.proofs.Corollaries.{calls-answered}
use Rattle.gate_runs.specs.Runs.{calls_of, answer_words, run_refusal, run_memory, run_answers}

-- What `gate_runs::run` leaves after an opening, by its contract and the third demand: in the room for the answers, word for word, the
-- history's answers to the calls that the words say.
pub run-answers_as_history : (lent : Memory) (ws out : List ℕ) → open_refusal lent ≡ 0 → run_refusal ws out ≡ 0
    → run_answers (opened lent) ws out ≡ answer_words (answers (places_lent lent) shanghai at_opening (calls_of ws))
unfolding run_answers
run-answers_as_history lent ws out o r =
    where_accepted (answer_words (answers_of shanghai (opened lent) (calls_of ws))) out (run_refusal ws out) r
    ∙ ap answer_words (calls-answered lent o (calls_of ws))

-- and the memory is the one of which the third demand speaks, rows, buys and crossing included
pub run-memory_as_claimed : (lent : Memory) (ws out : List ℕ) → run_refusal ws out ≡ 0
    → run_memory (opened lent) ws out ≡ run shanghai (opened lent) (calls_of ws)
unfolding run_memory
run-memory_as_claimed lent ws out r = where_accepted (run shanghai (opened lent) (calls_of ws)) (opened lent) (run_refusal ws out) r

-- a code that is no call's is answered 2 by the history
no_call_answer : (N : ℕ) (h : History) → answer N shanghai h no_call ≡ refused out_of_range_number
unfolding answer refusals detach_rules
no_call_answer N h = refl

-- and so by a gate that calls and loads from a fresh one led to
pub unknown_code : (lent : Memory) → open_refusal lent ≡ 0 → (es : List Entry) → (step shanghai (run_all shanghai (opened lent) es) no_call).answer ≡ refused out_of_range_number
unknown_code lent o es =
    (steps (places_lent lent) shanghai (after_all (places_lent lent) shanghai at_opening es) (run_all shanghai (opened lent) es) (all_sim (places_lent lent) shanghai es at_opening (opened lent) (opened_sim lent o)) no_call).same
    ∙ no_call_answer (places_lent lent) (after_all (places_lent lent) shanghai at_opening es)
