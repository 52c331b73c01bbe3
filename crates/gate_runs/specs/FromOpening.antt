-- A lent list of calls run from the opening: what is left of the lent memory and of the room for the answers, and that the third demand
-- holds of it. The answers are the history's, word for word.
use Rattle.std.specs.Prelude.{ℕ, ◌≡◌, List}
use Rattle.rules.specs.Orders.{shanghai}
use Rattle.rules.specs.Refusals.{unless_refused}
use Rattle.history.specs.Past.{at_opening}
use Rattle.history.specs.Runs.{answers, calls}
use Rattle.claim.specs.Step.{Memory}
use Rattle.claim.specs.Opening.{places_lent, open_refusal}
use Rattle.claim.specs.Demand.{run, opened, Demand}
use Rattle.gate_runs.specs.Runs.{calls_of, answer_words, run_refusal}

-- 2 where the words are not five a call or the room is not two a call, 1 where the opening is refused
unfoldable pub start_refusal : Memory → List ℕ → List ℕ → ℕ
start_refusal lent ws out = unless_refused (run_refusal ws out) (open_refusal lent) (run_refusal ws out)

-- r is the answer, m the memory and room the answers' words that are left of what was lent and of out
pub record FromOpening (lent : Memory) (ws out : List ℕ) (r : ℕ) (m : Memory) (room : List ℕ) : Type 0 where
  pub refusal : r ≡ start_refusal lent ws out
  pub memory_is : m ≡ unless_refused (start_refusal lent ws out) (run shanghai (opened lent) (calls_of ws)) lent
  pub answers_are : room ≡ unless_refused (start_refusal lent ws out) (answer_words (answers (places_lent lent) shanghai at_opening (calls_of ws))) out
  -- the third demand, of this list from this opening
  pub demanded : r ≡ 0 → Demand (places_lent lent) (opened lent) (calls (calls_of ws))
