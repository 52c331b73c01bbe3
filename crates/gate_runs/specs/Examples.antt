-- Examples of a lent list of calls, by computation: which word is which field, and which word of an answer is the refusal. Assumes nothing.
use Rattle.std.specs.Prelude.{ℕ, ◌≡◌, refl, List, [], ◌∷◌, replicate}
use Rattle.rules.specs.Money.{millions, mils}
use Rattle.rules.specs.Calls.{accepted, refused}
use Rattle.rules.specs.Codes.{call_of, order_call_of}
use Rattle.rules.specs.declared.calls.Call.TheVariants.{Regular, Order, Close}
use Rattle.gate_runs.specs.Runs.{call_at, decoded, calls_of, answer_words, run_refusal}

abbrev words : List ℕ
words = 8 ∷ 20_001 ∷ 1 ∷ 12_500 ∷ 300_000 ∷ 4 ∷ 11 ∷ 0 ∷ 3 ∷ 8 ∷ 11 ∷ 0 ∷ 0 ∷ 0 ∷ 0 ∷ []

pub record Examples : Type 0 where
  pub calls : calls_of words ≡ Order 20_001 1 (mils 12_500) 300_000 ∷ Regular 11 0 (millions 3) (millions 8) ∷ Close ∷ []
  pub answers : answer_words (accepted 7 ∷ refused 16 ∷ []) ≡ 0 ∷ 7 ∷ 16 ∷ 0 ∷ []
  -- five words a call, two an answer
  pub lengths : (run_refusal words (replicate 6 0) ≡ 0) × (run_refusal words (replicate 7 0) ≡ 2) × (run_refusal words (replicate 5 0) ≡ 2) × (run_refusal (7 ∷ words) (replicate 6 0) ≡ 2)

pub examples : Examples
unfolding call_at decoded answer_words run_refusal call_of order_call_of
examples = record { calls = refl; answers = refl; lengths = (refl, refl, refl, refl) }
