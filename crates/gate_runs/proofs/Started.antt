-- A run from the opening: refused for its lengths, refused for its opening, or run. Assumes nothing.
use Prim.Native.Nat.{ℕ}
use mathlib.Core.Path.{◌≡◌, refl, sym, ap, ◌∙◌}
use mathlib.Core.List.{List}
use Rattle.rules.specs.Orders.{shanghai}
use Rattle.rules.specs.Laws.{where_accepted}
use Rattle.rules.specs.Numbers.{number_of, refused_is}
use Rattle.rules.specs.Refusals.{unless_refused}
use Rattle.rules.specs.declared.refusals.Refusal.{Refusal}
use native.Mathlib.Omega.{arith}
use Rattle.history.specs.Past.{at_opening}
use Rattle.history.specs.Runs.{answers, calls}
use Rattle.claim.specs.Step.{Memory, memory}
use Rattle.claim.specs.Opening.{places_lent, open_refusal, fresh_register, fresh_book, open_register, open_book}
use Rattle.claim.specs.Demand.{run, opened}
use Rattle.claim.proofs.Theorem.{demand}
use Rattle.gate_runs.specs.Runs.{calls_of, answer_words, run_refusal, run_memory, run_answers}
use Rattle.gate_runs.specs.FromOpening.{start_refusal, FromOpening}
use Rattle.gate_runs.specs.Corollaries.{run-answers_as_history, run-memory_as_claimed}

module _ (lent : Memory) (ws out : List ℕ) where
  -- refused: nothing is changed
  kept : (e : Refusal) (r : ℕ) → r ≡ number_of e → r ≡ start_refusal lent ws out → FromOpening lent ws out r lent out
  kept e r n s =
      let q : start_refusal lent ws out ≡ number_of e = sym s ∙ n in
      record {
        refusal = s;
        memory_is = rw (q, refused_is e (run shanghai (opened lent) (calls_of ws)) lent);
        answers_are = rw (q, refused_is e (answer_words (answers (places_lent lent) shanghai at_opening (calls_of ws))) out);
        demanded = λ z. absurd (there e (sym n ∙ z));
      }
    where
      there : (e' : Refusal) → number_of e' ≡ 0 → ⊥
      there e' z = let o : ◌≡◌ {A = ℕ} 0 1 = ap (λ (k : ℕ). unless_refused {A = ℕ} k 0 1) (sym z) ∙ refused_is e' 0 1 in omega arith

  pub wrong_lengths : (e : Refusal) (r : ℕ) → r ≡ number_of e → number_of e ≡ run_refusal ws out → FromOpening lent ws out r lent out
  unfolding start_refusal
  wrong_lengths e r n q = kept e r n (n ∙ sym (ap (λ (k : ℕ). unless_refused k (open_refusal lent) k) (sym q) ∙ refused_is e (open_refusal lent) (number_of e)))

  module _ (z : 0 ≡ run_refusal ws out) (xs ys : List ℕ) (ex : xs ≡ open_register lent) (ey : ys ≡ open_book lent) where
    begun : start_refusal lent ws out ≡ open_refusal lent
    unfolding start_refusal
    begun = ap (λ (k : ℕ). unless_refused k (open_refusal lent) k) (sym z)

    pub not_opened : (e : Refusal) (r : ℕ) → r ≡ number_of e → number_of e ≡ open_refusal lent → FromOpening lent ws out r (memory xs ys lent.places) out
    unfolding open_register open_book
    not_opened e r n o =
        let x : xs ≡ lent.register = ex ∙ ap (λ (k : ℕ). unless_refused k fresh_register lent.register) (sym o) ∙ refused_is e fresh_register lent.register in
        let y : ys ≡ lent.book = ey ∙ ap (λ (k : ℕ). unless_refused k (fresh_book (places_lent lent)) lent.book) (sym o) ∙ refused_is e (fresh_book (places_lent lent)) lent.book in
        rw (x, y) (kept e r n (n ∙ o ∙ sym begun))

    pub ran : (s : ℕ) (m : Memory) (room : List ℕ) → 0 ≡ open_refusal lent → s ≡ run_refusal ws out → m ≡ run_memory (memory xs ys lent.places) ws out
        → room ≡ run_answers (memory xs ys lent.places) ws out → FromOpening lent ws out s m room
    ran s m room w es em eo =
        let o : open_refusal lent ≡ 0 = sym w in
        let k : run_refusal ws out ≡ 0 = sym z in
        let f : memory xs ys lent.places ≡ opened lent = rw (ex, ey) refl in
        let st : start_refusal lent ws out ≡ 0 = begun ∙ o in
        record {
          refusal = es ∙ k ∙ sym st;
          memory_is = em ∙ ap (λ (x : Memory). run_memory x ws out) f ∙ run-memory_as_claimed lent ws out k ∙ sym (where_accepted (run shanghai (opened lent) (calls_of ws)) lent (start_refusal lent ws out) st);
          answers_are =
              eo ∙ ap (λ (x : Memory). run_answers x ws out) f ∙ run-answers_as_history lent ws out o k
              ∙ sym (where_accepted (answer_words (answers (places_lent lent) shanghai at_opening (calls_of ws))) out (start_refusal lent ws out) st);
          demanded = λ t. demand lent o (calls (calls_of ws));
        }
