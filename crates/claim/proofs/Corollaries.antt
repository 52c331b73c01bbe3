-- What follows from the third demand, over specs/Corollaries.antt. Assumes nothing.
-- Here, and not in specs/, so that a wrong definition is refused by the first theorem that it breaks, and not by those that rest on it.
use Prim.{tt}
use Rattle.std.specs.Prelude.{ℕ, zero, suc, ◌<◌, ◌≡◌, refl, true, ◌≢◌, ◌↔◌, List, [], ◌∷◌, ◌++◌, length}
use Rattle.std.proofs.Common.{sym, subst, ◌∙◌, arith}
use Rattle.rules.specs.Every.{Every}
use Rattle.rules.specs.Orders.{Rule, shanghai, is_buy, net_of}
use Rattle.rules.specs.Calls.{accepted, refused, in_range}
use Rattle.rules.specs.Refusals.{unless_refused}
use Rattle.rules.specs.declared.money.Mils.{Mils}
use Rattle.rules.specs.declared.calls.Call.{Call}
use Rattle.rules.specs.declared.calls.Call.TheVariants.{Order}
use Rattle.history.specs.Past.{History, at_opening, in_group}
use Rattle.history.specs.Answers.{is_attached, refusal_of, number_given, answer}
use Rattle.history.specs.Runs.{Entry, Called, Loaded, load_refusal, entry_refusal, next_entry, answer_entry, after_all, answers_all, calls, answers, answers-calls}
use Rattle.history.proofs.Laws.{never_unsound_entry}
use Rattle.history.specs.Article16.{nothing, net16, parts_all}
use Rattle.history.proofs.Tally.{article_16}
use Rattle.register.specs.Layout.{group_count}
use Rattle.book.specs.Layout.{money_at}
use Rattle.claim.specs.Opening.{places_lent, open_refusal}
use Rattle.claim.specs.Step.{Memory, step}
use Rattle.claim.specs.Demand.{answers_of, run_all, answers_of_all, opened}
use Rattle.claim.specs.Theorem.{answers_of_calls}
use Rattle.claim.proofs.Theorem.{demand}
use Rattle.claim.specs.Corollaries.{IsSound, BelowOwn}

sound_answer : (number r : ℕ) → r ≢ 1 → IsSound (unless_refused r (accepted number) (refused r))
sound_answer number zero p = λ z. absurd (omega (arith, z))
sound_answer number (suc r) p = p

sound_entry : (N : ℕ) (rule : Rule) (h : History) (e : Entry) → entry_refusal N rule h e ≢ 1 → IsSound (answer_entry N rule h e)
unfolding answer_entry answer entry_refusal
sound_entry N rule h (Called c) d = sound_answer (number_given N rule h c) (refusal_of N rule h c) d
sound_entry N rule h (Loaded f) d = sound_answer 0 (load_refusal N rule h f) d

sound_answers : (N : ℕ) (rule : Rule) (es : List Entry) (h : History) → Every IsSound (answers_all N rule h es)
unfolding answers_all
sound_answers N rule [] h = tt
sound_answers N rule (e ∷ es) h = (sound_entry N rule h e (never_unsound_entry N rule h e), sound_answers N rule es (next_entry N rule h e))

-- of calls alone: the answers are the history's
pub calls-answered : (lent : Memory) → open_refusal lent ≡ 0 → (cs : List Call) → answers_of shanghai (opened lent) cs ≡ answers (places_lent lent) shanghai at_opening cs
calls-answered lent o cs =
    sym (answers_of_calls shanghai (opened lent) cs) ∙ (demand lent o (calls cs)).either_market.same-answers ∙ answers-calls (places_lent lent) shanghai at_opening cs

-- "After a proper opening with the same places untouched by others it never occurs": no answer to any list of calls and loads is 1 (Refusal list)
pub one-never_occurs : (lent : Memory) → open_refusal lent ≡ 0 → (es : List Entry) → Every IsSound (answers_of_all shanghai (opened lent) es)
one-never_occurs lent o es = subst (Every IsSound) (sym (demand lent o es).either_market.same-answers) (sound_answers (places_lent lent) shanghai es at_opening)

-- "Article 16: net = buys submitted − sold in fills − buys cancelled − (order price − fill price) × quantity over buy fills": the net
-- of every enrolled group's totals, after every list of calls and loads (Orders)
pub net_by_article_16 : (lent : Memory) → open_refusal lent ≡ 0 → (es : List Entry) (g : ℕ) → g < group_count (run_all shanghai (opened lent) es).register
    → net_of (money_at (run_all shanghai (opened lent) es).book g) ≡ net16 (parts_all (places_lent lent) shanghai (in_group g) at_opening nothing es)
net_by_article_16 lent o es g l =
    let d = (demand lent o es).either_market in
    let i : g < length (after_all (places_lent lent) shanghai at_opening es).groups = omega (arith, l, d.same-groups) in
    (d.rows g i).net ∙ sym (article_16 (places_lent lent) shanghai (in_group g) es)

pub buys_below : (lent : Memory) → open_refusal lent ≡ 0 → (before : List Entry) (unit kind : ℕ) (price : Mils) (quantity : ℕ)
    → is_buy kind ≡ true
    → in_range (Order unit kind price quantity) ≡ true
    → is_attached (after_all (places_lent lent) shanghai at_opening before) unit ≡ true
    → length (after_all (places_lent lent) shanghai at_opening before).orders < places_lent lent
    → ((step shanghai (run_all shanghai (opened lent) before) (Order unit kind price quantity)).answer.refusal ≡ 0)
    ↔ BelowOwn (after_all (places_lent lent) shanghai at_opening before) unit
unfolding shanghai
buys_below lent o before unit kind price quantity b r t l = (demand lent o (before ++ (Called (Order unit kind price quantity) ∷ []))).either_market.buys before unit kind price quantity [] refl b r t l
