-- "Edges to prove (E1 to E8)": `edges_hold`, over the cases of specs/Edges.antt. Assumes nothing.
-- Here, and not in specs/, so that a wrong definition is refused by the first theorem that it breaks, and not by those that rest on it.
use Prim.{tt}
use Rattle.std.specs.Prelude.{ℕ, ◌≡◌, refl, true, List, [], ◌∷◌, ltb, length}
use Rattle.std.proofs.Common.{sym, subst, ap, ◌∙◌, ltb-true}
use Rattle.rules.specs.Money.{mils_of}
use Rattle.rules.specs.Quotas.{quota_by, closed_quota, in_force}
use Rattle.rules.specs.Orders.{is_buy, price_rule, worse_fill, net_of, shanghai, stops}
use Rattle.rules.specs.Lists.{enrol_rules, attach_rules, detach_rules, regular_rules, raise_rules, withdraw_rules, own_quota_rules, order_rules, fill_rules, cancel_rules}
use Rattle.rules.specs.Keyed.{find, put, without}
use Rattle.rules.specs.Every.{Every}
use Rattle.rules.specs.Sums.{when, sum_over}
use Rattle.rules.specs.declared.calls.Call.{Call}
use Rattle.history.specs.Past.{History, at_opening, filled_money, open_in, bought_in, sold_in, money_in, money_of, net_in}
use Rattle.history.specs.Past as past
use Rattle.history.specs.Answers.{is_taken, refusals, number_given, answer}
use Rattle.history.specs.Runs.{accept, next, after, answers, calls, after_all, after-calls, answers-calls}
use Rattle.claim.specs.Step.{Memory}
use Rattle.claim.specs.Opening.{places_lent, open_refusal}
use Rattle.claim.specs.Demand.{run, opened, RowIs}
use Rattle.claim.specs.Theorem.{run-calls, answers_of_calls}
use Rattle.claim.proofs.Theorem.{demand}
use Rattle.claim.specs.Edges.{Case, Answered, MaximumIs, OwnIs, MoneyIs, NetIs, Holds, edges}

-- the history of N places after a list of calls
abbrev past_of : ℕ → List Call → History
past_of N cs = after N shanghai at_opening cs

-- a case of the history; a group that is spoken of is enrolled
abbrev Told : ℕ → Case → Type 0
Told N (Answered cs as-told) = answers N shanghai at_opening cs ≡ as-told
Told N (MaximumIs cs g limit) = (ltb g (length (past_of N cs).groups) ≡ true) × ((past.group_at (past_of N cs) g).quota.maximum ≡ limit)
Told N (OwnIs cs g limit) = (ltb g (length (past_of N cs).groups) ≡ true) × (in_force (past.group_at (past_of N cs) g).quota ≡ limit)
Told N (MoneyIs cs g money) = (ltb g (length (past_of N cs).groups) ≡ true) × (money_of (past_of N cs) g ≡ money)
Told N (NetIs cs g net) = (ltb g (length (past_of N cs).groups) ≡ true) × (net_in (past_of N cs) g ≡ net)

-- the proof of a list's first case beside those of the others
infixr 4 ◌&◌
◌&◌ : {A B : Type 0} → A → B → A × B
a & b = (a, b)

-- computed on the history
told : Every (Told 4) edges
unfolding answers answer after next number_given refusals accept is_taken find put without when sum_over filled_money open_in bought_in sold_in money_in net_of shanghai stops mils_of is_buy price_rule worse_fill quota_by closed_quota enrol_rules attach_rules detach_rules regular_rules raise_rules withdraw_rules own_quota_rules order_rules fill_rules cancel_rules
told =
    refl
    & refl
    & refl
    & (refl, refl)
    & refl
    & (refl, refl)
    & (refl, refl)
    & refl
    & refl
    & refl
    & (refl, refl)
    & (refl, refl)
    & refl
    & (refl, refl)
    & (refl, refl)
    & refl
    & (refl, refl)
    & (refl, refl)
    & refl
    & (refl, refl)
    & (refl, refl)
    & refl
    & refl
    & (refl, refl)
    & (refl, refl)
    & (refl, refl)
    & (refl, refl)
    & (refl, refl)
    & refl
    & (refl, refl)
    & tt

subst2 : {A B : Type 0} (P : A → B → Type 0) {a a' : A} {b b' : B} → a ≡ a' → b ≡ b' → P a b → P a' b'
subst2 P {a' = a'} {b = b} p q x = subst (λ z. P a' z) q (subst (λ z. P z b) p x)

-- the third demand carries a case over to the gate
module _ (lent : Memory) (o : open_refusal lent ≡ 0) where
  row : (cs : List Call) (g : ℕ) → ltb g (length (past_of (places_lent lent) cs).groups) ≡ true → RowIs (past_of (places_lent lent) cs) (run shanghai (opened lent) cs) g
  row cs g l =
      let a = after-calls (places_lent lent) shanghai at_opening cs in
      let r = run-calls shanghai (opened lent) cs in
      subst2 (λ h m. RowIs h m g) a r
      ((demand lent o (calls cs)).either_market.rows g (ltb-true g (length (after_all (places_lent lent) shanghai at_opening (calls cs)).groups) (ap (λ (h : History). ltb g (length h.groups)) a ∙ l)))

  carried : (c : Case) → Told (places_lent lent) c → Holds (opened lent) c
  carried (Answered cs as-told) t = sym (answers_of_calls shanghai (opened lent) cs) ∙ (demand lent o (calls cs)).either_market.same-answers ∙ answers-calls (places_lent lent) shanghai at_opening cs ∙ t
  carried (MaximumIs cs g limit) t = (row cs g t.0).maximum ∙ t.1
  carried (OwnIs cs g limit) t = (row cs g t.0).own ∙ t.1
  carried (MoneyIs cs g money) t = (row cs g t.0).money ∙ t.1
  carried (NetIs cs g net) t = (row cs g t.0).net ∙ t.1

  all_carried : (cases : List Case) → Every (Told (places_lent lent)) cases → Every (Holds (opened lent)) cases
  all_carried [] t = tt
  all_carried (c ∷ cases) t = (carried c t.0, all_carried cases t.1)

-- E1 to E8, over every lent memory with N = 4
pub edges_hold : (lent : Memory) → open_refusal lent ≡ 0 → places_lent lent ≡ 4 → Every (Holds (opened lent)) edges
edges_hold lent o four = all_carried lent o edges (subst (λ N. Every (Told N) edges) (sym four) told)
