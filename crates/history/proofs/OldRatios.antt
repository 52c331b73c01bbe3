-- Lists whose loads all say 5/2, 1/1, 1/1 are answered as document 01 has it: `old_loads`, `old-answers`, over specs/OldRatios.antt. Assumes nothing.
-- Here, and not in specs/, so that a wrong definition is refused by the first theorem that it breaks, and not by those that rest on it.
use Prim.Native.Nat.{ℕ, zero, suc}
use Rattle.std.specs.Prelude.{◌≡◌}
use Rattle.std.proofs.Math.Path.{refl, ap, sym}
use Rattle.std.proofs.Common.{◌∙◌}
use mathlib.Core.List.{List, [], ◌∷◌}
use Rattle.rules.specs.Orders.{Rule}
use Rattle.rules.specs.Quotas.{old_ratios}
use Rattle.rules.specs.OldRatios.{old_regular_rules}
use Rattle.rules.specs.Loads.{loaded, FileRead}
use Rattle.rules.specs.Refusals.{refusal, unless_refused}
use Rattle.rules.specs.declared.money.Millions.{Millions}
use Rattle.rules.specs.declared.calls.Call.{Call}
use Rattle.rules.specs.declared.calls.Call.TheVariants.{Enrol, Attach, Detach, Regular, Raise, Withdraw, OwnQuota, Order, Fill, Cancel, Close}
use Rattle.history.specs.Past.{History, at_opening}
use Rattle.history.specs.Answers.{group_reads, figure_reads, refusal_of}
use Rattle.history.specs.Runs.{Entry, Called, Loaded, with_table, load_refusal, accept, next, after, next_entry, after_all}
use Rattle.history.specs.OldRatios.{old-answer, calls_in, OldLoads}

-- no call changes the ratios
accept_keeps : (h : History) (c : Call) → (accept h c).ratios ≡ h.ratios
unfolding accept
accept_keeps h (Enrol code class) = refl
accept_keeps h (Attach unit group) = refl
accept_keeps h (Detach unit) = refl
accept_keeps h (Regular declarer group base quota) = refl
accept_keeps h (Raise declarer group quota flag) = refl
accept_keeps h (Withdraw declarer group) = refl
accept_keeps h (OwnQuota group quota) = refl
accept_keeps h (Order unit kind price quantity) = refl
accept_keeps h (Fill order price quantity) = refl
accept_keeps h (Cancel order) = refl
accept_keeps h Close = refl

module _ (N : ℕ) (rule : Rule) where
  pub next_keeps : (h : History) (c : Call) → (next N rule h c).ratios ≡ h.ratios
  unfolding next
  next_keeps h c = go (refusal_of N rule h c)
    where
      go : (r : ℕ) → (unless_refused r (accept h c) h).ratios ≡ h.ratios
      go zero = accept_keeps h c
      go (suc r) = refl

  -- such a load, accepted or not, changes nothing while the ratios are the old ones
  old_load : (h : History) (f : FileRead) → h.ratios ≡ old_ratios → loaded f ≡ old_ratios → next_entry N rule h (Loaded f) ≡ h
  unfolding next_entry
  old_load h f e l = go (load_refusal N rule h f)
    where
      go : (r : ℕ) → unless_refused r (with_table h (loaded f)) h ≡ h
      go zero = ap (with_table h) (l ∙ sym e)
      go (suc r) = refl

  -- the history after such a list is the one after its calls alone
  pub old_loads : (es : List Entry) (h : History) → h.ratios ≡ old_ratios → OldLoads es → after_all N rule h es ≡ after N rule h (calls_in es)
  unfolding after_all after calls_in next_entry
  old_loads [] h e o = refl
  old_loads (Called c ∷ es) h e o = old_loads es (next N rule h c) (next_keeps h c ∙ e) o
  old_loads (Loaded f ∷ es) h e o = ap (λ (z : History). after_all N rule z es) (old_load h f e o.0) ∙ old_loads es h e o.1

  -- "every answer to call 4 is the old one": after every list of calls and such loads from the opening
  pub old-answers : (es : List Entry) → OldLoads es → (declarer group : ℕ) (base quota : Millions)
      → refusal_of N rule (after_all N rule at_opening es) (Regular declarer group base quota)
      ≡ refusal (old_regular_rules declarer group base quota (group_reads (after N rule at_opening (calls_in es)) group) (figure_reads (after N rule at_opening (calls_in es)) group declarer))
  unfolding after
  old-answers es o declarer group base quota =
      ap (λ (z : History). refusal_of N rule z (Regular declarer group base quota)) (old_loads es at_opening refl o)
      ∙ old-answer N rule (after N rule at_opening (calls_in es)) (kept (calls_in es) at_opening refl) declarer group base quota
    where
      kept : (cs : List Call) (h : History) → h.ratios ≡ old_ratios → (after N rule h cs).ratios ≡ old_ratios
      kept [] h e = e
      kept (c ∷ cs) h e = kept cs (next N rule h c) (next_keeps h c ∙ e)
