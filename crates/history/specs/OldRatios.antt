-- "With 5/2, 1/1, 1/1 every answer to call 4 is the old one, proved for every base and class." (2026-01) Over whole calls and lists: while the ratios are the
-- old ones, call 4 is answered by document 01's list; and lists whose loads all say 5/2, 1/1, 1/1 leave the history of their calls alone, so that
-- every answer to every call is the old one (proofs/OldRatios.antt). Assumes nothing.
use Prim.{Unit}
use Prim.Native.Nat.{ℕ}
use Rattle.std.specs.Prelude.{◌≡◌}
use Rattle.std.proofs.Math.Path.{ap}
use Rattle.std.proofs.Common.{◌∙◌}
use mathlib.Core.List.{List, [], ◌∷◌}
use Rattle.rules.specs.Orders.{Rule}
use Rattle.rules.specs.Quotas.{old_ratios}
use Rattle.rules.specs.OldRatios.{old_regular_rules}
use Rattle.rules.proofs.OldRatios.{old_list}
use Rattle.rules.specs.Loads.{loaded}
use Rattle.rules.specs.Refusals.{refusal}
use Rattle.rules.specs.Lists.{regular_rules}
use Rattle.rules.specs.declared.money.Millions.{Millions}
use Rattle.rules.specs.declared.quotas.Ratios.{Ratios}
use Rattle.rules.specs.declared.calls.Call.{Call}
use Rattle.rules.specs.declared.calls.Call.TheVariants.{Regular}
use Rattle.history.specs.Past.{History}
use Rattle.history.specs.Answers.{group_reads, figure_reads, refusals, refusal_of}
use Rattle.history.specs.Runs.{Entry, Called, Loaded}

-- call 4 while the ratios are the old ones: document 01's list, for every declarer, group, base and quota
pub old-answer : (N : ℕ) (rule : Rule) (h : History) → h.ratios ≡ old_ratios → (declarer group : ℕ) (base quota : Millions)
    → refusal_of N rule h (Regular declarer group base quota) ≡ refusal (old_regular_rules declarer group base quota (group_reads h group) (figure_reads h group declarer))
unfolding refusals
old-answer N rule h e declarer group base quota =
    ap (λ (t : Ratios). refusal (regular_rules t declarer group base quota (group_reads h group) (figure_reads h group declarer))) e
    ∙ ap refusal (old_list declarer group base quota (group_reads h group) (figure_reads h group declarer))

-- the calls of a list, its loads left out
unfoldable pub calls_in : List Entry → List Call
calls_in [] = []
calls_in (Called c ∷ es) = c ∷ calls_in es
calls_in (Loaded f ∷ es) = calls_in es

-- every load of the list says 5/2, 1/1, 1/1
abbrev pub OldLoads : List Entry → Type 0
OldLoads [] = Unit {0}
OldLoads (Called c ∷ es) = OldLoads es
OldLoads (Loaded f ∷ es) = (loaded f ≡ old_ratios) × OldLoads es
