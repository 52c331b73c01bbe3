-- "With 5/2, 1/1, 1/1 every answer to call 4 is the old one, proved for every base and class." (2026-01) Document 01's list of call 4, and that it is the list
-- by the old ratios (`old_list` of proofs/OldRatios.antt). What follows of every list of calls and loads is in history/specs/OldRatios.antt. Assumes nothing.
use Rattle.std.specs.Prelude.{ℕ, Bool, List}
use Rattle.rules.specs.Quotas.{quota_due}
use Rattle.rules.specs.Lists.{due_rules}
use Rattle.rules.specs.declared.money.Millions.{Millions}
use Rattle.rules.specs.declared.declaring.GroupReads.{GroupReads}
use Rattle.rules.specs.declared.declaring.FigureReads.{FigureReads}

-- call 4 as document 01 has it: the list over the quota that follows by 2.5, or equals the base (Quotas; Refusal list)
abbrev pub old_regular_rules : ℕ → ℕ → Millions → Millions → GroupReads → FigureReads → List (ℕ × Bool)
old_regular_rules declarer group base quota reads figures = due_rules (quota_due reads.class base) declarer group base quota reads figures
