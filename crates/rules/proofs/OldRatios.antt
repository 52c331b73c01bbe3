-- Call 4's list by the old ratios is document 01's list: `old_list`, over specs/OldRatios.antt. Assumes nothing.
-- Here, and not in specs/, so that a wrong definition is refused by the first theorem that it breaks, and not by those that rest on it.
use Rattle.std.specs.Prelude.{ℕ, ◌≡◌}
use Rattle.std.proofs.Common.{ap}
use Rattle.rules.specs.Quotas.{old_ratios, old-ratios}
use Rattle.rules.specs.Lists.{due_rules, regular_rules}
use Rattle.rules.specs.declared.money.Millions.{Millions}
use Rattle.rules.specs.declared.declaring.GroupReads.{GroupReads}
use Rattle.rules.specs.declared.declaring.FigureReads.{FigureReads}
use Rattle.rules.specs.OldRatios.{old_regular_rules}

pub old_list : (declarer group : ℕ) (base quota : Millions) (reads : GroupReads) (figures : FigureReads)
    → regular_rules old_ratios declarer group base quota reads figures ≡ old_regular_rules declarer group base quota reads figures
unfolding regular_rules
old_list declarer group base quota reads figures = ap (λ (due : Millions). due_rules due declarer group base quota reads figures) (old-ratios reads.class base)
