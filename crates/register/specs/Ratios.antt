-- The table of ratios in the register's header: what is put is read back, and no other word changes (2026-01; proofs/Ratios.antt). Assumes nothing.
use Rattle.std.specs.Prelude.{◌≤◌}
use Rattle.rules.specs.Limits.{top_ratio}
use Rattle.rules.specs.declared.quotas.Ratio.{Ratio}

-- "numerator and denominator (both 1 to 100)" (2026-01): a word holds them
abbrev pub InWords : Ratio → Type 0
InWords r = (r.numerator ≤ top_ratio) × (r.denominator ≤ top_ratio)
