-- A register is its groups, units and ratios, and words that stand for nothing: registers in range that read alike, with the same words that stand for
-- nothing, are the same, word for word (`register_alike` of proofs/Alike.antt). Assumes nothing.
use Prim.Native.Nat.{ℕ, ◌+◌, ◌≤◌, ◌<◌}
use Rattle.std.specs.Prelude.{◌≡◌, refl}
use mathlib.Core.List.{List}
use Rattle.words.specs.Alike.{AlikeAt}
use Rattle.figures.specs.Figures.{standing_of}
use Rattle.register.specs.Layout.{used_head, group_count, unit_count, place, first_unit, first_unit_group, at_declarers, at_quotas, group_at, record_words, first_declarer}
use Rattle.register.specs.declared.groups.Group.{Group}

-- two groups read alike: what stands above the standing figures is not read
pub record ReadAlike (g k : Group) : Type 0 where
  pub code : g.code ≡ k.code
  pub class : g.class ≡ k.class
  pub quota : g.quota ≡ k.quota
  pub figures : standing_of g.figures ≡ standing_of k.figures

-- the words that stand for nothing are the same: eight of the header, those of groups not enrolled, of figures that do not stand, of units not attached
pub record UnusedAlike (vs ws : List ℕ) : Type 0 where
  pub header : (p : ℕ) → used_head ≤ p → p < first_declarer → AlikeAt vs ws p
  pub groups : (i k : ℕ) → group_count ws ≤ i → i < 64 → k < record_words → AlikeAt vs ws (place i k)
  pub declarers : (i j : ℕ) → i < group_count ws → (group_at ws i).figures.standing ≤ j → j < 8 → AlikeAt vs ws (place i (at_declarers + j))
  pub quotas : (i j : ℕ) → i < group_count ws → (group_at ws i).figures.standing ≤ j → j < 8 → AlikeAt vs ws (place i (at_quotas + j))
  pub units : (j : ℕ) → unit_count ws ≤ j → j < 256 → AlikeAt vs ws (first_unit + j)
  pub unit_groups : (j : ℕ) → unit_count ws ≤ j → j < 256 → AlikeAt vs ws (first_unit_group + j)

-- the same register has the same of them
pub unused_own : (ws : List ℕ) → UnusedAlike ws ws
unused_own ws = record {
  header = λ p a b. refl;
  groups = λ i k a b c. refl;
  declarers = λ i j a b c. refl;
  quotas = λ i j a b c. refl;
  units = λ j a b. refl;
  unit_groups = λ j a b. refl;
}
