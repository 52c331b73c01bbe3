-- Registers in range that read alike are the same, word for word: `register_alike`, over specs/Alike.antt. Assumes nothing.
-- Here, and not in specs/, so that a wrong definition is refused by the first theorem that it breaks, and not by those that rest on it.
use Prim.Native.Nat.{ℕ, zero, suc, ◌+◌, ◌-◌, ◌/◌, ◌%◌, ◌≤◌, ◌<◌}
use Rattle.std.specs.Prelude.{◌≡◌, refl, true}
use Rattle.std.proofs.Math.Path.{ap, sym}
use Rattle.std.proofs.Common.{◌∙◌, arith, ext_get_or}
use mathlib.Core.List.{List, [], ◌∷◌}
use Rattle.std.proofs.Math.ListN.{length, get_or}
use Rattle.rules.specs.Money.{millions}
use Rattle.rules.specs.declared.money.Millions.{Millions}
use Rattle.rules.specs.declared.quotas.Quota.{Quota}
use Rattle.rules.specs.declared.quotas.Ratios.{Ratios}
use Rattle.words.specs.Words.{run_at}
use Rattle.words.specs.Alike.{AlikeAt, alike_at}
use Rattle.pairs.specs.Pairs.{pairs_of}
use Rattle.figures.specs.Figures.{standing_of}
use Rattle.figures.specs.Places.{pairs, length_pairs}
use Rattle.register.specs.Layout.{register_length, ratios_of, group_count, unit_count, place, first_unit, first_unit_group, at_declarers, at_quotas, limit_word, holder_word, figure_word, figures_of, group_of, words_of, record_at, group_at, unit_column, unit_group_column, units_of, first_figure, first_scalar, record_words, first_declarer}
use Rattle.register.specs.Check.{register_ok, record_ok}
use Rattle.register.specs.Records.{part, record_word, length_record}
use Rattle.register.specs.Views.{units_is, length-column, length_group_column, length_units}
use Rattle.register.specs.Sound.{in_range_lem, Sound, known, words_back}
use Rattle.words.specs.Each.{reach}
use Rattle.register.specs.Alike.{ReadAlike, UnusedAlike}

figure-at : (n : ℕ) (ks : List ℕ) (xs : List Millions) (j : ℕ) → j < n → j < length ks → j < length xs → get_or (pairs n ks xs) j (0, millions 0) ≡ (get_or ks j 0, get_or xs j (millions 0))
unfolding pairs
figure-at zero ks xs j h k l = absurd (omega arith)
figure-at (suc n) [] xs j h k l = absurd (omega arith)
figure-at (suc n) (a ∷ ks) [] j h k l = absurd (omega arith)
figure-at (suc n) (a ∷ ks) (x ∷ xs) zero h k l = refl
figure-at (suc n) (a ∷ ks) (x ∷ xs) (suc j) h k l = figure-at n ks xs j (omega arith) (omega arith) (omega arith)

unit_at : (ks us : List ℕ) (n j : ℕ) → j < n → j < length ks → j < length us → get_or (pairs_of ks us n) j (0, 0) ≡ (get_or ks j 0, get_or us j 0)
unfolding pairs_of
unit_at ks us zero j h k l = absurd (omega arith)
unit_at [] us (suc n) j h k l = absurd (omega arith)
unit_at (a ∷ ks) [] (suc n) j h k l = absurd (omega arith)
unit_at (a ∷ ks) (b ∷ us) (suc n) zero h k l = refl
unit_at (a ∷ ks) (b ∷ us) (suc n) (suc j) h k l = unit_at ks us n j (omega arith) (omega arith) (omega arith)

-- the eight declarers and quotas of a record, word by word
declarer_at : (r : List ℕ) (j : ℕ) → j < 8 → get_or (figures_of r).declarers j 0 ≡ get_or r (at_declarers + j) 0
unfolding figures_of
declarer_at r zero h = refl
declarer_at r (suc zero) h = refl
declarer_at r (suc (suc zero)) h = refl
declarer_at r (suc (suc (suc zero))) h = refl
declarer_at r (suc (suc (suc (suc zero)))) h = refl
declarer_at r (suc (suc (suc (suc (suc zero))))) h = refl
declarer_at r (suc (suc (suc (suc (suc (suc zero)))))) h = refl
declarer_at r (suc (suc (suc (suc (suc (suc (suc zero))))))) h = refl
declarer_at r (suc (suc (suc (suc (suc (suc (suc (suc j)))))))) h = absurd (omega arith)

quota_at_lem : (r : List ℕ) (j : ℕ) → j < 8 → (get_or (figures_of r).quotas j (millions 0)).0 ≡ get_or r (at_quotas + j) 0
unfolding figures_of
quota_at_lem r zero h = refl
quota_at_lem r (suc zero) h = refl
quota_at_lem r (suc (suc zero)) h = refl
quota_at_lem r (suc (suc (suc zero))) h = refl
quota_at_lem r (suc (suc (suc (suc zero)))) h = refl
quota_at_lem r (suc (suc (suc (suc (suc zero))))) h = refl
quota_at_lem r (suc (suc (suc (suc (suc (suc zero)))))) h = refl
quota_at_lem r (suc (suc (suc (suc (suc (suc (suc zero))))))) h = refl
quota_at_lem r (suc (suc (suc (suc (suc (suc (suc (suc j)))))))) h = absurd (omega arith)

module _ (r s : List ℕ) (n : length r ≡ record_words) (m : length s ≡ record_words) (ok : record_ok r ≡ true) (fine : record_ok s ≡ true) (a : ReadAlike (group_of r) (group_of s)) where
  -- as many figures stand
  stand_alike : (group_of r).figures.standing ≡ (group_of s).figures.standing
  unfolding standing_of
  stand_alike =
      let x = in_range_lem r ok in
      let y = in_range_lem s fine in
      let f = (group_of r).figures in
      let g = (group_of s).figures in
      let c = length_pairs f.standing f.declarers f.quotas (x.length-declarers ∙ sym x.length_quotas) in
      let d = length_pairs g.standing g.declarers g.quotas (y.length-declarers ∙ sym y.length_quotas) in
      omega (arith, c, d, ap length a.figures, x.standing, y.standing, x.length-declarers, y.length-declarers)

  -- a figure that stands
  figure_alike : (j : ℕ) → j < (group_of s).figures.standing → (get_or r (at_declarers + j) 0 ≡ get_or s (at_declarers + j) 0) × (get_or r (at_quotas + j) 0 ≡ get_or s (at_quotas + j) 0)
  unfolding standing_of group_of
  figure_alike j h =
      let x = in_range_lem r ok in
      let y = in_range_lem s fine in
      let f = (group_of r).figures in
      let g = (group_of s).figures in
      let l : j < 8 = omega (arith, y.standing) in
      let c = figure-at f.standing f.declarers f.quotas j (omega (arith, stand_alike)) (omega (arith, x.length-declarers)) (omega (arith, x.length_quotas)) in
      let d = figure-at g.standing g.declarers g.quotas j h (omega (arith, y.length-declarers)) (omega (arith, y.length_quotas)) in
      let e = sym c ∙ ap (λ (z : List (ℕ × Millions)). get_or z j (0, millions 0)) a.figures ∙ d in (
        sym (declarer_at r j l) ∙ ap (λ (z : ℕ × Millions). z.0) e ∙ declarer_at s j l,
        sym (quota_at_lem r j l) ∙ ap (λ (z : ℕ × Millions). z.1.0) e ∙ quota_at_lem s j l,
      )

  -- one of the seven scalars
  scalar_alike : (k : ℕ) → k < 7 → get_or r k 0 ≡ get_or s k 0
  unfolding words_of
  scalar_alike k h =
      ap (λ (z : List ℕ). get_or z k 0) (sym (words_back r n ok)) ∙ go k h ∙ ap (λ (z : List ℕ). get_or z k 0) (words_back s m fine)
    where
      go : (j : ℕ) → j < 7 → get_or (words_of (group_of r)) j 0 ≡ get_or (words_of (group_of s)) j 0
      go zero l = a.code
      go (suc zero) l = a.class
      go (suc (suc zero)) l = ap (λ (q : Quota). limit_word q.maximum) a.quota
      go (suc (suc (suc zero))) l = ap (λ (q : Quota). limit_word q.own) a.quota
      go (suc (suc (suc (suc zero)))) l = ap (λ (q : Quota). holder_word q.emergency) a.quota
      go (suc (suc (suc (suc (suc zero))))) l = ap (λ (q : Quota). figure_word q.emergency) a.quota
      go (suc (suc (suc (suc (suc (suc zero)))))) l = stand_alike
      go (suc (suc (suc (suc (suc (suc (suc j))))))) l = absurd (omega arith)

module _ (vs ws : List ℕ) (ok : register_ok vs ≡ true) (fine : register_ok ws ≡ true) (count : group_count vs ≡ group_count ws)
    (read : (i : ℕ) → i < group_count ws → ReadAlike (group_at vs i) (group_at ws i)) (attached : units_of vs ≡ units_of ws) (ratios : ratios_of vs ≡ ratios_of ws) (unused : UnusedAlike vs ws) where
  x : Sound vs
  x = known vs ok

  y : Sound ws
  y = known ws fine

  -- the words of a group that is enrolled
  enrolled_word : (i k : ℕ) → i < group_count ws → k < record_words → AlikeAt vs ws (place i k)
  enrolled_word i k h l =
      let t : i < 64 = omega (arith, y.groups_most) in
      let p = length_record vs i t x.register-length in
      let q = length_record ws i t y.register-length in
      let b = x.records i (omega arith) in
      let c = y.records i h in
      let word : (j : ℕ) → j < record_words → get_or (record_at vs i) j 0 ≡ get_or (record_at ws i) j 0 → AlikeAt vs ws (place i j) =
      λ j o e. sym (record_word vs i j t x.register-length o) ∙ e ∙ record_word ws i j t y.register-length o in
      reach k 7
      (λ a. word k l (scalar_alike (record_at vs i) (record_at ws i) p q b c (read i h) k a))
      (λ a. reach k 15
      (λ d. alike_at vs ws (place i k) (place i (at_declarers + (k - 7))) (ap (place i) (omega arith))
      (reach (k - 7) (group_at ws i).figures.standing
      (λ s. word (at_declarers + (k - 7)) (omega arith) (figure_alike (record_at vs i) (record_at ws i) p q b c (read i h) (k - 7) s).0)
      (λ s. unused.declarers i (k - 7) h (omega arith) (omega arith))))
      (λ d. alike_at vs ws (place i k) (place i (at_quotas + (k - 15))) (ap (place i) (omega arith))
      (reach (k - 15) (group_at ws i).figures.standing
      (λ s. word (at_quotas + (k - 15)) (omega arith) (figure_alike (record_at vs i) (record_at ws i) p q b c (read i h) (k - 15) s).1)
      (λ s. unused.quotas i (k - 15) h (omega arith) (omega arith)))))

  group_word : (i k : ℕ) → i < 64 → k < record_words → AlikeAt vs ws (place i k)
  group_word i k h l = reach i (group_count ws) (λ a. enrolled_word i k a l) (λ a. unused.groups i k a h l)

  -- the count of the units, and the words of each
  unit_count_lem : unit_count vs ≡ unit_count ws
  unit_count_lem = sym (length_units vs x.register-length x.units_most) ∙ ap (λ (z : List (ℕ × ℕ)). length z) attached ∙ length_units ws y.register-length y.units_most

  unit_pair : (j : ℕ) → j < unit_count ws → ◌≡◌ {A = ℕ × ℕ} (get_or vs (first_unit + j) 0, get_or vs (first_unit_group + j) 0) (get_or ws (first_unit + j) 0, get_or ws (first_unit_group + j) 0)
  unit_pair j h =
      let t : j < 256 = omega (arith, y.units_most) in
      let a = at vs x.register-length x.units_most j (omega (arith, unit_count_lem)) t in
      let b = at ws y.register-length y.units_most j h t in
      sym a ∙ ap (λ (z : List (ℕ × ℕ)). get_or z j (0, 0)) attached ∙ b
    where
      at : (us : List ℕ) → length us ≡ register_length → unit_count us ≤ 256 → (i : ℕ) → i < unit_count us → i < 256 → get_or (units_of us) i (0, 0) ≡ (get_or us (first_unit + i) 0, get_or us (first_unit_group + i) 0)
      at us l m i o t =
          let c = length-column us l in
          let d = length_group_column us l in
          rw (units_is us l, unit_at (unit_column us) (unit_group_column us) (unit_count us) i o (omega arith) (omega arith), run_at us first_unit 256 i t, run_at us first_unit_group 256 i t)

  unit_word : (j : ℕ) → j < 256 → AlikeAt vs ws (first_unit + j)
  unit_word j h = reach j (unit_count ws) (λ a. ap (λ (z : ℕ × ℕ). z.0) (unit_pair j a)) (λ a. unused.units j a h)

  unit_group_word : (j : ℕ) → j < 256 → AlikeAt vs ws (first_unit_group + j)
  unit_group_word j h = reach j (unit_count ws) (λ a. ap (λ (z : ℕ × ℕ). z.1) (unit_pair j a)) (λ a. unused.unit_groups j a h)

  header_word : (p : ℕ) → p < first_declarer → AlikeAt vs ws p
  header_word zero h = count
  header_word (suc zero) h = unit_count_lem
  header_word (suc (suc zero)) h = ap (λ (t : Ratios). t.proprietary.numerator) ratios
  header_word (suc (suc (suc zero))) h = ap (λ (t : Ratios). t.proprietary.denominator) ratios
  header_word (suc (suc (suc (suc zero)))) h = ap (λ (t : Ratios). t.management.numerator) ratios
  header_word (suc (suc (suc (suc (suc zero))))) h = ap (λ (t : Ratios). t.management.denominator) ratios
  header_word (suc (suc (suc (suc (suc (suc zero)))))) h = ap (λ (t : Ratios). t.institution.numerator) ratios
  header_word (suc (suc (suc (suc (suc (suc (suc zero))))))) h = ap (λ (t : Ratios). t.institution.denominator) ratios
  header_word (suc (suc (suc (suc (suc (suc (suc (suc p)))))))) h = unused.header (suc (suc (suc (suc (suc (suc (suc (suc p)))))))) (omega arith) (omega arith)

  -- every word is one of these: header, declarers, figures, units, their groups, columns of scalars
  every_word : (p : ℕ) → p < register_length → AlikeAt vs ws p
  every_word p h =
      reach p first_declarer (λ a. header_word p a)
      (λ a. reach p first_figure
      (λ b. from_place ((p - first_declarer) / 8) (at_declarers + (p - first_declarer) % 8) (omega arith) (omega arith)
      (part ((p - first_declarer) / 8) (at_declarers + (p - first_declarer) % 8) (λ c e. absurd (omega arith)) (λ c d e. omega arith) (λ c e. absurd (omega arith))))
      (λ b. reach p first_unit
      (λ c. from_place ((p - first_figure) / 8) (at_quotas + (p - first_figure) % 8) (omega arith) (omega arith)
      (part ((p - first_figure) / 8) (at_quotas + (p - first_figure) % 8) (λ d e. absurd (omega arith)) (λ d f e. absurd (omega arith)) (λ d e. omega arith)))
      (λ c. reach p first_unit_group
      (λ d. alike_at vs ws p (first_unit + (p - first_unit)) (omega arith) (unit_word (p - first_unit) (omega arith)))
      (λ d. reach p first_scalar
      (λ e. alike_at vs ws p (first_unit_group + (p - first_unit_group)) (omega arith) (unit_group_word (p - first_unit_group) (omega arith)))
      (λ e. from_place ((p - first_scalar) % 64) ((p - first_scalar) / 64) (omega arith) (omega arith)
      (part ((p - first_scalar) % 64) ((p - first_scalar) / 64) (λ f q. omega arith) (λ f g q. absurd (omega arith)) (λ f q. absurd (omega arith))))))))
    where
      from_place : (i k : ℕ) → i < 64 → k < record_words → place i k ≡ p → AlikeAt vs ws p
      from_place i k a b e = alike_at vs ws p (place i k) e (group_word i k a b)

  pub register_alike : vs ≡ ws
  register_alike = ext_get_or 0 vs ws (x.register-length ∙ sym y.register-length) (λ p h. every_word p (omega (arith, x.register-length)))
