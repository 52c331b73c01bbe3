-- The check column by column, as the code makes it, is the check record by record. Assumes nothing.
use Rattle.std.specs.Prelude.{ℕ, ◌+◌, ◌*◌, ◌-◌, ◌/◌, ◌%◌, ◌≤◌, ◌<◌, ◌≡◌, refl, Bool, false, not, ◌&&◌, List, [], ◌∷◌, ltb, eqb, length, get_or}
use Rattle.std.proofs.Common.{ap, ◌∙◌, arith, le-ltb, eqb-true}
use Rattle.std.proofs.Math.Path.{sym}
use Rattle.std.proofs.Math.Bool.{true}
use Rattle.std.proofs.Math.Dec.{leb}
use Rattle.rules.specs.Tests.{pick, both}
use Rattle.words.specs.Each.{all_below, all_true, true_all}
use Rattle.register.specs.Layout.{place, record_at, class_column, emergency_column, first_figure, first_scalar, holder_column, record_words, register_length, first_declarer}
use Rattle.register.specs.Check.{most_words, record_ok, group_ok}
use Rattle.register.specs.Records.{part, record_word}

-- two tests that hold of the same are equal
same_test : (a b : Bool) → (a ≡ true → b ≡ true) → (b ≡ true → a ≡ true) → a ≡ b
same_test true b f g = sym (f refl)
same_test false true f g = g refl
same_test false false f g = refl

-- the class is 1 or more, and there is no emergency figure where nobody holds one
abbrev pub tied : ℕ → ℕ → ℕ → Bool
tied class holder figure = leb 1 class && not (eqb holder 200_000 && not (eqb figure 0))

-- the greatest values of the scalars
abbrev pub most_scalars : List ℕ
most_scalars = 99_999 ∷ 4 ∷ 10_000_000 ∷ 10_000_000 ∷ 200_000 ∷ 9_999_999 ∷ 8 ∷ []

-- the scalars of group i are in range; declarer and figure j, counted over all groups, are
unfoldable pub scalars_ok : List ℕ → ℕ → Bool
scalars_ok ws i =
    tied (get_or ws (class_column + i) 0) (get_or ws (holder_column + i) 0) (get_or ws (emergency_column + i) 0)
    && all_below 7 (λ k. leb (get_or ws (first_scalar + 64 * k + i) 0) (get_or most_scalars k 0))

abbrev pub declared_ok : List ℕ → ℕ → Bool
declared_ok ws j = leb (get_or ws (first_declarer + j) 0) 99_999 && leb (get_or ws (first_figure + j) 0) 9_999_999

most_scalar : (k : ℕ) → k < 7 → get_or most_words k 0 ≡ get_or most_scalars k 0
unfolding all_below
most_scalar k a = eqb-true (get_or most_words k 0) (get_or most_scalars k 0) (all_true 7 (λ j. eqb (get_or most_words j 0) (get_or most_scalars j 0)) k refl a)

-- the greatest values of the eight declarers are one number, and so are those of the figures
most_declarer : (k : ℕ) → 7 ≤ k → k < 15 → get_or most_words k 0 ≡ 99_999
unfolding all_below
most_declarer k a b =
    eqb-true (get_or most_words k 0) 99_999 (rw (le-ltb k 7 a) at (all_true 15 (λ j. pick (ltb j 7) true (eqb (get_or most_words j 0) 99_999)) k refl b))

most_figure : (k : ℕ) → 15 ≤ k → k < record_words → get_or most_words k 0 ≡ 9_999_999
unfolding all_below
most_figure k a b =
    eqb-true (get_or most_words k 0) 9_999_999 (rw (le-ltb k 15 a) at (all_true record_words (λ j. pick (ltb j 15) true (eqb (get_or most_words j 0) 9_999_999)) k refl b))

-- word k of group i is at most its greatest value, said of its place
abbrev word_ok : List ℕ → ℕ → ℕ → Bool
word_ok ws i k = leb (get_or ws (place i k) 0) (get_or most_words k 0)

module _ (ws : List ℕ) (l : length ws ≡ register_length) where
  word_is : (i k : ℕ) → i < 64 → k < record_words → leb (get_or (record_at ws i) k 0) (get_or most_words k 0) ≡ word_ok ws i k
  word_is i k h m = ap (λ z. leb z (get_or most_words k 0)) (record_word ws i k h l m)

  tied_is : (i : ℕ) → i < 64 → tied (get_or (record_at ws i) 1 0) (get_or (record_at ws i) 4 0) (get_or (record_at ws i) 5 0) ≡ tied (get_or ws (class_column + i) 0) (get_or ws (holder_column + i) 0) (get_or ws (emergency_column + i) 0)
  unfolding place
  tied_is i h = rw (record_word ws i 1 h l (omega arith), record_word ws i 4 h l (omega arith), record_word ws i 5 h l (omega arith))

  -- a declarer and a figure by their number over all groups
  declarer_is : (i k : ℕ) → 7 ≤ k → k < 15 → word_ok ws i k ≡ leb (get_or ws (first_declarer + (8 * i + (k - 7))) 0) 99_999
  declarer_is i k a b = part i k (λ x e. absurd (omega arith)) (λ x y e. let q : place i k ≡ first_declarer + (8 * i + (k - 7)) = omega arith in rw (q, most_declarer k a b)) (λ x e. absurd (omega arith))

  figure_is : (i k : ℕ) → 15 ≤ k → k < record_words → word_ok ws i k ≡ leb (get_or ws (first_figure + (8 * i + (k - 15))) 0) 9_999_999
  figure_is i k a b = part i k (λ x e. absurd (omega arith)) (λ x y e. absurd (omega arith)) (λ x e. let q : place i k ≡ first_figure + (8 * i + (k - 15)) = omega arith in rw (q, most_figure k a b))

  scalar_is : (i k : ℕ) → k < 7 → word_ok ws i k ≡ leb (get_or ws (first_scalar + 64 * k + i) 0) (get_or most_scalars k 0)
  scalar_is i k a = part i k (λ x e. rw (e, most_scalar k a)) (λ x y e. absurd (omega arith)) (λ x e. absurd (omega arith))

  -- a group whose scalars, declarers and figures are in range is in range
  group_true : (i : ℕ) → i < 64 → scalars_ok ws i ≡ true → ((j : ℕ) → j < 8 → declared_ok ws (8 * i + j) ≡ true) → group_ok ws i ≡ true
  unfolding scalars_ok record_ok
  group_true i h s d =
      let b = both (tied (get_or ws (class_column + i) 0) (get_or ws (holder_column + i) 0) (get_or ws (emergency_column + i) 0)) (all_below 7 (λ k. leb (get_or ws (first_scalar + 64 * k + i) 0) (get_or most_scalars k 0))) s in
      let w : all_below record_words (λ k. leb (get_or (record_at ws i) k 0) (get_or most_words k 0)) ≡ true =
      true_all record_words (λ k. leb (get_or (record_at ws i) k 0) (get_or most_words k 0))
      (λ k m.
      word_is i k h m
      ∙ part i k
      (λ x e. scalar_is i k x ∙ all_true 7 (λ z. leb (get_or ws (first_scalar + 64 * z + i) 0) (get_or most_scalars z 0)) k b.1 x)
      (λ x y e. declarer_is i k x y ∙ (both (leb (get_or ws (first_declarer + (8 * i + (k - 7))) 0) 99_999) (leb (get_or ws (first_figure + (8 * i + (k - 7))) 0) 9_999_999) (d (k - 7) (omega arith))).0)
      (λ x e. figure_is i k x m ∙ (both (leb (get_or ws (first_declarer + (8 * i + (k - 15))) 0) 99_999) (leb (get_or ws (first_figure + (8 * i + (k - 15))) 0) 9_999_999) (d (k - 15) (omega arith))).1)) in
      rw (tied_is i h, b.0, w)

  -- and the other way round
  true_words : (i : ℕ) → i < 64 → group_ok ws i ≡ true → (k : ℕ) → k < record_words → word_ok ws i k ≡ true
  unfolding record_ok
  true_words i h g k m =
      let b = both (tied (get_or (record_at ws i) 1 0) (get_or (record_at ws i) 4 0) (get_or (record_at ws i) 5 0)) (all_below record_words (λ z. leb (get_or (record_at ws i) z 0) (get_or most_words z 0))) g in
      sym (word_is i k h m) ∙ all_true record_words (λ z. leb (get_or (record_at ws i) z 0) (get_or most_words z 0)) k b.1 m

  true_scalars : (i : ℕ) → i < 64 → group_ok ws i ≡ true → scalars_ok ws i ≡ true
  unfolding scalars_ok record_ok
  true_scalars i h g =
      let b = both (tied (get_or (record_at ws i) 1 0) (get_or (record_at ws i) 4 0) (get_or (record_at ws i) 5 0)) (all_below record_words (λ z. leb (get_or (record_at ws i) z 0) (get_or most_words z 0))) g in
      let t : tied (get_or ws (class_column + i) 0) (get_or ws (holder_column + i) 0) (get_or ws (emergency_column + i) 0) ≡ true = sym (tied_is i h) ∙ b.0 in
      let w : all_below 7 (λ k. leb (get_or ws (first_scalar + 64 * k + i) 0) (get_or most_scalars k 0)) ≡ true =
      true_all 7 (λ k. leb (get_or ws (first_scalar + 64 * k + i) 0) (get_or most_scalars k 0)) (λ k m. sym (scalar_is i k m) ∙ true_words i h g k (omega arith)) in
      rw (t, w)

  true_declared : (i j : ℕ) → i < 64 → j < 8 → group_ok ws i ≡ true → declared_ok ws (8 * i + j) ≡ true
  true_declared i j h m g =
      let e : j + 7 - 7 ≡ j = omega arith in
      let f : j + 15 - 15 ≡ j = omega arith in
      let a : leb (get_or ws (first_declarer + (8 * i + j)) 0) 99_999 ≡ true = rw e at (sym (declarer_is i (j + 7) (omega arith) (omega arith)) ∙ true_words i h g (j + 7) (omega arith)) in
      let b : leb (get_or ws (first_figure + (8 * i + j)) 0) 9_999_999 ≡ true = rw f at (sym (figure_is i (j + 15) (omega arith) (omega arith)) ∙ true_words i h g (j + 15) (omega arith)) in
      rw (a, b)

  -- the check by columns is the check by records
  pub columns : (n : ℕ) → n ≤ 64 → (all_below n (scalars_ok ws) && all_below (8 * n) (declared_ok ws)) ≡ all_below n (group_ok ws)
  columns n m =
      same_test (all_below n (scalars_ok ws) && all_below (8 * n) (declared_ok ws)) (all_below n (group_ok ws))
      (λ e.
      let b = both (all_below n (scalars_ok ws)) (all_below (8 * n) (declared_ok ws)) e in
      true_all n (group_ok ws)
      (λ i h. group_true i (omega arith) (all_true n (scalars_ok ws) i b.0 h) (λ j o. all_true (8 * n) (declared_ok ws) (8 * i + j) b.1 (omega arith))))
      (λ e.
      let s : all_below n (scalars_ok ws) ≡ true = true_all n (scalars_ok ws) (λ i h. true_scalars i (omega arith) (all_true n (group_ok ws) i e h)) in
      let d : all_below (8 * n) (declared_ok ws) ≡ true =
      true_all (8 * n) (declared_ok ws)
      (λ j o.
      let q : 8 * (j / 8) + j % 8 ≡ j = omega arith in
      let h : j / 8 < n = omega arith in
      let r : j % 8 < 8 = omega arith in
      ap (declared_ok ws) (sym q) ∙ true_declared (j / 8) (j % 8) (omega arith) r (all_true n (group_ok ws) (j / 8) e h)) in
      rw (s, d))
