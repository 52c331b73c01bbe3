-- A column from right to left: its last digit, and what stands in front of the digits (specs/Parts.antt), put and compared. Assumes nothing.
use Rattle.std.specs.Prelude.{ℕ, zero, suc, ◌+◌, ◌-◌, ◌/◌, ◌%◌, ◌^◌, ◌≤◌, ◌<◌, ◌≡◌, refl, Bool, true, false, ◌&&◌, List, [], ◌∷◌, ◌++◌, eqb, leb, ltb, length}
use Rattle.std.specs.List.{list_all}
use Rattle.std.proofs.Common.{ap, sym, ◌∙◌, arith, length-append, le-leb, ltb-true, ltb-false, lt-ltb, le-ltb}
use Rattle.std.proofs.lemmas.Bool.{lt-leb}
use Rattle.std.proofs.Math.Bool.{and-true, and_assoc}
use Rattle.std.proofs.Math.ListN.{replicate, set}
use native.Mathlib.Nat.{pow-succ', div-one, div-div-eq-div-mul}
use Rattle.columns.specs.Column.{blank, byte_at, marked, dashed, same}
use Rattle.columns.specs.Parts.{front}
use Rattle.columns.specs.Laws.{byte_blank, byte_mark, byte_digit, blank_here, below_up}

-- ---- "-" is a front

pub front_dash : (w : ℕ) → front 45 w ≡ dashed w
unfolding front dashed
front_dash zero = refl
front_dash (suc zero) = refl
front_dash (suc (suc k)) = ap (λ (s : List ℕ). 32 ∷ s) (front_dash (suc k))

pub length-front : (mark w : ℕ) → length (front mark w) ≡ w
unfolding front
length-front mark zero = refl
length-front mark (suc zero) = refl
length-front mark (suc (suc k)) = ap suc (length-front mark (suc k))

-- ---- a column from the right: the last digit, behind the column of a tenth, or behind the front where nothing is left

ltb_tenth : (n j : ℕ) → ltb n (10 ^ suc j) ≡ ltb (n / 10) (10 ^ j)
ltb_tenth n j = go (ltb (n / 10) (10 ^ j)) refl
  where
    go : (b : Bool) → ltb (n / 10) (10 ^ j) ≡ b → ltb n (10 ^ suc j) ≡ b
    go true e = lt-ltb n (10 ^ suc j) (omega (arith, pow-succ' 10 j, ltb-true (n / 10) (10 ^ j) e))
    go false e = le-ltb n (10 ^ suc j) (omega (arith, pow-succ' 10 j, ltb-false (n / 10) (10 ^ j) e))

digit_tenth : (n j : ℕ) → n / 10 ^ suc j ≡ n / 10 / 10 ^ j
digit_tenth n j = ap (λ (m : ℕ). n / m) (pow-succ' 10 j) ∙ sym (div-div-eq-div-mul n 10 (10 ^ j))

module _ (n : ℕ) (some : 1 ≤ n / 10) where
  blank_tenth : (j : ℕ) → blank n (suc j) ≡ blank (n / 10) j
  blank_tenth zero = le-ltb n (10 ^ 1) (omega (arith, some))
  blank_tenth (suc j) = rw (lt-ltb 0 (suc (suc j)) (omega arith), lt-ltb 0 (suc j) (omega arith)) (ltb_tenth n (suc j))

  byte_tenth : (mark j : ℕ) → byte_at mark n (suc j) ≡ byte_at mark (n / 10) j
  unfolding byte_at
  byte_tenth mark zero = rw (blank_tenth zero) (ap (λ (m : ℕ). 48 + m % 10) (digit_tenth n 0))
  byte_tenth mark (suc j) =
      let e : suc (suc j) - 1 ≡ suc j = omega arith in
      let f : suc j - 1 ≡ j = omega arith in
      rw (e, f, blank_tenth (suc j), blank_tenth j, digit_tenth n (suc j))

  pub marked_tenth : (mark k : ℕ) → marked mark (suc k) n ≡ marked mark k (n / 10) ++ (48 + n % 10) ∷ []
  unfolding marked
  marked_tenth mark zero = rw (byte_digit mark n 0 refl, div-one n)
  marked_tenth mark (suc k) = rw (byte_tenth mark k, marked_tenth mark k)

pub marked_front : (mark k n : ℕ) → n / 10 ≡ 0 → marked mark (suc k) n ≡ front mark k ++ (48 + n % 10) ∷ []
unfolding marked front
marked_front mark zero n h = rw (byte_digit mark n 0 refl, div-one n)
marked_front mark (suc zero) n h =
    rw (byte_mark mark n 1 (blank_here n 1 (omega arith) (omega (arith, h))) refl, marked_front mark zero n h)
marked_front mark (suc (suc k)) n h =
    let few : (j : ℕ) → n < 10 ^ suc j = λ j. below_up n 1 (suc j) (omega (arith, h)) (omega arith) in
    let e : suc (suc k) - 1 ≡ suc k = omega arith in
    let b : blank n (suc (suc k) - 1) ≡ true = rw e (blank_here n (suc k) (omega arith) (few k)) in
    rw (byte_blank mark n (suc (suc k)) (blank_here n (suc (suc k)) (omega arith) (few (suc k))) b, marked_front mark (suc k) n h)

-- ---- two parts compared with two

pub same_parts : (a b x y : List ℕ) → length a ≡ length x → same (a ++ b) (x ++ y) ≡ (same a x && same b y)
unfolding same
same_parts [] b [] y e = refl
same_parts [] b (x ∷ xs) y e = absurd (omega (arith, e))
same_parts (a ∷ p) b [] y e = absurd (omega (arith, e))
same_parts (a ∷ p) b (x ∷ q) y e = rw (same_parts p b q y (omega (arith, e))) (sym (and_assoc (eqb a x) (same p q) (same b y)))

-- ---- the bytes in front: blanks, and the mark in the last

mark_put : (mark k : ℕ) → set (replicate (suc k) 32) k mark ≡ front mark (suc k)
unfolding front
mark_put mark zero = refl
mark_put mark (suc k) = ap (λ (s : List ℕ). 32 ∷ s) (mark_put mark k)

pub front_put : (mark n : ℕ) → 0 < n → set (replicate n 32) (n - 1) mark ≡ front mark n
front_put mark zero h = absurd (omega arith)
front_put mark (suc k) h = let e : suc k - 1 ≡ k = omega arith in rw e (mark_put mark k)

front_is : (mark : ℕ) (b : List ℕ) (l : ℕ) → same (b ++ l ∷ []) (front mark (suc (length b))) ≡ (list_all (λ x. eqb x 32) b && eqb l mark)
unfolding same front
front_is mark [] l = and-true (eqb l mark)
front_is mark (x ∷ bs) l = rw (front_is mark bs l) (sym (and_assoc (eqb x 32) (list_all (λ y. eqb y 32) bs) (eqb l mark)))

module _ (mark : ℕ) (p b : List ℕ) (l : ℕ) (t : Bool) (e : p ≡ b ++ l ∷ []) (a : t ≡ list_all (λ x. eqb x 32) b) where
  front_last : (t && eqb l mark) ≡ same p (front mark (length p))
  front_last =
      let n : length p ≡ suc (length b) = rw e (omega (arith, length-append b (l ∷ []))) in
      rw (n, e, a) (sym (front_is mark b l))

  pub front_behind : t ≡ true → eqb l mark ≡ same p (front mark (length p))
  front_behind k = rw k at front_last

  pub front_not : t ≡ false → t ≡ same p (front mark (length p))
  front_not k = k ∙ (rw k at front_last)

-- ---- "-" alone

module _ (t : List ℕ) where
  pub dash_is : (b : Bool) → 1 ≤ length t → b ≡ same t (front 45 (length t)) → b ≡ (leb 1 (length t) && same t (dashed (length t)))
  dash_is b h e = rw (le-leb 1 (length t) h, ← front_dash (length t), e)

  pub dash_not : length t ≡ 0 → (leb 1 (length t) && same t (dashed (length t))) ≡ false
  dash_not h = rw (lt-leb 1 (length t) (omega arith))
