-- What is written in a column is read back: `plain_back`, `optional_back`, `signed_back`, over specs/Laws.antt. Assumes nothing.
-- Here, and not in specs/, so that a wrong definition is refused by the first theorem that it breaks, and not by those that rest on it.
use Rattle.std.specs.Prelude.{ℕ, zero, suc, ◌+◌, ◌*◌, ◌-◌, ◌/◌, ◌%◌, ◌^◌, min, ◌≤◌, ◌<◌, ◌≡◌, refl, Bool, true, false, ◌||◌, eqb, drop}
use Rattle.std.proofs.Common.{ap, sym, ◌∙◌, mod-eq_of_lt, arith, leb-true, le-leb, ne_eqb}
use Rattle.std.proofs.Math.Nat.{pow-succ', mod-one, min-le_left, min-le_right, le-min}
use Rattle.std.proofs.Math.Arith.{mod-mul}
use Rattle.rules.specs.Tests.{pick}
use Rattle.columns.specs.Column.{blank, byte_at, marked, column, dashed, optional_text, signed_text, fits, optional_fits, signed_fits, number, digits, minus, read_plain, read_optional, read_signed}
use Rattle.columns.specs.Laws.{ten_pos, below_up, byte_mark, blank_here, blank_pos, digit_byte, length_marked, length-dashed, read-bytes, same_refl, no_minus, fits_low, fits_wide, below-fits}

-- one digit more
mod_ten : (n k : ℕ) → n / 10 ^ k % 10 * 10 ^ k + n % 10 ^ k ≡ n % 10 ^ suc k
mod_ten n k = sym (ap (λ (x : ℕ). n % x) (pow-succ' 10 k) ∙ mod-mul n {m = 10} {c = 10 ^ k} (omega arith) (ten_pos k))

pub number-marked : (mark w n : ℕ) → mark < 48 → number (marked mark w n) ≡ n % 10 ^ w
unfolding number marked
number-marked mark zero n h = sym (mod-one n)
number-marked mark (suc k) n h = rw (digit_byte mark n k h, length_marked mark k n, number-marked mark k n h) (mod_ten n k)

pub number_fits : (mark w n : ℕ) → mark < 48 → n < 10 ^ w → number (marked mark w n) ≡ n
number_fits mark w n h l = number-marked mark w n h ∙ mod-eq_of_lt l

drop-marked : (mark w n j : ℕ) → drop j (marked mark w n) ≡ marked mark (w - j) n
unfolding marked
drop-marked mark w n zero = let e : w ≡ w - 0 = omega arith in ap (λ (k : ℕ). marked mark k n) e
drop-marked mark zero n (suc j) = let e : 0 ≡ 0 - suc j = omega arith in ap (λ (k : ℕ). marked mark k n) e
drop-marked mark (suc w) n (suc j) = let e : w - j ≡ suc w - suc j = omega arith in drop-marked mark w n j ∙ ap (λ (k : ℕ). marked mark k n) e

pub digits-marked : (mark w n : ℕ) → mark < 48 → n < 10 ^ min w 19 → digits (marked mark w n) ≡ n
unfolding digits
digits-marked mark w n h l = rw (length_marked mark w n, drop-marked mark w n (w - 19), read-bytes w) (number_fits mark (min w 19) n h l)

or_right : (a b : Bool) → b ≡ true → (a || b) ≡ true
or_right true b h = refl
or_right false b h = h

-- the place before the first digit bears it
pub has_minus : (k n : ℕ) → blank n k ≡ true → minus (marked 45 (suc k) n) ≡ true
unfolding minus marked
has_minus zero n e = absurd (omega (arith, blank_pos n 0 e))
has_minus (suc k) n e = go (has_minus k n) (blank n k) refl
  where
    go : (blank n k ≡ true → minus (marked 45 (suc k) n) ≡ true) → (b : Bool) → blank n k ≡ b → minus (marked 45 (suc (suc k)) n) ≡ true
    go rec true f = or_right (eqb (byte_at 45 n (suc k)) 45) (minus (marked 45 (suc k) n)) (rec f)
    go rec false f =
        let s : suc k - 1 ≡ k = omega arith in
        rw (byte_mark 45 n (suc k) e (ap (λ (m : ℕ). blank n m) s ∙ f)) refl

pub dash-minus : (w : ℕ) → 1 ≤ w → minus (dashed w) ≡ true
unfolding minus dashed
dash-minus zero h = absurd (omega arith)
dash-minus (suc zero) h = refl
dash-minus (suc (suc k)) h = dash-minus (suc k) (omega arith)

pub plain_back : (w n : ℕ) → fits w n ≡ true → read_plain (column w n) ≡ record { formed = true; number = n }
unfolding read_plain
plain_back w n h =
    rw (length_marked 32 w n, digits-marked 32 w n (omega arith) (fits_low w n h), le-leb 1 w (fits_wide w n h), same_refl (column w n))

pub optional_back : (w : ℕ) (present : Bool) (n : ℕ) → optional_fits w present n ≡ true
    → read_optional (optional_text w present n) ≡ record { formed = true; present = present; number = pick present n 0 }
unfolding read_optional
optional_back w true n h = rw (no_minus w n, plain_back w n h)
optional_back w false n h = rw (dash-minus w (leb-true 1 w h), length-dashed w, same_refl (dashed w))

below_back : (k n : ℕ) → 1 ≤ n → fits k n ≡ true → read_signed (marked 45 (suc k) n) ≡ record { formed = true; below = true; size = n }
unfolding read_signed
below_back k n s f =
    let l : n < 10 ^ min k 19 = fits_low k n f in
    let b : blank n k ≡ true = blank_here n k (fits_wide k n f) (below_up n (min k 19) k l (min-le_left k 19)) in
    let m : min k 19 ≤ min (suc k) 19 = le-min (omega (arith, min-le_left k 19)) (min-le_right k 19) in
    let d : digits (marked 45 (suc k) n) ≡ n = digits-marked 45 (suc k) n (omega arith) (below_up n (min k 19) (min (suc k) 19) l m) in
    rw (length_marked 45 (suc k) n, d, has_minus k n b, le-leb 1 (suc k) (omega arith), same_refl (marked 45 (suc k) n), ne_eqb n 0 (λ z. omega arith))

pub signed_back : (w : ℕ) (below : Bool) (n : ℕ) → signed_fits w below n ≡ true → read_signed (signed_text w below n) ≡ record { formed = true; below = below; size = n }
unfolding read_signed
signed_back w false n h =
    rw (length_marked 32 w n, digits-marked 32 w n (omega arith) (fits_low w n h), no_minus w n, le-leb 1 w (fits_wide w n h), same_refl (column w n))
signed_back zero true n h = absurd (omega (arith, fits_wide (0 - 1) n (below-fits 0 n h).fits))
signed_back (suc k) true n h =
    let b = below-fits (suc k) n h in
    let e : suc k - 1 ≡ k = omega arith in
    below_back k n b.some (rw e at b.fits)
