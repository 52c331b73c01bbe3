-- The ratios that are put are read back (`ratios_back`), and no other word changes (`ratios_other`). Over specs/Ratios.antt. Assumes nothing.
-- Here, and not in specs/, so that a wrong definition is refused by the first theorem that it breaks, and not by those that rest on it.
use Rattle.std.specs.Prelude.{ℕ, ◌+◌, ◌≤◌, ◌<◌, ◌≡◌, ◌≢◌, List, length, get_or, set}
use Rattle.std.proofs.Common.{◌∙◌, arith, length-set, get_or-set_same, get_or-set_other}
use Rattle.rules.specs.Quotas.{ratio}
use Rattle.rules.specs.declared.quotas.Ratio.{Ratio}
use Rattle.rules.specs.declared.quotas.Ratios.{Ratios}
use Rattle.register.specs.Layout.{held, register_length, ratios_of, put_ratio, put_ratios}
use Rattle.register.specs.Records.{small_held}
use Rattle.register.specs.Ratios.{InWords}

abbrev ratio_at : List ℕ → ℕ → Ratio
ratio_at ws k = ratio (get_or ws k 0) (get_or ws (k + 1) 0)

module _ (ws : List ℕ) (k x y : ℕ) where
  abbrev pair : List ℕ
  pair = set (set ws k x) (k + 1) y

  length-pair : length pair ≡ length ws
  length-pair = length-set (set ws k x) (k + 1) y ∙ length-set ws k x

  pair_other : (p : ℕ) → p ≢ k → p ≢ k + 1 → get_or pair p 0 ≡ get_or ws p 0
  pair_other p a b = get_or-set_other (set ws k x) (k + 1) p y 0 b ∙ get_or-set_other ws k p x 0 a

  pair_same : k + 1 < length ws → ratio_at pair k ≡ ratio x y
  pair_same l =
      let n = length-set ws k x in
      rw (get_or-set_other (set ws k x) (k + 1) k y 0 (omega arith), get_or-set_same ws k x 0 (omega arith), get_or-set_same (set ws k x) (k + 1) y 0 (omega arith))

  -- a ratio before them
  pair_behind : (j : ℕ) → j + 1 < k → ratio_at pair j ≡ ratio_at ws j
  pair_behind j h = rw (pair_other j (omega arith) (omega arith), pair_other (j + 1) (omega arith) (omega arith))

module _ (ws : List ℕ) (k : ℕ) (r : Ratio) where
  length-ratio : length (put_ratio ws k r) ≡ length ws
  length-ratio = length-pair ws k _ _

  ratio_other : (p : ℕ) → p ≢ k → p ≢ k + 1 → get_or (put_ratio ws k r) p 0 ≡ get_or ws p 0
  ratio_other = pair_other ws k _ _

  ratio_behind : (j : ℕ) → j + 1 < k → ratio_at (put_ratio ws k r) j ≡ ratio_at ws j
  ratio_behind = pair_behind ws k _ _

  ratio-same : k + 1 < length ws → InWords r → ratio_at (put_ratio ws k r) k ≡ r
  ratio-same l i =
      let a : held r.numerator ≡ r.numerator = small_held r.numerator (omega (arith, i.0)) in
      let b : held r.denominator ≡ r.denominator = small_held r.denominator (omega (arith, i.1)) in
      pair_same ws k _ _ l ∙ rw (a, b)

abbrev table : Ratio → Ratio → Ratio → Ratios
table a b c = record { proprietary = a; management = b; institution = c }

joined : {a b c d e f : Ratio} → a ≡ d → b ≡ e → c ≡ f → table a b c ≡ table d e f
joined x y z = rw (x, y, z)

module _ (ws : List ℕ) (t : Ratios) where
  -- the register with the first ratio, and with the first two
  abbrev one : List ℕ
  one = put_ratio ws 2 t.proprietary

  abbrev two : List ℕ
  two = put_ratio one 4 t.management

  -- what is put is read back
  pub ratios_back : length ws ≡ register_length → InWords t.proprietary → InWords t.management → InWords t.institution → ratios_of (put_ratios ws t) ≡ t
  ratios_back l p m i =
      let a = length-ratio ws 2 t.proprietary in
      let b = length-ratio one 4 t.management in
      joined
      (ratio_behind two 6 t.institution 2 (omega arith) ∙ ratio_behind one 4 t.management 2 (omega arith) ∙ ratio-same ws 2 t.proprietary (omega arith) p)
      (ratio_behind two 6 t.institution 4 (omega arith) ∙ ratio-same one 4 t.management (omega arith) m)
      (ratio-same two 6 t.institution (omega arith) i)

  -- every word outside 2 to 7 stays
  pub ratios_other : (k : ℕ) → (2 ≤ k → 8 ≤ k) → get_or (put_ratios ws t) k 0 ≡ get_or ws k 0
  ratios_other k h =
      ratio_other two 6 t.institution k (λ e. omega (arith, h (omega arith))) (λ e. omega (arith, h (omega arith)))
      ∙ ratio_other one 4 t.management k (λ e. omega (arith, h (omega arith))) (λ e. omega (arith, h (omega arith)))
      ∙ ratio_other ws 2 t.proprietary k (λ e. omega (arith, h (omega arith))) (λ e. omega (arith, h (omega arith)))
