-- Article 16's sum over a list of calls and loads is open + bought − sold, for every part of the orders after every list: `article_16`, in proofs/Tally.antt.
-- Each call moves money between the parts of the formula as it moves it between open, bought and sold. Assumes nothing.
use Prim.Native.Nat.{ℕ, suc, ◌+◌, ◌-◌}
use Rattle.std.specs.Prelude.{◌≡◌, Bool, cond, ltb, pos, negsuc}
use Rattle.std.proofs.Math.Path.{refl, ap}
use Rattle.std.proofs.Common.{ltb-true, ltb-false, lt-ltb, le-ltb}
use Rattle.std.proofs.Math.Bool.{true, false}
use native.Mathlib.Omega.{arith}
use Rattle.std.proofs.Math.IntN.{sub_ℕ}

pub sub_same : (a b k : ℕ) → sub_ℕ (a + k) (b + k) ≡ sub_ℕ a b
sub_same a b k = go (ltb a b) refl
  where
    go : (t : Bool) → ltb a b ≡ t → sub_ℕ (a + k) (b + k) ≡ cond t (negsuc (b - suc a)) (pos (a - b))
    go true e =
        let x : b + k - suc (a + k) ≡ b - suc a = omega (arith, ltb-true a b e) in
        rw (lt-ltb (a + k) (b + k) (omega (arith, ltb-true a b e))) (ap negsuc x)
    go false e =
        let x : a + k - (b + k) ≡ a - b = omega arith in
        rw (le-ltb (a + k) (b + k) (omega (arith, ltb-false a b e))) (ap pos x)
