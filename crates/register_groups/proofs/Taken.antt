-- Some group of the first ones, and not all of them not: the same. Assumes nothing.
use Rattle.std.proofs.Common.{ℕ, zero, suc, ◌≡◌, ◌+◌, refl, ap, sym, ◌∙◌, Bool, not, zero-add, add-zero, arith, List}
use Rattle.std.specs.Prelude.{◌||◌, min}
use Rattle.std.proofs.Math.Bool.{or-false, or_assoc}
use Rattle.std.specs.List.{list_any, range_with_len}
use Rattle.words.specs.Each.{all_below}
use Rattle.register.specs.Layout.{is_taken, is_group, group_count}
use Rattle.register.specs.Views.{not_and_not}

-- the last number of a range looked at last
any_last : (p : ℕ → Bool) (a n : ℕ) → list_any p (range_with_len a (suc n)) ≡ (list_any p (range_with_len a n) || p (a + n))
any_last p a zero = or-false (p a) ∙ ap p (sym (add-zero a))
any_last p a (suc n) =
    let e : a + 1 + n ≡ a + suc n = omega arith in
    ap (λ z. p a || z) (any_last p (a + 1) n ∙ ap (λ z. list_any p (range_with_len (a + 1) n) || p z) e)
    ∙ sym (or_assoc (p a) (list_any p (range_with_len (a + 1) n)) (p (a + suc n)))

-- some number below n has p: not all have it not
any_below : (p : ℕ → Bool) (n : ℕ) → list_any p (range_with_len 0 n) ≡ not (all_below n (λ k. not (p k)))
unfolding all_below
any_below p zero = refl
any_below p (suc n) =
    any_last p 0 n ∙ ap (λ z. list_any p (range_with_len 0 n) || p z) (zero-add n)
    ∙ ap (λ z. z || p n) (any_below p n) ∙ sym (not_and_not (all_below n (λ k. not (p k))) (p n))

-- a group of that code and class among the first n
pub taken_among : (ws : List ℕ) (code class n : ℕ) (b : Bool) → n ≡ min (group_count ws) 64 → b ≡ list_any (is_group ws code class) (range_with_len 0 n) → is_taken ws code class ≡ b
unfolding is_taken
taken_among ws code class n b e h = sym (h ∙ any_below (is_group ws code class) n ∙ ap (λ z. not (all_below z (λ k. not (is_group ws code class k)))) e)
