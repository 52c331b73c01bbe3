-- All words of a run joined bit by bit: no word of the run is above it. The check of the book has the words as a slice (proofs/Money.antt). Assumes nothing.
use Rattle.std.specs.Prelude.{ℕ, ◌+◌, ◌≤◌, ◌<◌, ◌≡◌, true, List, leb, get_or}
use Rattle.std.proofs.Common.{arith, le-leb}
use Rattle.std.specs.Int.Bits.{bit_or}
use Rattle.std.proofs.lemmas.Nat.{le_or_l, le_or_r}
use Rattle.words.specs.Each.{all_below, true_all, same}
use Rattle.rules.specs.Limits.{top_money}

-- the loop's fact: m is no less than each of the first n words from word k on
unfoldable pub Above : List ℕ → ℕ → ℕ → ℕ → Type 0
Above ws k n m = (j : ℕ) → j < n → get_or ws (k + j) 0 ≤ m

pub above_none : (ws : List ℕ) (k : ℕ) → Above ws k 0 0
unfolding Above
above_none ws k j h = absurd (omega arith)

pub above_turn : (ws : List ℕ) (k n m : ℕ) → Above ws k n m → Above ws k (n + 1) (bit_or m (get_or ws (k + n) 0))
unfolding Above
above_turn ws k n m a j h =
    let l = le_or_l m (get_or ws (k + n) 0) in
    let r = le_or_r m (get_or ws (k + n) 0) in
    same j n
    (λ q. rw q r)
    (λ q. let b = a j (omega arith) in omega arith)

pub above_end : (ws : List ℕ) (k n p m : ℕ) → n ≤ p → p ≤ n → Above ws k n m → Above ws k p m
unfolding Above
above_end ws k n p m h l a j o = a j (omega arith)

-- where the join is at most L, every word is
pub above_ok : (ws : List ℕ) (k n m : ℕ) → Above ws k n m → m ≤ top_money → all_below n (λ j. leb (get_or ws (k + j) 0) top_money) ≡ true
unfolding Above
above_ok ws k n m a h = true_all n (λ j. leb (get_or ws (k + j) 0) top_money) (λ j o. le-leb (get_or ws (k + j) 0) top_money (let b = a j o in omega arith))
