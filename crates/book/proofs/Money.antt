-- The words of money joined bit by bit, none above the join; and the words as a slice, of which the book's check speaks one by one. Assumes nothing.
use Rattle.std.specs.Prelude.{ℕ, zero, suc, ◌+◌, ◌≤◌, ◌<◌, ◌≡◌, refl, true, Bool, List, [], ◌∷◌, leb, length, get_or, take, drop}
use Rattle.std.specs.List.{All, list_all}
use Rattle.std.specs.Int.Bits.{bit_or}
use Rattle.std.proofs.Common.{arith, add-one, ap, sym, ◌∙◌, le-leb, length-drop, get_or-drop}
use Rattle.std.proofs.lemmas.Nat.{le_or_l, le_or_r}
use Rattle.std.proofs.lemmas.List.Elements.{All-more}
use Rattle.std.proofs.lemmas.List.Folds.{list_all_more}
use Rattle.rules.specs.Limits.{top_money}
use Rattle.words.specs.Each.{all_below}

-- one more word joined
pub joined_turn : (ws : List ℕ) (i m : ℕ) → i < length ws → All (λ word. word ≤ m) (take i ws) → All (λ word. word ≤ bit_or m (get_or ws i 0)) (take (i + 1) ws)
joined_turn ws i m h a =
    let l = le_or_l m (get_or ws i 0) in
    All-more (λ word. word ≤ bit_or m (get_or ws i 0)) ws i 0 h (λ k d o. let b = a k d o in omega arith) (le_or_r m (get_or ws i 0))

-- words that are each at most m are at most any number above it
pub all_within : (ws : List ℕ) (m top : ℕ) → All (λ word. word ≤ m) ws → m ≤ top → true ≡ list_all (λ word. leb word top) ws
all_within [] m top a h = refl
all_within (x ∷ ws) m top a h =
    let b : x ≤ m = a 0 0 (omega arith) in
    rw (le-leb x top (omega arith)) (all_within ws m top (λ k d o. a (suc k) d (omega arith)) h)

-- n words of a memory from word k on, as a slice and one by one
run_below : (p : ℕ → Bool) (ws : List ℕ) (k n : ℕ) → k + n ≤ length ws → list_all p (take n (drop k ws)) ≡ all_below n (λ j. p (get_or ws (k + j) 0))
unfolding all_below
run_below p ws k zero h = refl
run_below p ws k (suc n) h =
    let d = length-drop k ws in
    ap (λ z. list_all p (take z (drop k ws))) (sym (add-one n))
    ∙ list_all_more p (drop k ws) n 0 (omega arith)
    ∙ rw (run_below p ws k n (omega arith), get_or-drop k ws n 0)

-- the words of money as a slice of the book, and one by one
pub money_run : (bs : List ℕ) (n m : ℕ) → m ≡ n → 2 + n ≤ length bs → list_all (λ word. leb word top_money) (take m (drop 2 bs)) ≡ all_below n (λ j. leb (get_or bs (2 + j) 0) top_money)
money_run bs n m e h = rw e (run_below (λ word. leb word top_money) bs 2 n h)
