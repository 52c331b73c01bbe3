-- A lent list of calls: one turn of the loop, and its end. Assumes nothing.
use Prim.Native.Nat.{ℕ, zero, suc, ◌+◌, ◌*◌, ◌≤◌}
use Rattle.std.proofs.Common.{◌⊎◌, inl, inr}
use mathlib.Core.Path.{◌≡◌, refl, sym, ap, ◌∙◌}
use mathlib.Core.Bool.{Bool, true, false, ◌&&◌}
use mathlib.Core.List.{List, [], ◌∷◌, ◌++◌, append-nil}
use native.Mathlib.Numerals.{add-one}
use native.Mathlib.Omega.{arith}
use borrow.Author.Tests.{le-leb, eqb-true}
use lib.Dec.{eqb}
use lib.ListN.{length, drop, take, length-append, length-drop, drop_of_length-le}
use lib.Seq.{take_at, drop-append-add, drop-drop}
use Rattle.rules.specs.Tests.{pick, both}
use Rattle.rules.specs.Orders.{Rule, shanghai}
use Rattle.rules.specs.Refusals.{out_of_range_number}
use Rattle.rules.specs.declared.calls.Call.{Call}
use Rattle.rules.specs.declared.calls.Answer.{Answer}
use Rattle.words.specs.Words.{splice, stored}
use Rattle.claim.specs.Step.{Memory, step}
use Rattle.claim.specs.Demand.{run, answers_of}
use Rattle.gate_runs.specs.Runs.{call_at, decoded, call_count, answer_words, run_refusal}

-- one call more at the end of a list
module _ (rule : Rule) (c : Call) where
  run_snoc : (m : Memory) (cs : List Call) → run rule m (cs ++ (c ∷ [])) ≡ (step rule (run rule m cs) c).memory
  unfolding run
  run_snoc m [] = refl
  run_snoc m (x ∷ cs) = run_snoc (step rule m x).memory cs

  answers_snoc : (m : Memory) (cs : List Call) → answers_of rule m (cs ++ (c ∷ [])) ≡ answers_of rule m cs ++ ((step rule (run rule m cs) c).answer ∷ [])
  unfolding run answers_of
  answers_snoc m [] = refl
  answers_snoc m (x ∷ cs) = ap (λ (z : List Answer). (step rule m x).answer ∷ z) (answers_snoc (step rule m x).memory cs)

words_snoc : (a : Answer) (xs : List Answer) → answer_words (xs ++ (a ∷ [])) ≡ answer_words xs ++ (a.refusal ∷ a.number ∷ [])
unfolding answer_words
words_snoc a [] = refl
words_snoc a (x ∷ xs) = ap (λ (z : List ℕ). x.refusal ∷ x.number ∷ z) (words_snoc a xs)

length-words : (rule : Rule) (m : Memory) (cs : List Call) → length (answer_words (answers_of rule m cs)) ≡ 2 * length cs
unfolding answers_of answer_words
length-words rule m [] = refl
length-words rule m (c ∷ cs) = let e = length-words rule (step rule m c).memory cs in omega arith

length-decoded : (ws : List ℕ) (n : ℕ) → length (decoded ws n) ≡ n
unfolding decoded
length-decoded ws zero = refl
length-decoded ws (suc n) = let e = length-decoded ws n in length-append (decoded ws n) (call_at ws n ∷ []) ∙ more (length (decoded ws n)) e
  where
    more : (k : ℕ) → k ≡ n → k + 1 ≡ suc n
    more k e' = omega arith

decoded-next : (ws : List ℕ) (i : ℕ) → decoded ws (i + 1) ≡ decoded ws i ++ (call_at ws i ∷ [])
unfolding decoded
decoded-next ws i = rw add-one

-- words stored behind those that stand
behind : (w a xs : List ℕ) (k : ℕ) → length w ≡ k → k + length xs ≤ length a → stored (w ++ drop k a) k xs ≡ (w ++ xs) ++ drop (k + length xs) a
unfolding splice
behind w a xs k e h =
    let l : k + length xs ≤ length (w ++ drop k a) = simp (length-append, length-drop) (omega arith) in
    let t : take k (w ++ drop k a) ≡ w = take_at w (drop k a) k e in
    let n : k + length xs ≡ length w + length xs = omega arith in
    let d : drop (k + length xs) (w ++ drop k a) ≡ drop (k + length xs) a =
    ap (λ (z : ℕ). drop z (w ++ drop k a)) n ∙ drop-append-add w (drop k a) (length xs) ∙ drop-drop (length xs) k a in
    rw (le-leb (k + length xs) (length (w ++ drop k a)) l) (ap (λ (z : List ℕ). (z ++ xs) ++ drop (k + length xs) (w ++ drop k a)) t ∙ ap (λ (z : List ℕ). (w ++ xs) ++ z) d)

-- the answers of the first i calls, and the room behind them
abbrev pub room_after : Memory → List ℕ → List ℕ → ℕ → List ℕ
room_after m ws out i = answer_words (answers_of shanghai m (decoded ws i)) ++ drop (2 * i) out

-- the lengths that fit
room_known : (ws out : List ℕ) → run_refusal ws out ≡ 0 → length out ≡ 2 * call_count ws
unfolding run_refusal
room_known ws out e = go (eqb (length ws) (5 * call_count ws) && eqb (length out) (2 * call_count ws)) refl e
  where
    go : (t : Bool) → (eqb (length ws) (5 * call_count ws) && eqb (length out) (2 * call_count ws)) ≡ t → pick t 0 out_of_range_number ≡ 0 → length out ≡ 2 * call_count ws
    go true q z = eqb-true (length out) (2 * call_count ws) (both (eqb (length ws) (5 * call_count ws)) (eqb (length out) (2 * call_count ws)) q).1
    go false q z = absurd (omega arith)

-- the same, as tactics can use it
pub room_fits : (ws out : List ℕ) → (1 ≤ run_refusal ws out) ⊎ (length out ≡ 2 * call_count ws)
room_fits ws out = go (run_refusal ws out) refl
  where
    go : (r : ℕ) → run_refusal ws out ≡ r → (1 ≤ run_refusal ws out) ⊎ (length out ≡ 2 * call_count ws)
    go zero e = inr (room_known ws out e)
    go (suc r) e = inl (omega arith)

module _ (m₀ : Memory) (ws out : List ℕ) where
  -- the start
  pub start_memory : run shanghai m₀ (decoded ws 0) ≡ m₀
  unfolding run decoded
  start_memory = refl

  pub start_room : room_after m₀ ws out 0 ≡ out
  unfolding answers_of answer_words decoded
  start_room = refl

  -- a turn
  module _ (i : ℕ) where
    pub turn_memory : run shanghai m₀ (decoded ws (i + 1)) ≡ (step shanghai (run shanghai m₀ (decoded ws i)) (call_at ws i)).memory
    unfolding decoded
    turn_memory = rw add-one (run_snoc shanghai (call_at ws i) m₀ (decoded ws i))

    abbrev pair : Memory → List ℕ
    pair x = (step shanghai x (call_at ws i)).answer.refusal ∷ (step shanghai x (call_at ws i)).answer.number ∷ []

    pub turn_room : 2 * i + 2 ≤ length out → stored (room_after m₀ ws out i) (2 * i) (pair (run shanghai m₀ (decoded ws i))) ≡ room_after m₀ ws out (i + 1)
    turn_room h = behind told out (pair (run shanghai m₀ (decoded ws i))) (2 * i) size h ∙ last
      where
        told : List ℕ
        told = answer_words (answers_of shanghai m₀ (decoded ws i))

        size : length told ≡ 2 * i
        size = length-words shanghai m₀ (decoded ws i) ∙ ap (λ (z : ℕ). 2 * z) (length-decoded ws i)

        more : answer_words (answers_of shanghai m₀ (decoded ws i ++ (call_at ws i ∷ []))) ≡ told ++ pair (run shanghai m₀ (decoded ws i))
        more = ap answer_words (answers_snoc shanghai (call_at ws i) m₀ (decoded ws i)) ∙ words_snoc (step shanghai (run shanghai m₀ (decoded ws i)) (call_at ws i)).answer (answers_of shanghai m₀ (decoded ws i))

        next : decoded ws (i + 1) ≡ decoded ws i ++ (call_at ws i ∷ [])
        next = decoded-next ws i

        last : (told ++ pair (run shanghai m₀ (decoded ws i))) ++ drop (2 * i + 2) out ≡ room_after m₀ ws out (i + 1)
        last =
            let k : 2 * i + 2 ≡ 2 * (i + 1) = omega arith in
            ap (λ (z : List ℕ). z ++ drop (2 * i + 2) out) (sym more)
            ∙ ap (λ (z : List Call). answer_words (answers_of shanghai m₀ z) ++ drop (2 * i + 2) out) (sym next)
            ∙ ap (λ (z : ℕ). answer_words (answers_of shanghai m₀ (decoded ws (i + 1))) ++ drop z out) k

    -- done: no room is left behind the answers
    pub room_full : length out ≤ 2 * i → room_after m₀ ws out i ≡ answer_words (answers_of shanghai m₀ (decoded ws i))
    room_full h = rw (drop_of_length-le out h) (append-nil (answer_words (answers_of shanghai m₀ (decoded ws i))))
