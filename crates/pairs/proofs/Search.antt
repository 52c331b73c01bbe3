-- A key searched in blocks of sixteen words, and then word by word: what the library's `position` gives. Assumes nothing.
use Rattle.std.specs.Prelude.{ℕ, zero, suc, ◌+◌, ◌-◌, ◌*◌, ◌/◌, ◌≤◌, ◌<◌, min, ◌≡◌, refl, Bool, true, false, not, None, Some, Result, Ok, Err, List, [], eqb, ltb, length, get_or, take, drop, position}
use Rattle.std.specs.Option.{unwrap_or}
use Rattle.std.specs.Result.{OkIff, result_ok}
use Rattle.std.specs.List.{list_any, position_or_len}
use Rattle.std.specs.Simd.{first_chunks}
use Rattle.std.proofs.Math.Path.{ap}
use Rattle.std.proofs.Common.{sym, ◌∙◌, length-take, length-drop, ltb-true, ltb-false}
use Rattle.std.proofs.Math.Seq.{take_all, get_or-take, get_or-drop, drop-drop}
use Rattle.std.proofs.lemmas.Bool.{false≢true}
use Rattle.std.proofs.lemmas.List.Folds.{list_any_at}
use Rattle.std.proofs.lemmas.List.Sums.{position_or_len_is, fails_before_first, prefix_len-le-length}
use Rattle.std.proofs.lemmas.List.Quantifiers.{position-Some}
use native.Mathlib.Omega.{arith}
use borrow.Author.Tests.{eqb-true, eqb-false, ne_eqb, eq-eqb, lt-ltb, le-ltb}
use Rattle.rules.specs.Tests.{pick}
use Rattle.pairs.specs.Pairs.{Lacks, place_of}
use Rattle.pairs.specs.Laws.{lacks_here, lacks_all}

module _ {A : Type 0} (p : A → Bool) (xs : List A) (d : A) where
  -- the first that passes
  pub position_is : (i : ℕ) → i < length xs → ((k : ℕ) → k < i → p (get_or xs k d) ≡ false) → p (get_or xs i d) ≡ true → position p xs ≡ Some i
  position_is i h b t =
      let e : position_or_len p xs ≡ i = position_or_len_is p xs i d (omega arith) b (λ _. t) in
      rw (e, lt-ltb i (length xs) h)

  pub position_none : ((k : ℕ) → k < length xs → p (get_or xs k d) ≡ false) → position p xs ≡ None
  position_none b =
      let e : position_or_len p xs ≡ length xs = position_or_len_is p xs (length xs) d (omega arith) b (λ h. absurd (omega arith)) in
      rw (e, le-ltb (length xs) (length xs) (omega arith))

  -- none passes where no position is given
  pub none_passes : position p xs ≡ None → (k : ℕ) → k < length xs → p (get_or xs k d) ≡ false
  none_passes e k h = go (ltb (position_or_len p xs) (length xs)) refl e
    where
      go : (b : Bool) → ltb (position_or_len p xs) (length xs) ≡ b → pick b (Some (position_or_len p xs)) None ≡ None → p (get_or xs k d) ≡ false
      go true t f = absurd (cc)
      go false t f = let l = ltb-false _ _ t in fails_before_first p xs k d (omega arith)

-- block b of the first n
chunk_at : (n b : ℕ) (ws : List ℕ) → b < n → get_or (first_chunks 16 n ws) b [] ≡ take 16 (drop (16 * b) ws)
chunk_at zero b ws h = absurd (omega arith)
chunk_at (suc n) zero ws h = let e : 0 ≡ 16 * 0 = omega arith in ap (λ z. take 16 (drop z ws)) e
chunk_at (suc n) (suc b) ws h =
    let e : 16 + 16 * b ≡ 16 * suc b = omega arith in
    chunk_at n b (drop 16 ws) (omega arith) ∙ ap (take 16) (drop-drop (16 * b) 16 ws ∙ ap (λ z. drop z ws) e)

length_chunks : (n : ℕ) (ws : List ℕ) → length (first_chunks 16 n ws) ≡ n
length_chunks zero ws = refl
length_chunks (suc n) ws = ap suc (length_chunks n (drop 16 ws))

pub place_least : (test : List ℕ → Bool) (n : ℕ) (ws : List ℕ) → position_or_len test (first_chunks 16 n ws) ≤ n
place_least test n ws = omega (arith, prefix_len-le-length (λ block. not (test block)) (first_chunks 16 n ws), length_chunks n ws)

-- the first that passes, or their count
pub position_or : {A : Type 0} (p : A → Bool) (xs : List A) → unwrap_or (position p xs) (length xs) ≡ position_or_len p xs
position_or p xs = go (ltb (position_or_len p xs) (length xs)) refl
  where
    go : (b : Bool) → ltb (position_or_len p xs) (length xs) ≡ b → unwrap_or (pick b (Some (position_or_len p xs)) None) (length xs) ≡ position_or_len p xs
    go true t = refl
    go false t = let l = ltb-false _ _ t in let m = prefix_len-le-length (λ x. not (p x)) xs in omega arith

-- the blocks before the first that has the key do not have it
pub blocks_lack : (ws : List ℕ) (n key : ℕ) → n * 16 ≤ length ws → Lacks ws (16 * position_or_len (λ block. list_any (λ word. eqb word key) block) (first_chunks 16 n ws)) key
unfolding Lacks
blocks_lack ws n key h j l e =
    let test = λ (word : ℕ). eqb word key in
    let blocks = first_chunks 16 n ws in
    let b = j / 16 in
    let m = prefix_len-le-length (λ block. not (list_any test block)) blocks in
    let c = length_chunks n ws in
    let k : 16 * b + (j - 16 * b) ≡ j = omega arith in
    let w = take 16 (drop (16 * b) ws) in
    let f : list_any test (get_or blocks b []) ≡ false = fails_before_first (list_any test) blocks b [] (omega arith) in
    let o : j - 16 * b < length w = omega (arith, length-take 16 (drop (16 * b) ws), length-drop (16 * b) ws) in
    let v : get_or w (j - 16 * b) 0 ≡ key =
    get_or-take 16 (drop (16 * b) ws) (j - 16 * b) 0 (omega arith) ∙ get_or-drop (16 * b) ws (j - 16 * b) 0 ∙ ap (λ z. get_or ws z 0) k ∙ e in
    let g : list_any test w ≡ true = list_any_at test w (j - 16 * b) 0 o (eq-eqb _ _ v) in
    false≢true (sym f ∙ ap (list_any test) (chunk_at n b ws (omega arith)) ∙ g)

-- a key that is not among the words before, found among the later ones
module _ (ws : List ℕ) (from key : ℕ) (a : Lacks ws from key) where
  pub position_later : (k : ℕ) → from ≤ length ws → position (eqb key) (take (length ws - from) (drop from ws)) ≡ Some k → Some (from + k) ≡ position (eqb key) ws
  unfolding Lacks
  position_later k h r =
      let e : position (eqb key) (drop from ws) ≡ Some k = ap (position (eqb key)) (sym (take_all (length ws - from) (drop from ws) (omega (arith, length-drop from ws)))) ∙ r in
      let q = position-Some (eqb key) (drop from ws) k 0 e in
      let l : from + k < length ws = omega (arith, q.0, length-drop from ws) in
      sym (position_is (eqb key) ws 0 (from + k) l (λ j m. before j m (q.2 (j - from))) (ap (eqb key) (sym (get_or-drop from ws k 0)) ∙ q.1))
    where
      before : (j : ℕ) → j < from + k → (j - from < k → eqb key (get_or (drop from ws) (j - from) 0) ≡ false) → eqb key (get_or ws j 0) ≡ false
      before j m f = go (ltb j from) refl
        where
          go : (b : Bool) → ltb j from ≡ b → eqb key (get_or ws j 0) ≡ false
          go true t = ne_eqb _ _ (λ e. a j (ltb-true _ _ t) (sym e))
          go false t =
              let l = ltb-false _ _ t in
              let u : from + (j - from) ≡ j = omega arith in
              ap (λ z. eqb key (get_or ws z 0)) (sym u) ∙ ap (eqb key) (sym (get_or-drop from ws (j - from) 0)) ∙ f (omega arith)

  pub position_nowhere : position (eqb key) (take (length ws - from) (drop from ws)) ≡ None → None ≡ position (eqb key) ws
  unfolding Lacks
  position_nowhere r =
      let e = ap (position (eqb key)) (sym (take_all (length ws - from) (drop from ws) (omega (arith, length-drop from ws)))) ∙ r in
      sym (position_none (eqb key) ws 0 (each e))
    where
      each : position (eqb key) (drop from ws) ≡ None → (j : ℕ) → j < length ws → eqb key (get_or ws j 0) ≡ false
      each e j m = go (ltb j from) refl
        where
          go : (b : Bool) → ltb j from ≡ b → eqb key (get_or ws j 0) ≡ false
          go true t = ne_eqb _ _ (λ e. a j (ltb-true _ _ t) (sym e))
          go false t =
              let l = ltb-false _ _ t in
              let u : from + (j - from) ≡ j = omega arith in
              let o : j - from < length (drop from ws) = omega (arith, length-drop from ws) in
              ap (λ z. eqb key (get_or ws z 0)) (sym u) ∙ ap (eqb key) (sym (get_or-drop from ws (j - from) 0)) ∙ none_passes (eqb key) (drop from ws) 0 e (j - from) o

-- a key that is no word of 32 bits
pub above_words : {E : Type 0} (r : Result ℕ E) (key : ℕ) → OkIff r (key < 4294967296) key → None ≡ result_ok r → 4294967296 ≤ key
above_words (Ok x) key h e = absurd (cc)
above_words (Err x) key h e = go (ltb key 4294967296) refl
  where
    go : (b : Bool) → ltb key 4294967296 ≡ b → 4294967296 ≤ key
    go true t = absurd (h (ltb-true _ _ t))
    go false t = ltb-false _ _ t

-- words below a key
pub position_above : (ws : List ℕ) (top key : ℕ) → ((k : ℕ) → get_or ws k 0 < top) → top ≤ key → None ≡ position (eqb key) ws
position_above ws top key b h = sym (position_none (eqb key) ws 0 (λ k _. let l = b k in ne_eqb _ _ (λ e. omega arith)))

-- a key among the first n words: its place, and none
pub place_found : (ws : List ℕ) (n key k : ℕ) → position (eqb key) (take n ws) ≡ Some k → (k < n) × (k ≡ place_of ws n key)
unfolding Lacks
place_found ws n key k e =
    let q = position-Some (eqb key) (take n ws) k 0 e in
    let l = length-take n ws in
    let u : k < n = omega arith in (
      u,
      sym (lacks_here ws n k key u (omega arith)
          (λ j h e. eqb-false _ _ (ap (eqb key) (sym (get_or-take n ws j 0 (omega arith))) ∙ q.2 j h) (sym e))
          (sym (get_or-take n ws k 0 u) ∙ sym (eqb-true _ _ q.1))),
    )

pub place_missing : (ws : List ℕ) (n key : ℕ) → position (eqb key) (take n ws) ≡ None → n ≡ place_of ws n key
unfolding Lacks
place_missing ws n key e =
    let l = length-take n ws in
    sym (lacks_all ws n (min n (length ws)) key (omega arith) (omega arith)
    (λ j h s. eqb-false _ _ (ap (eqb key) (sym (get_or-take n ws j 0 (omega arith))) ∙ none_passes (eqb key) (take n ws) 0 e j (omega arith)) (sym s)))
