-- Lines answered one after the other: one line more, and where they end. Assumes nothing.
use Prim.Native.Nat.{ℕ, zero, suc, ◌+◌, ◌*◌, ◌-◌, ◌/◌, ◌≤◌, ◌<◌, min}
use mathlib.Core.Path.{◌≡◌, refl, sym, ap, subst, ◌∙◌}
use mathlib.Core.Bool.{Bool, true, false, not}
use mathlib.Core.List.{List, [], ◌++◌, append-nil}
use native.Mathlib.Numerals.{add-one}
use native.Mathlib.Omega.{arith}
use borrow.Author.Tests.{le-leb, lt-leb, lt-ltb, le-ltb, eq-eqb}
use lib.Dec.{eqb}
use lib.ListN.{length, take, drop, get_or, length-append, length-drop}
use lib.Seq.{paste}
use Rattle.std.specs.Prelude.{Some, None, cond, position, unwrap_or, ltb, leb, ◌&&◌}
use Rattle.std.specs.List.{position_or_len, list_any}
use Rattle.std.proofs.lemmas.List.Recursion.{is_position_or_len}
use Rattle.std.proofs.lemmas.List.Sums.{position_or_len_is, prefix_len-le-length}
use Rattle.std.proofs.lemmas.List.Folds.{list_any_at}
use Rattle.std.proofs.lemmas.List.{get_or-take}
use Rattle.std.proofs.lemmas.Bool.{false≢true}
use Rattle.std.proofs.Common.{ltb-false, length-take-le}
use Rattle.rules.specs.Tests.{pick}
use Rattle.rules.specs.Calls.{refused}
use Rattle.rules.specs.Refusals.{malformed_number}
use Rattle.rules.specs.declared.calls.Answer.{Answer}
use Rattle.columns.specs.Pastes.{chain_on}
use Rattle.columns.specs.Laws.{length_marked}
use Rattle.claim.specs.Step.{Memory, Stepped}
use Rattle.callfile.specs.Lines.{answer_text, answer_fits, answer_put, line_bytes}
use Rattle.day.specs.Chunks.{joined, first_told, told_pieces}
use Rattle.day.specs.Pieces.{told-done}
use Rattle.day.specs.Day.{line_step, held_to, printed, line_length, is_whole, first_line, behind_line, Told, none_told, before, told, told_in, Answered, rest_text, file_step, file_text}

-- ---- an answer printed

pub printed_long : (a : Answer) → length (printed a) ≡ 10
unfolding printed answer_text
printed_long a = simp (length-append, length_marked)

held_fits : (a : Answer) → answer_fits (held_to a) ≡ true
held_fits a = rw (lt-ltb (min a.refusal 999) 1_000 (omega arith), lt-ltb (min a.number 999_999) 1_000_000 (omega arith))

pub printed_put : (d : List ℕ) (at : ℕ) (a : Answer) → at + 10 ≤ length d → paste d at (printed a) 10 ≡ answer_put d at (held_to a)
unfolding printed answer_put
printed_put d at a h = rw (le-leb (at + 10) (length d) h, held_fits a) refl

-- ---- where a line ends

-- std's word for it
line_length_is : (t : List ℕ) → line_length t ≡ position_or_len (λ b. eqb b 10) t
unfolding line_length
line_length_is t = is_position_or_len line_length (λ b. eqb b 10) refl (λ b u. same (eqb b 10) (line_length u)) t
  where
    same : (b : Bool) (n : ℕ) → pick b 0 (suc n) ≡ cond b 0 (1 + n)
    same true n = refl
    same false n = omega arith

pub line_within : (t : List ℕ) → line_length t ≤ length t
line_within t = omega (arith, line_length_is t, prefix_len-le-length (λ b. not (eqb b 10)) t)

-- the first line feed, where there is one
pub feed_is : (t : List ℕ) → line_length t ≡ unwrap_or (position (λ b. eqb b 10) t) (length t)
feed_is t = go (ltb (position_or_len (λ b. eqb b 10) t) (length t)) refl
  where
    go : (b : Bool) → ltb (position_or_len (λ b. eqb b 10) t) (length t) ≡ b → line_length t ≡ unwrap_or (cond b (Some (position_or_len (λ b. eqb b 10) t)) None) (length t)
    go true e = line_length_is t
    go false e = omega (arith, line_length_is t, ltb-false (position_or_len (λ b. eqb b 10) t) (length t) e, prefix_len-le-length (λ b. not (eqb b 10)) t)

-- where none of the bytes of a call line is a line feed and the next is one
pub line_of : (t : List ℕ) → line_bytes < length t → list_any (λ b. eqb b 10) (take line_bytes t) ≡ false → get_or t line_bytes 0 ≡ 10 → line_length t ≡ line_bytes
line_of t h none e = line_length_is t ∙ position_or_len_is (λ b. eqb b 10) t line_bytes 0 (omega arith) before_n (λ _. eq-eqb (get_or t line_bytes 0) 10 e)
  where
    before_n : (k : ℕ) → k < line_bytes → eqb (get_or t k 0) 10 ≡ false
    before_n k l = go (eqb (get_or t k 0) 10) refl
      where
        go : (b : Bool) → eqb (get_or t k 0) 10 ≡ b → b ≡ false
        go true w = absurd (false≢true (sym none ∙ list_any_at (λ b. eqb b 10) (take line_bytes t) k 0 (omega (arith, length-take-le line_bytes t (omega arith))) (ap (λ x. eqb x 10) (get_or-take line_bytes t k 0 l) ∙ w)))
        go false w = refl

-- ---- lines told

pub told_text : (n : ℕ) (m : Memory) (t : List ℕ) → length (told n m t).text ≡ 10 * (told n m t).lines
unfolding told
told_text zero m t = refl
told_text (suc n) m t = go (told_text n (line_step m (first_line t)).memory (behind_line t)) (is_whole t)
  where
    s : Stepped
    s = line_step m (first_line t)

    rest : Told
    rest = told n s.memory (behind_line t)

    go : length rest.text ≡ 10 * rest.lines → (b : Bool) → length (pick b (before s (line_length t) rest) (none_told m)).text ≡ 10 * (pick b (before s (line_length t) rest) (none_told m)).lines
    go ih true =
        let a : length (printed s.answer ++ rest.text) ≡ length (printed s.answer) + length rest.text = length-append (printed s.answer) rest.text in
        omega (arith, a, printed_long s.answer, ih)
    go ih false = refl

pub told-lines : (n : ℕ) (m : Memory) (t : List ℕ) → (told n m t).lines ≤ n
unfolding told
told-lines zero m t = omega arith
told-lines (suc n) m t = go (told-lines n (line_step m (first_line t)).memory (behind_line t)) (is_whole t)
  where
    go : (told n (line_step m (first_line t)).memory (behind_line t)).lines ≤ n → (b : Bool) → (pick b (before (line_step m (first_line t)) (line_length t) (told n (line_step m (first_line t)).memory (behind_line t))) (none_told m)).lines ≤ suc n
    go ih true = omega (arith, ih)
    go ih false = omega arith

-- a line more: the first of what is left
abbrev pub extended : Told → List ℕ → Told
extended r t =
    record {
      lines = suc r.lines;
      used = r.used + suc (line_length (drop r.used t));
      text = r.text ++ printed (line_step r.memory (first_line (drop r.used t))).answer;
      memory = (line_step r.memory (first_line (drop r.used t))).memory;
    }

-- nothing behind what is told
one_told : (r : Told) (s : Stepped) (e : ℕ) (t : List ℕ) (m : Memory) → joined r (before s e (told 0 m t)) ≡ record { lines = suc r.lines; used = r.used + suc e; text = r.text ++ printed s.answer; memory = m }
unfolding told
one_told r s e t m =
    let n : r.lines + 1 ≡ suc r.lines = omega arith in
    let u : suc e + 0 ≡ suc e = omega arith in
    rw (n, u, append-nil (printed s.answer)) refl

-- the law of pieces (specs/Chunks.antt), with one more line to tell of a text and nothing behind it
pub told_more : (k : ℕ) (m : Memory) (t : List ℕ) → (told k m t).lines ≡ k → is_whole (drop (told k m t).used t) ≡ true → told (suc k) m t ≡ extended (told k m t) t
told_more k m t l w =
    ap (λ (x : ℕ). told x m t) one
    ∙ ap (told (r.lines + 1) m) (sym (append-nil t))
    ∙ told_pieces k m t [] 1
    ∙ ap (λ (x : List ℕ). joined r (told 1 r.memory x)) (append-nil left)
    ∙ ap (joined r) (first_told 0 r.memory left w)
    ∙ one_told r s (line_length left) (behind_line left) s.memory
  where
    r : Told
    r = told k m t

    left : List ℕ
    left = drop r.used t

    s : Stepped
    s = line_step r.memory (first_line left)

    one : suc k ≡ r.lines + 1
    one = omega (arith, l)

-- ---- the loop over the lines of a text: after k lines it stands at i

pub record Reached (m₀ : Memory) (t out₀ : List ℕ) (k i : ℕ) (m : Memory) (out : List ℕ) : Type 0 where
  pub lines : (told k m₀ t).lines ≡ k
  pub used : (told k m₀ t).used ≡ i
  pub memory : m ≡ (told k m₀ t).memory
  pub buffer : out ≡ paste out₀ 0 (told k m₀ t).text (10 * k)
  pub within : i ≤ length t

pub reached_start : (m : Memory) (t out : List ℕ) → Reached m t out 0 0 m out
unfolding told
reached_start m t out = record { lines = refl; used = refl; memory = refl; buffer = refl; within = omega arith }

module _ (m₀ : Memory) (t out₀ : List ℕ) (k i e : ℕ) (m : Memory) (out : List ℕ) (r : Reached m₀ t out₀ k i m out) (ends : e ≡ i + line_length (drop i t)) where
  left_over : length (drop i t) ≡ length t - i
  left_over = length-drop i t

  text_long : length (told k m₀ t).text ≡ 10 * k
  text_long = told_text k m₀ t ∙ ap (λ (x : ℕ). 10 * x) r.lines

  pub reached_on : (m' : Memory) (out' : List ℕ) → e < length t → 10 * k + 10 ≤ length out₀
      → m' ≡ (line_step m (take (e - i) (drop i t))).memory → out' ≡ paste out (10 * k) (printed (line_step m (take (e - i) (drop i t))).answer) 10
      → Reached m₀ t out₀ (k + 1) (e + 1) m' out'
  reached_on m' out' h room em eo = subst (λ (x : ℕ). Reached m₀ t out₀ x (e + 1) m' out') (sym (add-one k)) one
    where
      a : Told
      a = told k m₀ t

      here : drop a.used t ≡ drop i t
      here = ap (λ (x : ℕ). drop x t) r.used

      whole : is_whole (drop a.used t) ≡ true
      whole = ap is_whole here ∙ lt-ltb (line_length (drop i t)) (length (drop i t)) (omega (arith, left_over, ends, r.within))

      more : told (suc k) m₀ t ≡ extended a t
      more = told_more k m₀ t r.lines whole

      long : e - i ≡ line_length (drop i t)
      long = omega (arith, ends)

      s_is : line_step m (take (e - i) (drop i t)) ≡ line_step a.memory (first_line (drop a.used t))
      s_is =
          ap (λ (x : ℕ). line_step m (take x (drop i t))) long
          ∙ ap (λ (x : Memory). line_step x (first_line (drop i t))) r.memory
          ∙ ap (λ (x : List ℕ). line_step a.memory (first_line x)) (sym here)

      printed_is : printed (line_step m (take (e - i) (drop i t))).answer ≡ printed (line_step a.memory (first_line (drop a.used t))).answer
      printed_is = ap (λ (x : Stepped). printed x.answer) s_is

      ten : 10 * k + 10 ≡ 10 * suc k
      ten = omega arith

      one : Reached m₀ t out₀ (suc k) (e + 1) m' out'
      one = record {
        lines = ap (λ (x : Told). x.lines) more ∙ ap suc r.lines;
        used = ap (λ (x : Told). x.used) more ∙ used_is;
        memory = em ∙ ap (λ (x : Stepped). x.memory) s_is ∙ sym (ap (λ (x : Told). x.memory) more);
        buffer =
            eo ∙ ap (λ (x : List ℕ). paste x (10 * k) (printed (line_step m (take (e - i) (drop i t))).answer) 10) r.buffer
            ∙ ap (λ (x : List ℕ). paste (paste out₀ 0 a.text (10 * k)) (10 * k) x 10) printed_is
            ∙ chain_on out₀ a.text (printed (line_step a.memory (first_line (drop a.used t))).answer) (10 * k) 10 (omega (arith, room)) text_long
            ∙ ap (λ (x : ℕ). paste out₀ 0 (a.text ++ printed (line_step a.memory (first_line (drop a.used t))).answer) x) ten
            ∙ ap (λ (x : List ℕ). paste out₀ 0 x (10 * suc k)) (sym (ap (λ (x : Told). x.text) more));
        within = omega arith;
      }
        where
          used_is : a.used + suc (line_length (drop a.used t)) ≡ e + 1
          used_is =
              let q : line_length (drop a.used t) ≡ line_length (drop i t) = ap line_length here in
              omega (arith, q, r.used, ends)

  -- no line feed is left
  pub reached_end : (n : ℕ) → e ≡ length t → k ≤ n → told n m₀ t ≡ told k m₀ t
  reached_end n z h =
      let here : drop (told k m₀ t).used t ≡ drop i t = ap (λ (x : ℕ). drop x t) r.used in
      let none : is_whole (drop (told k m₀ t).used t) ≡ false = ap is_whole here ∙ le-ltb (line_length (drop i t)) (length (drop i t)) (omega (arith, left_over, ends, z)) in
      let j : n ≡ k + (n - k) = omega arith in
      ap (λ (x : ℕ). told x m₀ t) j ∙ told-done k (n - k) m₀ t none

-- what the function answers: as many lines as were told
pub all_answered : (m₀ : Memory) (t out₀ : List ℕ) (k i : ℕ) (m : Memory) (out : List ℕ) → Reached m₀ t out₀ k i m out → told (length out₀ / 10) m₀ t ≡ told k m₀ t
    → Answered (told_in out₀ m₀ t) out₀ (record { used = i; written = 10 * k }) m out
all_answered m₀ t out₀ k i m out r e =
    let long : length (told k m₀ t).text ≡ 10 * k = told_text k m₀ t ∙ ap (λ (x : ℕ). 10 * x) r.lines in
    record {
      used = sym r.used ∙ sym (ap (λ (x : Told). x.used) e);
      written = sym long ∙ sym (ap (λ (x : Told). length x.text) e);
      memory = r.memory ∙ sym (ap (λ (x : Told). x.memory) e);
      buffer = r.buffer ∙ ap (λ (x : ℕ). paste out₀ 0 (told k m₀ t).text x) (sym long) ∙ sym (ap (λ (x : Told). paste out₀ 0 x.text (length x.text)) e);
    }

-- ---- what is left at the end

module _ (rest : ℕ) (out : List ℕ) where
  pub rest_line : 1 ≤ rest → 10 ≤ length out → rest_text rest out ≡ printed (refused malformed_number)
  unfolding rest_text
  rest_line h l = rw (le-leb 1 rest h, le-leb 10 (length out) l) refl

  pub rest_none : rest < 1 → rest_text rest out ≡ []
  unfolding rest_text
  rest_none h = rw (lt-leb 1 rest h) refl

  pub rest_no_room : length out < 10 → rest_text rest out ≡ []
  unfolding rest_text
  rest_no_room l = go (leb 1 rest)
    where
      f : leb 10 (length out) ≡ false
      f = lt-leb 10 (length out) l

      go : (b : Bool) → pick (b && leb 10 (length out)) (printed (refused malformed_number)) [] ≡ []
      go true = rw f refl
      go false = refl

-- ---- a file of ratios

module _ (m : Memory) (file out : List ℕ) where
  pub file_line : 10 ≤ length out → file_text m file out ≡ printed (file_step m file).answer
  unfolding file_text
  file_line l = rw (le-leb 10 (length out) l) refl

  pub file_no_room : length out < 10 → file_text m file out ≡ []
  unfolding file_text
  file_no_room l = rw (lt-leb 10 (length out) l) refl
