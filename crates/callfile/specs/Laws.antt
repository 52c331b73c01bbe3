-- Both laws of call lines: a call whose fields fit is read back from its text (`line_back`), and a line that is formed is, with its line feed, exactly the
-- text that is written for the call that is read (`line_only`). Assumes nothing.
use Rattle.std.specs.Prelude.{ℕ, suc, ◌≤◌, ◌≡◌, refl, Bool, true, false, ◌&&◌, List, [], ◌∷◌, ◌++◌, eqb, length, take}
use Rattle.std.proofs.Common.{ap, sym, ◌∙◌, subst, append_assoc, append-nil, arith, eqb-true, length-append, take_all, take-add}
use Rattle.std.proofs.lemmas.Bool.{false≢true, eqb-false}
use Rattle.rules.specs.Tests.{pick, within, both, within_true}
use Rattle.rules.specs.Codes.{order_call_of, call_of}
use Rattle.rules.specs.declared.calls.Call.{Call}
use Rattle.rules.specs.declared.calls.Call.TheVariants.{Enrol, Attach, Detach, Regular, Raise, Withdraw, OwnQuota, Order, Fill, Cancel, Close}
use Rattle.rules.specs.declared.calls.Answer.{Answer}
use Rattle.columns.specs.Column.{column, fits, plain_at, part}
use Rattle.columns.specs.Laws.{length_marked}
use Rattle.columns.specs.Pastes.{plain_at_only}
use Rattle.columns.proofs.Pastes.{plain_at_back}
use Rattle.callfile.specs.Lines.{Words, Line, coded, words_of, line_text, call_text, answer_text, words_fit, call_fits, fields, used_or_zero, is_call, line_of, columns_formed, line_formed, call_from, malformed, read_line, call_bytes, line_bytes}

-- ---- lengths

pub length-line : (w : Words) → length (line_text w) ≡ line_bytes
unfolding line_text
length-line w = simp (length-append, length_marked)

pub length_call : (call : Call) → length (call_text call) ≡ call_bytes
unfolding call_text
length_call call = simp (length-append, length-line)

pub length-answer : (answer : Answer) → length (answer_text answer) ≡ 10
unfolding answer_text
length-answer answer = simp (length-append, length_marked)

-- ---- room

pub record Fit (w : Words) : Type 0 where
  pub code : fits 2 w.code ≡ true
  pub first : fits 9 w.first ≡ true
  pub second : fits 9 w.second ≡ true
  pub third : fits 9 w.third ≡ true
  pub fourth : fits 9 w.fourth ≡ true

pub fit : (w : Words) → words_fit w ≡ true → Fit w
unfolding words_fit
fit w h =
    let f₁ = both (fits 2 w.code) (fits 9 w.first && (fits 9 w.second && (fits 9 w.third && fits 9 w.fourth))) h in
    let f₂ = both (fits 9 w.first) (fits 9 w.second && (fits 9 w.third && fits 9 w.fourth)) f₁.1 in
    let f₃ = both (fits 9 w.second) (fits 9 w.third && fits 9 w.fourth) f₂.1 in
    let f₄ = both (fits 9 w.third) (fits 9 w.fourth) f₃.1 in
    record { code = f₁.0; first = f₂.0; second = f₃.0; third = f₄.0; fourth = f₄.1 }

-- ---- calls and their words

-- the words of a call are a call's, and give it back
pub words_call : (call : Call) → is_call (words_of call) ≡ true
unfolding is_call words_of fields
words_call (Enrol code class) = refl
words_call (Attach unit group) = refl
words_call (Detach unit) = refl
words_call (Regular declarer group base quota) = refl
words_call (Raise declarer group quota flag) = refl
words_call (Withdraw declarer group) = refl
words_call (OwnQuota group quota) = refl
words_call (Order unit kind price quantity) = refl
words_call (Fill order price quantity) = refl
words_call (Cancel order) = refl
words_call Close = refl

pub call_again : (call : Call) → call_from (words_of call) ≡ call
unfolding call_of order_call_of words_of
call_again (Enrol code class) = refl
call_again (Attach unit group) = refl
call_again (Detach unit) = refl
call_again (Regular declarer group base quota) = refl
call_again (Raise declarer group quota flag) = refl
call_again (Withdraw declarer group) = refl
call_again (OwnQuota group quota) = refl
call_again (Order unit kind price quantity) = refl
call_again (Fill order price quantity) = refl
call_again (Cancel order) = refl
call_again Close = refl

-- unused fields that are 0
module _ (code a b c d : ℕ) where
  one_zero : eqb d 0 ≡ true → coded code a b c 0 ≡ coded code a b c d
  one_zero h = ap (coded code a b c) (sym (eqb-true d 0 h))

  two-zeros : (eqb c 0 && eqb d 0) ≡ true → coded code a b 0 0 ≡ coded code a b c d
  two-zeros h = let f = both (eqb c 0) (eqb d 0) h in ap (λ (x : ℕ). coded code a b x 0) (sym (eqb-true c 0 f.0)) ∙ one_zero f.1

  three-zeros : (eqb b 0 && (eqb c 0 && eqb d 0)) ≡ true → coded code a 0 0 0 ≡ coded code a b c d
  three-zeros h = let f = both (eqb b 0) (eqb c 0 && eqb d 0) h in ap (λ (x : ℕ). coded code a x 0 0) (sym (eqb-true b 0 f.0)) ∙ two-zeros f.1

  four_zeros : (eqb a 0 && (eqb b 0 && (eqb c 0 && eqb d 0))) ≡ true → coded code 0 0 0 0 ≡ coded code a b c d
  four_zeros h = let f = both (eqb a 0) (eqb b 0 && (eqb c 0 && eqb d 0)) h in ap (λ (x : ℕ). coded code x 0 0 0) (sym (eqb-true a 0 f.0)) ∙ three-zeros f.1

-- a code from k on is k, or one from the next on
from : (P : ℕ → Type 0) (k n : ℕ) → k ≤ n → P k → (suc k ≤ n → P n) → P n
from P k n h p q = go (eqb n k) refl
  where
    go : (b : Bool) → eqb n k ≡ b → P n
    go true e = subst P (sym (eqb-true n k e)) p
    go false e = q (above (eqb-false n k e))
      where
        above : (n ≡ k → ⊥) → suc k ≤ n
        above z = omega arith

-- the words of a call, from the words that say so
Again : ℕ → Type 0
Again code = (a b c d : ℕ) → is_call (coded code a b c d) ≡ true → words_of (call_of code a b c d) ≡ coded code a b c d

words_again : (code : ℕ) → 1 ≤ code → code ≤ 11 → Again code
unfolding Again is_call words_of fields call_of order_call_of
words_again n h₁ h =
    from Again 1 n h₁ (λ a b c d. two-zeros 1 a b c d) (λ h₂.
    from Again 2 n h₂ (λ a b c d. two-zeros 2 a b c d) (λ h₃.
    from Again 3 n h₃ (λ a b c d. three-zeros 3 a b c d) (λ h₄.
    from Again 4 n h₄ (λ a b c d e. refl) (λ h₅.
    from Again 5 n h₅ (λ a b c d e. refl) (λ h₆.
    from Again 6 n h₆ (λ a b c d. two-zeros 6 a b c d) (λ h₇.
    from Again 7 n h₇ (λ a b c d. two-zeros 7 a b c d) (λ h₈.
    from Again 8 n h₈ (λ a b c d e. refl) (λ h₉.
    from Again 9 n h₉ (λ a b c d. one_zero 9 a b c d) (λ h₁₀.
    from Again 10 n h₁₀ (λ a b c d. three-zeros 10 a b c d) (λ h₁₁.
    from Again 11 n h₁₁ (λ a b c d. four_zeros 11 a b c d) (λ h₁₂. absurd (omega arith))))))))))))

pub words_kept : (w : Words) → is_call w ≡ true → words_of (call_from w) ≡ w
unfolding Again is_call
words_kept w h =
    let n : ℕ = fields w.code in
    let unused : Bool = used_or_zero n 1 w.first && (used_or_zero n 2 w.second && (used_or_zero n 3 w.third && used_or_zero n 4 w.fourth)) in
    let r = within_true 1 11 w.code (both (within 1 11 w.code) unused h).0 in
    words_again w.code r.0 r.1 w.first w.second w.third w.fourth h

-- ---- what is written is read

-- each column of a line
record Columns (t : List ℕ) (w : Words) : Type 0 where
  code : plain_at t 0 2 ≡ record { formed = true; number = w.code }
  first : plain_at t 2 9 ≡ record { formed = true; number = w.first }
  second : plain_at t 11 9 ≡ record { formed = true; number = w.second }
  third : plain_at t 20 9 ≡ record { formed = true; number = w.third }
  fourth : plain_at t 29 9 ≡ record { formed = true; number = w.fourth }

columns : (w : Words) → Fit w → Columns (line_text w) w
unfolding line_text
columns w f =
    let a : List ℕ = column 2 w.code in
    let b : List ℕ = column 9 w.first in
    let c : List ℕ = column 9 w.second in
    let d : List ℕ = column 9 w.third in
    let e : List ℕ = column 9 w.fourth in
    let t : List ℕ = a ++ b ++ c ++ d ++ e in
    let t₀ : t ≡ [] ++ (a ++ (b ++ (c ++ (d ++ e)))) = simp append_assoc in
    let t₁ : t ≡ a ++ (b ++ (c ++ (d ++ e))) = simp append_assoc in
    let t₂ : t ≡ (a ++ b) ++ (c ++ (d ++ e)) = simp append_assoc in
    let t₃ : t ≡ (a ++ b ++ c) ++ (d ++ e) = simp append_assoc in
    let t₄ : t ≡ (a ++ b ++ c ++ d) ++ (e ++ []) = ap (λ (x : List ℕ). a ++ b ++ c ++ d ++ x) (sym (append-nil e)) in
    let l₁ : length a ≡ 2 = length_marked 32 2 w.code in
    let l₂ : length (a ++ b) ≡ 11 = simp (length-append, length_marked) in
    let l₃ : length (a ++ b ++ c) ≡ 20 = simp (length-append, length_marked) in
    let l₄ : length (a ++ b ++ c ++ d) ≡ 29 = simp (length-append, length_marked) in
    record {
      code = plain_at_back t [] (b ++ (c ++ (d ++ e))) 0 2 w.code t₀ refl f.code;
      first = plain_at_back t a (c ++ (d ++ e)) 2 9 w.first t₁ l₁ f.first;
      second = plain_at_back t (a ++ b) (d ++ e) 11 9 w.second t₂ l₂ f.second;
      third = plain_at_back t (a ++ b ++ c) e 20 9 w.third t₃ l₃ f.third;
      fourth = plain_at_back t (a ++ b ++ c ++ d) [] 29 9 w.fourth t₄ l₄ f.fourth;
    }

columns_back : (w : Words) → Fit w → columns_formed (line_text w) ≡ true
unfolding columns_formed
columns_back w f = let c = columns w f in rw (c.code, c.first, c.second, c.third, c.fourth)

words_back : (w : Words) → Fit w → line_of (line_text w) ≡ w
unfolding line_of
words_back w f = let c = columns w f in rw (c.code, c.first, c.second, c.third, c.fourth)

pub line_back : (call : Call) → call_fits call ≡ true → read_line (line_text (words_of call)) ≡ record { formed = true; call = call }
unfolding read_line line_formed
line_back call h =
    let w : Words = words_of call in
    let f : Fit w = fit w h in
    rw (length-line w, columns_back w f, words_back w f, words_call call, call_again call)

-- ---- whatever is read is what is written for it

whole-line : (t : List ℕ) → length t ≡ line_bytes → part t 0 2 ++ part t 2 9 ++ part t 11 9 ++ part t 20 9 ++ part t 29 9 ≡ t
whole-line t h =
    let s₁ : part t 0 2 ++ part t 2 9 ≡ take 11 t = sym (take-add 2 9 t) in
    let s₂ : take 11 t ++ part t 11 9 ≡ take 20 t = sym (take-add 11 9 t) in
    let s₃ : take 20 t ++ part t 20 9 ≡ take 29 t = sym (take-add 20 9 t) in
    let s₄ : take 29 t ++ part t 29 9 ≡ take line_bytes t = sym (take-add 29 9 t) in
    rw (s₁, s₂, s₃, s₄) (take_all line_bytes t (omega arith))

record Read (t : List ℕ) : Type 0 where
  text : t ≡ line_text (line_of t)
  call : is_call (line_of t) ≡ true
  room : words_fit (line_of t) ≡ true

read : (t : List ℕ) → line_formed t ≡ true → Read t
unfolding line_formed columns_formed line_of line_text words_fit
read t h =
    let p₀ : Bool = (plain_at t 0 2).formed in
    let p₁ : Bool = (plain_at t 2 9).formed in
    let p₂ : Bool = (plain_at t 11 9).formed in
    let p₃ : Bool = (plain_at t 20 9).formed in
    let p₄ : Bool = (plain_at t 29 9).formed in
    let f = both (eqb (length t) line_bytes) ((p₀ && (p₁ && (p₂ && (p₃ && p₄)))) && is_call (line_of t)) h in
    let l : length t ≡ line_bytes = eqb-true (length t) line_bytes f.0 in
    let g = both (p₀ && (p₁ && (p₂ && (p₃ && p₄)))) (is_call (line_of t)) f.1 in
    let g₀ = both p₀ (p₁ && (p₂ && (p₃ && p₄))) g.0 in
    let g₁ = both p₁ (p₂ && (p₃ && p₄)) g₀.1 in
    let g₂ = both p₂ (p₃ && p₄) g₁.1 in
    let g₃ = both p₃ p₄ g₂.1 in
    let c₀ = plain_at_only t 0 2 (omega arith) g₀.0 in
    let c₁ = plain_at_only t 2 9 (omega arith) g₁.0 in
    let c₂ = plain_at_only t 11 9 (omega arith) g₂.0 in
    let c₃ = plain_at_only t 20 9 (omega arith) g₃.0 in
    let c₄ = plain_at_only t 29 9 (omega arith) g₃.1 in
    record {
      text = sym (rw (← c₀.0, ← c₁.0, ← c₂.0, ← c₃.0, ← c₄.0) (whole-line t l));
      call = g.1;
      room = rw (c₀.1, c₁.1, c₂.1, c₃.1, c₄.1);
    }

pub line_only : (t : List ℕ) → (read_line t).formed ≡ true → (t ++ (10 ∷ []) ≡ call_text (read_line t).call) × (call_fits (read_line t).call ≡ true)
unfolding read_line call_text
line_only t h = go (line_formed t) refl h
  where
    given : Line
    given = record { formed = true; call = call_from (line_of t) }

    go : (b : Bool) → line_formed t ≡ b → (pick b given malformed).formed ≡ true
        → (t ++ (10 ∷ []) ≡ line_text (words_of (pick b given malformed).call) ++ (10 ∷ [])) × (words_fit (words_of (pick b given malformed).call) ≡ true)
    go true e f =
        let r = read t e in
        let k : words_of (call_from (line_of t)) ≡ line_of t = words_kept (line_of t) r.call in
        (ap (λ (x : List ℕ). x ++ (10 ∷ [])) r.text ∙ ap (λ (w : Words). line_text w ++ (10 ∷ [])) (sym k), ap words_fit k ∙ r.room)
    go false e f = absurd (false≢true f)
