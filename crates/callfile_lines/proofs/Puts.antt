-- What the functions that put a line leave in the buffer, over plain values. Assumes nothing.
use Prim.Native.Nat.{ℕ, ◌+◌, ◌≤◌}
use mathlib.Core.Path.{◌≡◌, refl, ap, ◌∙◌}
use mathlib.Core.Bool.{true}
use mathlib.Core.List.{List, [], ◌∷◌, ◌++◌}
use native.Mathlib.Omega.{arith}
use borrow.Author.Tests.{le-leb}
use lib.ListN.{length, length-append}
use lib.Seq.{paste}
use Rattle.rules.specs.Tests.{both}
use Rattle.rules.specs.declared.calls.Call.{Call}
use Rattle.rules.specs.declared.calls.Answer.{Answer}
use Rattle.columns.specs.Column.{column, fits, plain_put, text_put}
use Rattle.columns.specs.Laws.{length_marked}
use Rattle.columns.specs.Pastes.{plain_put_lem, plain_behind, text_behind}
use Rattle.callfile.specs.Lines.{Words, words_of, words_fit, line_text, call_text, answer_text, call_fits, answer_fits, call_put, answer_put, call_bytes, line_bytes}
use Rattle.callfile.specs.Laws.{fit, length-line}

-- five columns, one behind the other
pub words_put : (w : Words) (at : ℕ) (o₀ o₁ o₂ o₃ o₄ o₅ : List ℕ) → at + line_bytes ≤ length o₀ → words_fit w ≡ true → o₁ ≡ plain_put o₀ at 2 w.code
    → o₂ ≡ plain_put o₁ (at + 2) 9 w.first → o₃ ≡ plain_put o₂ (at + 11) 9 w.second → o₄ ≡ plain_put o₃ (at + 20) 9 w.third
    → o₅ ≡ plain_put o₄ (at + 29) 9 w.fourth → o₅ ≡ paste o₀ at (line_text w) line_bytes
unfolding line_text
words_put w at o₀ o₁ o₂ o₃ o₄ o₅ h k e₁ e₂ e₃ e₄ e₅ =
    let f = fit w k in
    let a : List ℕ = column 2 w.code in
    let b : List ℕ = a ++ column 9 w.first in
    let c : List ℕ = b ++ column 9 w.second in
    let d : List ℕ = c ++ column 9 w.third in
    let la : length a ≡ 2 = length_marked 32 2 w.code in
    let lb : length b ≡ 11 = simp (length-append, length_marked) in
    let lc : length c ≡ 20 = simp (length-append, length_marked) in
    let ld : length d ≡ 29 = simp (length-append, length_marked) in
    let p₁ : o₁ ≡ paste o₀ at a 2 = e₁ ∙ plain_put_lem o₀ at 2 w.code (omega arith) f.code in
    let p₂ : o₂ ≡ paste o₀ at b 11 = plain_behind o₀ a o₁ o₂ at 2 9 (omega arith) la p₁ w.first f.first e₂ in
    let p₃ : o₃ ≡ paste o₀ at c 20 = plain_behind o₀ b o₂ o₃ at 11 9 (omega arith) lb p₂ w.second f.second e₃ in
    let p₄ : o₄ ≡ paste o₀ at d 29 = plain_behind o₀ c o₃ o₄ at 20 9 (omega arith) lc p₃ w.third f.third e₄ in
    plain_behind o₀ d o₄ o₅ at 29 9 (omega arith) ld p₄ w.fourth f.fourth e₅

-- and a line feed behind them
pub call_put_lem : (d : List ℕ) (at : ℕ) (call : Call) (w : Words) (o₁ o₂ : List ℕ) → at + call_bytes ≤ length d → w ≡ words_of call → call_fits call ≡ true
    → o₁ ≡ paste d at (line_text w) line_bytes → o₂ ≡ text_put o₁ (at + line_bytes) (10 ∷ []) → o₂ ≡ call_put d at call
unfolding call_put call_text
call_put_lem d at call w o₁ o₂ h e f p q =
    let r : o₁ ≡ paste d at (line_text (words_of call)) line_bytes = p ∙ ap (λ (x : Words). paste d at (line_text x) line_bytes) e in
    rw (le-leb (at + call_bytes) (length d) h, f) (text_behind d (line_text (words_of call)) o₁ o₂ at line_bytes 1 (omega arith) (length-line (words_of call)) r (10 ∷ []) refl q)

pub answer_put_lem : (d : List ℕ) (at : ℕ) (answer : Answer) (o₁ o₂ o₃ : List ℕ) → at + 10 ≤ length d → answer_fits answer ≡ true → o₁ ≡ plain_put d at 3 answer.refusal
    → o₂ ≡ plain_put o₁ (at + 3) 6 answer.number → o₃ ≡ text_put o₂ (at + 9) (10 ∷ []) → o₃ ≡ answer_put d at answer
unfolding answer_put answer_text
answer_put_lem d at answer o₁ o₂ o₃ h f e₁ e₂ e₃ =
    let g = both (fits 3 answer.refusal) (fits 6 answer.number) f in
    let a : List ℕ = column 3 answer.refusal in
    let b : List ℕ = a ++ column 6 answer.number in
    let lb : length b ≡ 9 = simp (length-append, length_marked) in
    let p₁ : o₁ ≡ paste d at a 3 = e₁ ∙ plain_put_lem d at 3 answer.refusal (omega arith) g.0 in
    let p₂ : o₂ ≡ paste d at b 9 = plain_behind d a o₁ o₂ at 3 6 (omega arith) (length_marked 32 3 answer.refusal) p₁ answer.number g.1 e₂ in
    rw (le-leb (at + 10) (length d) h, f) (text_behind d b o₂ o₃ at 9 1 (omega arith) lb p₂ (10 ∷ []) refl e₃)
