-- What a router may count on of a call's line: which calls have one (`has-line`), that its bytes are the call's text (`line_text_lem`), that it is read back as
-- the call (`line-read_back`), and that a refusal writes no byte (`line_kept`). Assumes nothing.
use Rattle.std.specs.Prelude.{ℕ, zero, suc, ◌≤◌, ◌≢◌, Bool, not, ◌&&◌, ◌||◌, List, [], ◌∷◌, leb, ltb, length}
use Rattle.std.proofs.Math.Path.{◌≡◌, refl, sym, ap}
use Rattle.std.proofs.Common.{◌∙◌, arith, take-take}
use Rattle.std.proofs.Math.Bool.{true, false}
use Rattle.std.proofs.Math.ListN.{take}
use Rattle.std.proofs.Math.Seq.{paste, take_at}
use Rattle.rules.specs.Tests.{pick}
use Rattle.rules.specs.Codes.{order_call_of, call_of}
use Rattle.rules.specs.Refusals.{out_of_range_number, short_buffer_number}
use Rattle.rules.specs.Laws.{where_refused, where_accepted}
use Rattle.rules.specs.declared.calls.Call.{Call}
use Rattle.columns.specs.Column.{fits}
use Rattle.columns.specs.Pastes.{front}
use Rattle.callfile.specs.Lines.{words_of, line_text, call_text, words_fit, call_fits, fields, read_line, line_bytes, call_bytes}
use Rattle.callfile.specs.Laws.{length-line, length_call, line_back}
use Rattle.router.specs.Safe.{unknown}
use Rattle.router.specs.Texts.{wrote_refusal, line_refusal, line_put}

-- ---- which calls have a line

-- field i, counted from 1, of a call with n fields: at most nine digits, where the call uses it
abbrev pub used_fits : ℕ → ℕ → ℕ → Bool
used_fits n i x = not (leb i n) || fits 9 x

-- "the code, 1 to 11, .. four fields of 9" (Lines and columns)
abbrev pub fields_fit : ℕ → ℕ → ℕ → ℕ → ℕ → Bool
fields_fit n a b c d = used_fits n 1 a && (used_fits n 2 b && (used_fits n 3 c && used_fits n 4 d))

-- what holds of 1 to 11 holds of each code between
by_code : (P : ℕ → Type 0) → P 1 → P 2 → P 3 → P 4 → P 5 → P 6 → P 7 → P 8 → P 9 → P 10 → P 11 → (code : ℕ) → 1 ≤ code → code ≤ 11 → P code
by_code P p₁ p₂ p₃ p₄ p₅ p₆ p₇ p₈ p₉ p₁₀ p₁₁ zero l h = absurd (omega arith)
by_code P p₁ p₂ p₃ p₄ p₅ p₆ p₇ p₈ p₉ p₁₀ p₁₁ (suc zero) l h = p₁
by_code P p₁ p₂ p₃ p₄ p₅ p₆ p₇ p₈ p₉ p₁₀ p₁₁ (suc (suc zero)) l h = p₂
by_code P p₁ p₂ p₃ p₄ p₅ p₆ p₇ p₈ p₉ p₁₀ p₁₁ (suc (suc (suc zero))) l h = p₃
by_code P p₁ p₂ p₃ p₄ p₅ p₆ p₇ p₈ p₉ p₁₀ p₁₁ (suc (suc (suc (suc zero)))) l h = p₄
by_code P p₁ p₂ p₃ p₄ p₅ p₆ p₇ p₈ p₉ p₁₀ p₁₁ (suc (suc (suc (suc (suc zero))))) l h = p₅
by_code P p₁ p₂ p₃ p₄ p₅ p₆ p₇ p₈ p₉ p₁₀ p₁₁ (suc (suc (suc (suc (suc (suc zero)))))) l h = p₆
by_code P p₁ p₂ p₃ p₄ p₅ p₆ p₇ p₈ p₉ p₁₀ p₁₁ (suc (suc (suc (suc (suc (suc (suc zero))))))) l h = p₇
by_code P p₁ p₂ p₃ p₄ p₅ p₆ p₇ p₈ p₉ p₁₀ p₁₁ (suc (suc (suc (suc (suc (suc (suc (suc zero)))))))) l h = p₈
by_code P p₁ p₂ p₃ p₄ p₅ p₆ p₇ p₈ p₉ p₁₀ p₁₁ (suc (suc (suc (suc (suc (suc (suc (suc (suc zero))))))))) l h = p₉
by_code P p₁ p₂ p₃ p₄ p₅ p₆ p₇ p₈ p₉ p₁₀ p₁₁ (suc (suc (suc (suc (suc (suc (suc (suc (suc (suc zero)))))))))) l h = p₁₀
by_code P p₁ p₂ p₃ p₄ p₅ p₆ p₇ p₈ p₉ p₁₀ p₁₁ (suc (suc (suc (suc (suc (suc (suc (suc (suc (suc (suc zero))))))))))) l h = p₁₁
by_code P p₁ p₂ p₃ p₄ p₅ p₆ p₇ p₈ p₉ p₁₀ p₁₁ (suc (suc (suc (suc (suc (suc (suc (suc (suc (suc (suc (suc k)))))))))))) l h = absurd (omega arith)

module _ (code a b c d lent : ℕ) where
  -- a code that is no call's
  pub line_unknown : (1 ≤ code → code ≤ 11 → ⊥) → line_refusal code a b c d lent ≡ out_of_range_number
  unfolding line_refusal words_of words_fit
  line_unknown n = ap (λ (x : Call). wrote_refusal x lent) (unknown code a b c d n)

  -- a call's: refused by 2 exactly where a field that it uses has ten digits or more
  pub line_known : 1 ≤ code → code ≤ 11 → line_refusal code a b c d lent ≡ pick (not (fields_fit (fields code) a b c d)) out_of_range_number (pick (ltb lent call_bytes) short_buffer_number 0)
  unfolding line_refusal call_of order_call_of words_of words_fit fields
  line_known l h =
      by_code (λ k. wrote_refusal (call_of k a b c d) lent ≡ pick (not (fields_fit (fields k) a b c d)) out_of_range_number (pick (ltb lent call_bytes) short_buffer_number 0))
      refl refl refl refl refl refl refl refl refl refl refl code l h

-- ---- its bytes

module _ (code a b c d : ℕ) (line : List ℕ) (z : line_refusal code a b c d (length line) ≡ 0) where
  pub line_text_lem : take call_bytes (line_put code a b c d line) ≡ call_text (call_of code a b c d)
  unfolding line_refusal line_put
  line_text_lem =
      let call : Call = call_of code a b c d in
      ap (take call_bytes) (where_accepted (paste line 0 (call_text call) call_bytes) line (wrote_refusal call (length line)) z)
      ∙ front line (call_text call) call_bytes (length_call call)

  fits_so : call_fits (call_of code a b c d) ≡ true
  unfolding line_refusal
  fits_so = go (call_fits (call_of code a b c d)) (ltb (length line) call_bytes) z
    where
      go : (s t : Bool) → ◌≡◌ {A = ℕ} (pick (not s) 2 (pick t 22 0)) 0 → s ≡ true
      go true t y = refl
      go false t y = absurd (omega arith)

  -- the line, without its line feed, is read as the call
  pub line-read_back : read_line (take line_bytes (line_put code a b c d line)) ≡ record { formed = true; call = call_of code a b c d }
  unfolding call_text
  line-read_back =
      let call : Call = call_of code a b c d in
      let text : take line_bytes (line_put code a b c d line) ≡ line_text (words_of call) =
      sym (take-take line_bytes call_bytes (line_put code a b c d line) (omega arith)) ∙ ap (take line_bytes) line_text_lem
      ∙ take_at (line_text (words_of call)) (10 ∷ []) line_bytes (length-line (words_of call)) in
      ap read_line text ∙ line_back call fits_so

pub line_kept : (code a b c d : ℕ) (line : List ℕ) → line_refusal code a b c d (length line) ≢ 0 → line_put code a b c d line ≡ line
unfolding line_refusal line_put
line_kept code a b c d line n = where_refused (paste line 0 (call_text (call_of code a b c d)) call_bytes) line (wrote_refusal (call_of code a b c d) (length line)) n
