-- Both laws of the file: what is written is read back (`file_back`), and what is formed is what is written for it (`file_only`). Over specs/Laws.antt. Assumes nothing.
-- Here, and not in specs/, so that a wrong definition is refused by the first theorem that it breaks, and not by those that rest on it.
use Rattle.std.specs.Prelude.{ℕ, ◌≡◌, refl, Bool, true, false, ◌&&◌, List, [], ◌∷◌, ◌++◌, eqb, length, take, drop, get_or}
use Rattle.std.proofs.Common.{ap, sym, ◌∙◌, arith, eqb-true, take_all, take-add, drop-cons}
use Rattle.std.proofs.lemmas.Bool.{false≢true}
use Rattle.rules.specs.Tests.{pick, both}
use Rattle.rules.specs.Loads.{FileRead as FileSaid}
use Rattle.columns.specs.Column.{marked, plain_at, part}
use Rattle.columns.specs.Pastes.{plain_at_only, length_part}
use Rattle.ratiofile.specs.File.{line_bytes, file_bytes, line_text, file_text, line_fits, file_fits}
use Rattle.ratiofile.specs.File.{line_in, first_line, second_line, third_line, file_formed, file_of, not_formed, file_in}
use Rattle.ratiofile.specs.Laws.{length-file, line_back, FileRead}

first_part : (f : FileSaid) → part (file_text f) 0 line_bytes ≡ line_text f.first
unfolding file_text line_text marked
first_part f = refl

second-part : (f : FileSaid) → part (file_text f) 11 line_bytes ≡ line_text f.second
unfolding file_text line_text marked
second-part f = refl

third_part : (f : FileSaid) → part (file_text f) 22 line_bytes ≡ line_text f.third
unfolding file_text line_text marked
third_part f = refl

pub file_back : (f : FileSaid) → file_fits f ≡ true → file_in (file_text f) ≡ file_of true f.first f.second f.third
unfolding file_in file_formed file_fits
file_back f h =
    let g = both (line_fits f.first) (line_fits f.second && line_fits f.third) h in
    let k = both (line_fits f.second) (line_fits f.third) g.1 in
    let e₁ : first_line (file_text f) ≡ record { formed = true; numbers = f.first } = ap line_in (first_part f) ∙ line_back f.first g.0 in
    let e₂ : second_line (file_text f) ≡ record { formed = true; numbers = f.second } = ap line_in (second-part f) ∙ line_back f.second k.0 in
    let e₃ : third_line (file_text f) ≡ record { formed = true; numbers = f.third } = ap line_in (third_part f) ∙ line_back f.third k.1 in
    rw (length-file f, e₁, e₂, e₃)

whole-line : (t : List ℕ) → length t ≡ line_bytes → part t 0 2 ++ part t 2 4 ++ part t 6 4 ++ part t 10 1 ≡ t
whole-line t h =
    let s₁ : part t 0 2 ++ part t 2 4 ≡ take 6 t = sym (take-add 2 4 t) in
    let s₂ : take 6 t ++ part t 6 4 ≡ take 10 t = sym (take-add 6 4 t) in
    let s₃ : take 10 t ++ part t 10 1 ≡ take line_bytes t = sym (take-add 10 1 t) in
    rw (s₁, s₂, s₃) (take_all line_bytes t (omega arith))

last_byte : (t : List ℕ) → length t ≡ line_bytes → get_or t 10 0 ≡ 10 → part t 10 1 ≡ 10 ∷ []
last_byte t h e =
    let d : drop 10 t ≡ get_or t 10 0 ∷ drop 11 t = drop-cons t 10 0 (omega arith) in
    ap (take 1) d ∙ ap (λ (b : ℕ). b ∷ []) e

-- a line that is formed is the text of its numbers, with room for them
record LineRead (t : List ℕ) : Type 0 where
  text : t ≡ line_text (line_in t).numbers
  room : line_fits (line_in t).numbers ≡ true

line_only : (t : List ℕ) → length t ≡ line_bytes → (line_in t).formed ≡ true → LineRead t
unfolding line_in line_text
line_only t l h =
    let p₀ : Bool = (plain_at t 0 2).formed in
    let p₁ : Bool = (plain_at t 2 4).formed in
    let p₂ : Bool = (plain_at t 6 4).formed in
    let feed : Bool = eqb (get_or t 10 0) 10 in
    let g₀ = both p₀ (p₁ && (p₂ && feed)) h in
    let g₁ = both p₁ (p₂ && feed) g₀.1 in
    let g₂ = both p₂ feed g₁.1 in
    let c₀ = plain_at_only t 0 2 (omega arith) g₀.0 in
    let c₁ = plain_at_only t 2 4 (omega arith) g₁.0 in
    let c₂ = plain_at_only t 6 4 (omega arith) g₂.0 in
    let c₃ = last_byte t l (eqb-true (get_or t 10 0) 10 g₂.1) in
    record {
      text = sym (rw (← c₀.0, ← c₁.0, ← c₂.0, ← c₃) (whole-line t l));
      room = rw (c₀.1, c₁.1, c₂.1);
    }

whole-file : (t : List ℕ) → length t ≡ file_bytes → part t 0 line_bytes ++ part t 11 line_bytes ++ part t 22 line_bytes ≡ t
whole-file t h =
    let s₁ : part t 0 line_bytes ++ part t 11 line_bytes ≡ take 22 t = sym (take-add 11 11 t) in
    let s₂ : take 22 t ++ part t 22 line_bytes ≡ take file_bytes t = sym (take-add 22 11 t) in
    rw (s₁, s₂) (take_all file_bytes t (omega arith))

formed_only : (t : List ℕ) → file_formed t ≡ true → FileRead t (file_of true (first_line t).numbers (second_line t).numbers (third_line t).numbers)
unfolding file_formed file_text file_fits
formed_only t h =
    let p₁ : Bool = (first_line t).formed in
    let p₂ : Bool = (second_line t).formed in
    let p₃ : Bool = (third_line t).formed in
    let g₀ = both (eqb (length t) file_bytes) (p₁ && (p₂ && p₃)) h in
    let g₁ = both p₁ (p₂ && p₃) g₀.1 in
    let g₂ = both p₂ p₃ g₁.1 in
    let l : length t ≡ file_bytes = eqb-true (length t) file_bytes g₀.0 in
    let r₁ = line_only (part t 0 line_bytes) (length_part t 0 line_bytes (omega arith)) g₁.0 in
    let r₂ = line_only (part t 11 line_bytes) (length_part t 11 line_bytes (omega arith)) g₂.0 in
    let r₃ = line_only (part t 22 line_bytes) (length_part t 22 line_bytes (omega arith)) g₂.1 in
    record {
      text = sym (rw (← r₁.text, ← r₂.text, ← r₃.text) (whole-file t l));
      room = rw (r₁.room, r₂.room, r₃.room);
      bytes = l;
    }

pub file_only : (t : List ℕ) → (file_in t).formed ≡ true → FileRead t (file_in t)
unfolding file_in
file_only t h = go (file_formed t) refl h
  where
    given : FileSaid
    given = file_of true (first_line t).numbers (second_line t).numbers (third_line t).numbers

    go : (b : Bool) → file_formed t ≡ b → (pick b given not_formed).formed ≡ true → FileRead t (pick b given not_formed)
    go true e f = formed_only t e
    go false e f = absurd (false≢true f)
