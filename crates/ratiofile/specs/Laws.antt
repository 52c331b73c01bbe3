-- Both laws of the file: nine numbers that fit their columns are read back from their text (`file_back`), and a text that is formed is exactly the text
-- that is written for what is read, 33 bytes (`file_only`). Both are in proofs/Laws.antt. Of any other text nothing is kept (`file-none`). A file that a load may take has room in its
-- columns (`in_range_fits`). Assumes nothing.
use Rattle.std.specs.Prelude.{ℕ, ◌<◌, ◌≡◌, refl, Bool, true, false, ◌&&◌, List, [], ◌∷◌, ◌++◌, length, get_or}
use Rattle.std.proofs.Common.{sym, append_assoc, arith, lt-ltb, length-append}
use Rattle.std.proofs.lemmas.Bool.{false≢true}
use Rattle.rules.specs.Tests.{pick, both, within_true}
use Rattle.rules.specs.Limits.{is_class, is_ratio}
use Rattle.rules.specs.Loads.{line_in_range, file_in_range, FileRead as FileSaid}
use Rattle.rules.specs.declared.loads.RatioLine.{RatioLine}
use Rattle.columns.specs.Column.{marked, column, fits, plain_at}
use Rattle.columns.specs.Laws.{length_marked}
use Rattle.columns.proofs.Pastes.{plain_at_back}
use Rattle.ratiofile.specs.File.{line_bytes, file_bytes, line_text, file_text, line_fits, file_fits}
use Rattle.ratiofile.specs.File.{line_in, first_line, second_line, third_line, file_formed, file_of, not_formed, file_in}

-- ---- lengths

pub length-line : (l : RatioLine) → length (line_text l) ≡ line_bytes
unfolding line_text
length-line l = simp (length-append, length_marked)

pub length-file : (f : FileSaid) → length (file_text f) ≡ file_bytes
unfolding file_text
length-file f = simp (length-append, length-line)

-- ---- what is written is read

-- each column of a line
record Columns (t : List ℕ) (l : RatioLine) : Type 0 where
  class : plain_at t 0 2 ≡ record { formed = true; number = l.class }
  numerator : plain_at t 2 4 ≡ record { formed = true; number = l.numerator }
  denominator : plain_at t 6 4 ≡ record { formed = true; number = l.denominator }

columns : (l : RatioLine) → line_fits l ≡ true → Columns (line_text l) l
unfolding line_text
columns l h =
    let f = both (fits 2 l.class) (fits 4 l.numerator && fits 4 l.denominator) h in
    let g = both (fits 4 l.numerator) (fits 4 l.denominator) f.1 in
    let a : List ℕ = column 2 l.class in
    let b : List ℕ = column 4 l.numerator in
    let c : List ℕ = column 4 l.denominator in
    let d : List ℕ = 10 ∷ [] in
    let t : List ℕ = a ++ b ++ c ++ d in
    let t₀ : t ≡ [] ++ (a ++ (b ++ (c ++ d))) = simp append_assoc in
    let t₁ : t ≡ a ++ (b ++ (c ++ d)) = simp append_assoc in
    let t₂ : t ≡ (a ++ b) ++ (c ++ d) = simp append_assoc in
    let l₁ : length a ≡ 2 = length_marked 32 2 l.class in
    let l₂ : length (a ++ b) ≡ 6 = simp (length-append, length_marked) in
    record {
      class = plain_at_back t [] (b ++ (c ++ d)) 0 2 l.class t₀ refl f.0;
      numerator = plain_at_back t a (c ++ d) 2 4 l.numerator t₁ l₁ g.0;
      denominator = plain_at_back t (a ++ b) d 6 4 l.denominator t₂ l₂ g.1;
    }

-- columns of known width compute
pub feed : (l : RatioLine) → get_or (line_text l) 10 0 ≡ 10
unfolding line_text marked
feed l = refl

pub line_back : (l : RatioLine) → line_fits l ≡ true → line_in (line_text l) ≡ record { formed = true; numbers = l }
unfolding line_in
line_back l h = let c = columns l h in rw (c.class, c.numerator, c.denominator, feed l)

-- room, in numbers
pub line-room : (l : RatioLine) → l.class < 100 → l.numerator < 10000 → l.denominator < 10000 → line_fits l ≡ true
line-room l a b c = rw (lt-ltb l.class 100 a, lt-ltb l.numerator 10000 b, lt-ltb l.denominator 10000 c)

line_in_range_lem : (l : RatioLine) → line_in_range l ≡ true → line_fits l ≡ true
line_in_range_lem l h =
    let f = both (is_class l.class) (is_ratio l.numerator && is_ratio l.denominator) h in
    let g = both (is_ratio l.numerator) (is_ratio l.denominator) f.1 in
    let a : l.class < 100 = omega (arith, within_true _ _ l.class f.0) in
    let b : l.numerator < 10000 = omega (arith, within_true _ _ l.numerator g.0) in
    let c : l.denominator < 10000 = omega (arith, within_true _ _ l.denominator g.1) in
    line-room l a b c

-- a file that a load may take has room in its columns, so it is read back
pub in_range_fits : (f : FileSaid) → file_in_range f ≡ true → file_fits f ≡ true
unfolding file_fits
in_range_fits f h =
    let g = both (line_in_range f.first) (line_in_range f.second && line_in_range f.third) h in
    let k = both (line_in_range f.second) (line_in_range f.third) g.1 in
    rw (line_in_range_lem f.first g.0, line_in_range_lem f.second k.0, line_in_range_lem f.third k.1)

-- ---- whatever is read is what is written for it

-- the text is what is written, with room for the numbers
pub record FileRead (t : List ℕ) (f : FileSaid) : Type 0 where
  pub text : t ≡ file_text f
  pub room : file_fits f ≡ true
  pub bytes : length t ≡ file_bytes

-- of any other text nothing is kept
pub file-none : (t : List ℕ) → (file_in t).formed ≡ false → file_in t ≡ not_formed
unfolding file_in
file-none t h = go (file_formed t) h
  where
    given : FileSaid
    given = file_of true (first_line t).numbers (second_line t).numbers (third_line t).numbers

    go : (b : Bool) → (pick b given not_formed).formed ≡ false → pick b given not_formed ≡ not_formed
    go true f = absurd (false≢true (sym f))
    go false f = refl
