-- Examples by computation: the call lines of document 01's input as they are written into a lent buffer, and what is refused. Expected values are worked
-- out from document 01 by hand. Assumes nothing.
use Rattle.std.specs.Prelude.{ℕ, ◌≡◌, refl, [], ◌∷◌, ◌++◌, replicate}
use Prim.Native.String.{String}
use Rattle.rules.specs.Codes.{order_call_of, call_of}
use Rattle.columns.specs.Column.{byte_at, marked}
use Rattle.columns.specs.Texts.{bytes}
use Rattle.callfile.specs.Lines.{words_of, line_text, call_text, words_fit}
use Rattle.router.specs.Texts.{line_refusal, line_put}

-- forty bytes "x": the line with its line feed in the first 39, and the last stays
abbrev Line : ℕ → ℕ → ℕ → ℕ → ℕ → String → Type 0
Line code a b c d t = (line_refusal code a b c d 39 ≡ 0) × (line_put code a b c d (replicate 40 120) ≡ bytes t ++ (10 ∷ 120 ∷ []))

abbrev Refused : ℕ → ℕ → ℕ → ℕ → ℕ → ℕ → ℕ → Type 0
Refused code a b c d lent q = (line_refusal code a b c d lent ≡ q) × (line_put code a b c d (replicate lent 120) ≡ replicate lent 120)

pub record Lines : Type 0 where
  -- the input of document 01
  pub enrol : Line 1 1 1 0 0 " 1        1        1        0        0"
  pub attach : Line 2 20_001 0 0 0 " 2    20001        0        0        0"
  pub regular : Line 4 1 0 3 8 " 4        1        0        3        8"
  pub close : Line 11 0 0 0 0 "11        0        0        0        0"
  pub own_quota_lem : Line 7 0 5 0 0 " 7        0        5        0        0"
  pub order : Line 8 20_001 1 12_500 300_000 " 8    20001        1    12500   300000"
  pub fill : Line 9 1 12_400 100_000 0 " 9        1    12400   100000        0"
  pub cancel : Line 10 2 0 0 0 "10        2        0        0        0"
  -- the other codes
  pub detach : Line 3 20_001 0 0 0 " 3    20001        0        0        0"
  pub raise : Line 5 1 0 100_000 0 " 5        1        0   100000        0"
  pub withdraw : Line 6 1 0 0 0 " 6        1        0        0        0"
  -- nine digits; fields that the call does not use are written 0, whatever they are
  pub nine-digits : Line 8 999_999_999 999_999_999 999_999_999 999_999_999 " 8999999999999999999999999999999999999"
  pub unused : Line 10 2 3 1_000_000_000 18_446_744_073_709_551_615 "10        2        0        0        0"
  -- ten digits, in each field
  pub first : Refused 8 1_000_000_000 1 12_500 300_000 39 2
  pub second : Refused 8 20_001 1_000_000_000 12_500 300_000 39 2
  pub third : Refused 8 20_001 1 1_000_000_000 300_000 39 2
  pub fourth : Refused 8 20_001 1 12_500 1_000_000_000 39 2
  -- "the code, 1 to 11" (Lines and columns)
  pub code_zero : Refused 0 0 0 0 0 39 2
  pub code_twelve : Refused 12 0 0 0 0 39 2
  pub code_most : Refused 18_446_744_073_709_551_615 0 0 0 0 39 2
  -- 38 bytes; 2 comes first
  pub short : Refused 11 0 0 0 0 38 22
  pub empty : Refused 11 0 0 0 0 0 22
  pub twelve_short : Refused 12 0 0 0 0 38 2

pub lines : Lines
unfolding byte_at marked call_of order_call_of words_of words_fit line_text call_text line_refusal line_put
lines =
    record {
      enrol = (refl, refl);
      attach = (refl, refl);
      regular = (refl, refl);
      close = (refl, refl);
      own_quota_lem = (refl, refl);
      order = (refl, refl);
      fill = (refl, refl);
      cancel = (refl, refl);
      detach = (refl, refl);
      raise = (refl, refl);
      withdraw = (refl, refl);
      nine-digits = (refl, refl);
      unused = (refl, refl);
      first = (refl, refl);
      second = (refl, refl);
      third = (refl, refl);
      fourth = (refl, refl);
      code_zero = (refl, refl);
      code_twelve = (refl, refl);
      code_most = (refl, refl);
      short = (refl, refl);
      empty = (refl, refl);
      twelve_short = (refl, refl);
    }
