-- What the functions that read a line answer, over plain values. Assumes nothing.
use Prim.Native.Nat.{ℕ}
use mathlib.Core.Path.{◌≡◌, refl}
use mathlib.Core.Bool.{Bool, true, false, ◌&&◌}
use mathlib.Core.List.{List}
use borrow.Author.Tests.{eq-eqb, ne_eqb}
use lib.ListN.{length}
use Rattle.rules.specs.Codes.{call_of}
use Rattle.rules.specs.declared.calls.Call.{Call}
use Rattle.rules.specs.Tests.{pick}
use Rattle.std.specs.Prelude.{Option, Some, None}
use Rattle.columns.specs.Column.{plain_at}
use Rattle.columns.specs.Reading.{Plain, formed_plain}
use Rattle.callfile.specs.Lines.{coded, is_call, line_of, columns_formed, line_formed, malformed, formed_call, read_line, line_bytes}

-- ---- a line

pub line_long : (t : List ℕ) → (length t ≡ line_bytes → ⊥) → None ≡ formed_call (read_line t)
unfolding read_line line_formed
line_long t h = rw (ne_eqb (length t) line_bytes h)

-- what a line of five columns says, column by column
abbrev pub said : Option ℕ → Option ℕ → Option ℕ → Option ℕ → Option ℕ → Option Call
said None q₁ q₂ q₃ q₄ = None
said (Some code) None q₂ q₃ q₄ = None
said (Some code) (Some a) None q₃ q₄ = None
said (Some code) (Some a) (Some b) None q₄ = None
said (Some code) (Some a) (Some b) (Some c) None = None
said (Some code) (Some a) (Some b) (Some c) (Some d) = pick (is_call (coded code a b c d)) (Some (call_of code a b c d)) None

abbrev some_if : Bool → ℕ → Option ℕ
some_if formed number = pick formed (Some number) None

said_columns : (f₀ f₁ f₂ f₃ f₄ : Bool) (code a b c d : ℕ)
    → formed_call (pick ((f₀ && (f₁ && (f₂ && (f₃ && f₄)))) && is_call (coded code a b c d)) (record { formed = true; call = call_of code a b c d }) malformed)
    ≡ said (some_if f₀ code) (some_if f₁ a) (some_if f₂ b) (some_if f₃ c) (some_if f₄ d)
said_columns false f₁ f₂ f₃ f₄ code a b c d = refl
said_columns true false f₂ f₃ f₄ code a b c d = refl
said_columns true true false f₃ f₄ code a b c d = refl
said_columns true true true false f₄ code a b c d = refl
said_columns true true true true false code a b c d = refl
said_columns true true true true true code a b c d = go (is_call (coded code a b c d))
  where
    go : (k : Bool) → formed_call (pick k (record { formed = true; call = call_of code a b c d }) malformed) ≡ pick k (Some (call_of code a b c d)) None
    go true = refl
    go false = refl

pub said_is : (t : List ℕ) → length t ≡ line_bytes → formed_call (read_line t)
    ≡ said (formed_plain (plain_at t 0 2)) (formed_plain (plain_at t 2 9)) (formed_plain (plain_at t 11 9)) (formed_plain (plain_at t 20 9)) (formed_plain (plain_at t 29 9))
unfolding read_line line_formed columns_formed line_of
said_is t l =
    let p : ℕ → ℕ → Plain = plain_at t in
    rw (eq-eqb (length t) line_bytes l)
    (said_columns (p 0 2).formed (p 2 9).formed (p 11 9).formed (p 20 9).formed (p 29 9).formed (p 0 2).number (p 2 9).number (p 11 9).number (p 20 9).number (p 29 9).number)
