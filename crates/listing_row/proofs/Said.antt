-- What a line says, column by column. Assumes nothing.
use Rattle.std.proofs.Common.{ℕ, ◌≡◌, refl, Bool, true, false, ◌&&◌, List, [], ◌∷◌, length, eq-eqb, ne_eqb, Option, Some, None}
use Rattle.std.specs.Bool.{then_some}
use Rattle.std.specs.Option.{option_map}
use Rattle.rules.specs.Tests.{pick}
use Rattle.rules.specs.Money.{millions, mils}
use Rattle.columns.specs.Column.{plain_at, optional_at, signed_at, same_at}
use Rattle.columns.specs.Reading.{Plain, Optional, Signed, formed_plain, formed_optional, formed_signed}
use Rattle.columns.specs.declared.reading.Signed as read
use Rattle.rows.specs.Row.{row_kept}
use Rattle.rows.specs.declared.Row.{Row}
use Rattle.listing.specs.Text.{row_in, row_formed, row_good, read_line, row_bytes}

pub row_long : (l : List ℕ) → (length l ≡ row_bytes → ⊥) → None ≡ read_line l
unfolding row_good
row_long l h = rw (ne_eqb (length l) row_bytes h)

and_false : (b : Bool) → (b && false) ≡ false
and_false true = refl
and_false false = refl

pub row_endless : (l : List ℕ) → same_at l 107 (10 ∷ []) ≡ false → None ≡ read_line l
unfolding row_good row_formed
row_endless l h = rw (h, and_false, and_false)

-- the row that eight columns make
abbrev row_of : ℕ → ℕ → Option ℕ → Option ℕ → read.Signed → ℕ → ℕ → ℕ → Row
row_of code class maximum own net pending bought sold =
    record {
      code = code;
      class = class;
      maximum = option_map millions maximum;
      own = option_map millions own;
      money = record { «open» = mils pending; bought = mils bought; sold = mils sold };
      below = net.below;
      net = mils net.size;
    }

abbrev pub row_says : Option ℕ → Option ℕ → Option (Option ℕ) → Option (Option ℕ) → Option read.Signed → Option ℕ → Option ℕ → Option ℕ → Option Row
row_says None q₂ q₃ q₄ q₅ q₆ q₇ q₈ = None
row_says (Some a) None q₃ q₄ q₅ q₆ q₇ q₈ = None
row_says (Some a) (Some b) None q₄ q₅ q₆ q₇ q₈ = None
row_says (Some a) (Some b) (Some c) None q₅ q₆ q₇ q₈ = None
row_says (Some a) (Some b) (Some c) (Some d) None q₆ q₇ q₈ = None
row_says (Some a) (Some b) (Some c) (Some d) (Some e) None q₇ q₈ = None
row_says (Some a) (Some b) (Some c) (Some d) (Some e) (Some f) None q₈ = None
row_says (Some a) (Some b) (Some c) (Some d) (Some e) (Some f) (Some g) None = None
row_says (Some a) (Some b) (Some c) (Some d) (Some e) (Some f) (Some g) (Some h) = let r = row_of a b c d e f g h in then_some (row_kept r) r

some_if : {A : Type 0} (b : Bool) (x : A) → pick b (Some x) None ≡ then_some b x
some_if true x = refl
some_if false x = refl

row_columns : (f₁ f₂ f₃ f₄ f₅ f₆ f₇ f₈ g₃ g₄ : Bool) (a b c d : ℕ) (e : read.Signed) (f g h : ℕ)
    → pick (f₁ && f₂ && f₃ && f₄ && f₅ && f₆ && f₇ && f₈ && true && row_kept (row_of a b (pick g₃ (Some c) None) (pick g₄ (Some d) None) e f g h))
    (Some (row_of a b (pick g₃ (Some c) None) (pick g₄ (Some d) None) e f g h)) None
    ≡ row_says (pick f₁ (Some a) None) (pick f₂ (Some b) None) (pick f₃ (Some (pick g₃ (Some c) None)) None) (pick f₄ (Some (pick g₄ (Some d) None)) None)
    (pick f₅ (Some e) None) (pick f₆ (Some f) None) (pick f₇ (Some g) None) (pick f₈ (Some h) None)
row_columns false f₂ f₃ f₄ f₅ f₆ f₇ f₈ g₃ g₄ a b c d e f g h = refl
row_columns true false f₃ f₄ f₅ f₆ f₇ f₈ g₃ g₄ a b c d e f g h = refl
row_columns true true false f₄ f₅ f₆ f₇ f₈ g₃ g₄ a b c d e f g h = refl
row_columns true true true false f₅ f₆ f₇ f₈ g₃ g₄ a b c d e f g h = refl
row_columns true true true true false f₆ f₇ f₈ g₃ g₄ a b c d e f g h = refl
row_columns true true true true true false f₇ f₈ g₃ g₄ a b c d e f g h = refl
row_columns true true true true true true false f₈ g₃ g₄ a b c d e f g h = refl
row_columns true true true true true true true false g₃ g₄ a b c d e f g h = refl
row_columns true true true true true true true true g₃ g₄ a b c d e f g h =
    let r : Row = row_of a b (pick g₃ (Some c) None) (pick g₄ (Some d) None) e f g h in
    some_if (row_kept r) r

-- a limit by its column
limit_is : (b : Bool) (n : ℕ) → pick b (Some (millions n)) None ≡ option_map millions (pick b (Some n) None)
limit_is true n = refl
limit_is false n = refl

pub row_says_is : (l : List ℕ) → length l ≡ row_bytes → same_at l 107 (10 ∷ []) ≡ true
    → read_line l ≡ row_says (formed_plain (plain_at l 0 5)) (formed_plain (plain_at l 5 2)) (formed_optional (optional_at l 7 8)) (formed_optional (optional_at l 15 8))
    (formed_signed (signed_at l 23 21)) (formed_plain (plain_at l 44 21)) (formed_plain (plain_at l 65 21)) (formed_plain (plain_at l 86 21))
unfolding row_good row_formed row_in
row_says_is l n h =
    let p : ℕ → ℕ → Plain = plain_at l in
    let o₃ : Optional = optional_at l 7 8 in
    let o₄ : Optional = optional_at l 15 8 in
    let s : Signed = signed_at l 23 21 in
    rw (eq-eqb (length l) row_bytes n, h, limit_is o₃.present o₃.number, limit_is o₄.present o₄.number)
    (row_columns (p 0 5).formed (p 5 2).formed o₃.formed o₄.formed s.formed (p 44 21).formed (p 65 21).formed (p 86 21).formed o₃.present o₄.present
    (p 0 5).number (p 5 2).number o₃.number o₄.number (record { below = s.below; size = s.size }) (p 44 21).number (p 65 21).number (p 86 21).number)
