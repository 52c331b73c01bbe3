-- One row: nine columns put one behind the other are the row's text, and the line that stands at a place of a text. Assumes nothing.
use Prim.Native.Nat.{ℕ, ◌+◌, ◌*◌, ◌/◌, ◌≤◌, ◌<◌}
use mathlib.Core.Path.{◌≡◌, refl, ap, ◌∙◌}
use mathlib.Core.Bool.{Bool, true}
use mathlib.Core.List.{List, [], ◌∷◌, ◌++◌}
use native.Mathlib.Omega.{arith}
use lib.ListN.{length, get_or, length-append}
use lib.Seq.{paste, length-paste}
use Rattle.columns.specs.Column.{column, optional_text, signed_text, fits, optional_fits, signed_fits, plain_put, optional_put, signed_put, text_put}
use Rattle.columns.specs.Laws.{length_marked, length_optional, length-signed}
use Rattle.columns.specs.Pastes.{chain, whole, plain_put_lem, optional_put_lem, signed-put, text_put_lem}
use Rattle.rows.specs.Row.{row_kept, no_row}
use Rattle.rows.specs.declared.Row.{Row}
use Rattle.listing.specs.Text.{is_set, millions_in, limit_put, limits_put, row_text, row_bytes, is_listing, rows_in, step_at, step_in}
use Rattle.listing.specs.Laws.{hands_out}
use Rattle.listing.specs.declared.texts.Step.TheVariants.{Next}
use Rattle.listing.specs.RowLaws.{Fitting, fitting, length-row}

-- ---- written

-- the buffer p is d with the text a, of m bytes, put at its place
pub record Grown (d : List ℕ) (at : ℕ) (p a : List ℕ) (m : ℕ) : Type 0 where
  pub is : p ≡ paste d at a m
  pub long : length a ≡ m

module _ (d : List ℕ) (at : ℕ) (p a : List ℕ) (m w : ℕ) (g : Grown d at p a m) (h : at + (m + w) ≤ length d) where
  pub room : at + m + w ≤ length p
  room =
      let e : length p ≡ length d = ap length g.is ∙ length-paste d at a m (omega arith) (omega (arith, g.long)) in
      omega arith

  -- one text of w bytes more
  pub more : (q b : List ℕ) → length b ≡ w → q ≡ paste p (at + m) b w → Grown d at q (a ++ b) (m + w)
  more q b lb e =
      record {
        is = e ∙ ap (λ (x : List ℕ). paste x (at + m) b w) g.is ∙ chain d a b at m w h g.long;
        long = length-append a b ∙ ap (λ (k : ℕ). k + length b) g.long ∙ ap (λ (k : ℕ). m + k) lb;
      }

  pub plain_more : (q : List ℕ) (n : ℕ) → fits w n ≡ true → q ≡ plain_put p (at + m) w n → Grown d at q (a ++ column w n) (m + w)
  plain_more q n f e = more q (column w n) (length_marked 32 w n) (e ∙ plain_put_lem p (at + m) w n room f)

  pub optional_more : (q : List ℕ) (present : Bool) (n : ℕ) → optional_fits w present n ≡ true → q ≡ optional_put p (at + m) w present n → Grown d at q (a ++ optional_text w present n) (m + w)
  optional_more q present n f e = more q (optional_text w present n) (length_optional w present n) (e ∙ optional_put_lem p (at + m) w present n room f)

  pub signed-more : (q : List ℕ) (below : Bool) (n : ℕ) → signed_fits w below n ≡ true → q ≡ signed_put p (at + m) w below n → Grown d at q (a ++ signed_text w below n) (m + w)
  signed-more q below n f e = more q (signed_text w below n) (length-signed w below n) (e ∙ signed-put p (at + m) w below n room f)

row_columns : (d : List ℕ) (at : ℕ) (r : Row) (d₁ d₂ d₄ d₅ d₆ d₇ d₈ d₉ : List ℕ) → at + row_bytes ≤ length d → row_kept r ≡ true
    → d₁ ≡ plain_put d at 5 r.code
    → d₂ ≡ plain_put d₁ (at + 5) 2 r.class
    → d₄ ≡ limits_put d₂ (at + 7) r.maximum r.own
    → d₅ ≡ signed_put d₄ (at + 23) 21 r.below r.net.0
    → d₆ ≡ plain_put d₅ (at + 44) 21 r.money.«open».0
    → d₇ ≡ plain_put d₆ (at + 65) 21 r.money.bought.0
    → d₈ ≡ plain_put d₇ (at + 86) 21 r.money.sold.0
    → d₉ ≡ text_put d₈ (at + 107) (10 ∷ [])
    → d₉ ≡ paste d at (row_text r) row_bytes
unfolding row_text
row_columns d at r d₁ d₂ d₄ d₅ d₆ d₇ d₈ d₉ h k e₁ e₂ e₄ e₅ e₆ e₇ e₈ e₉ =
    let f : Fitting r = fitting r k in
    let g₁ : Grown d at d₁ (column 5 r.code) 5 = record { is = e₁ ∙ plain_put_lem d at 5 r.code (omega arith) f.code; long = length_marked 32 5 r.code } in
    let g₂ : Grown d at d₂ _ 7 = plain_more d at d₁ _ 5 2 g₁ (omega arith) d₂ r.class f.class e₂ in
    let d₃ : List ℕ = limit_put d₂ (at + 7) r.maximum in
    let a : at + 7 + 8 ≡ at + 15 = omega arith in
    let g₃ : Grown d at d₃ _ 15 = optional_more d at d₂ _ 7 8 g₂ (omega arith) d₃ (is_set r.maximum) (millions_in r.maximum) f.maximum refl in
    let g₄ : Grown d at d₄ _ 23 = optional_more d at d₃ _ 15 8 g₃ (omega arith) d₄ (is_set r.own) (millions_in r.own) f.own (e₄ ∙ ap (λ (x : ℕ). limit_put d₃ x r.own) a) in
    let g₅ : Grown d at d₅ _ 44 = signed-more d at d₄ _ 23 21 g₄ (omega arith) d₅ r.below r.net.0 f.net e₅ in
    let g₆ : Grown d at d₆ _ 65 = plain_more d at d₅ _ 44 21 g₅ (omega arith) d₆ r.money.«open».0 f.pending e₆ in
    let g₇ : Grown d at d₇ _ 86 = plain_more d at d₆ _ 65 21 g₆ (omega arith) d₇ r.money.bought.0 f.bought e₇ in
    let g₈ : Grown d at d₈ _ 107 = plain_more d at d₇ _ 86 21 g₇ (omega arith) d₈ r.money.sold.0 f.sold e₈ in
    (more d at d₈ _ 107 1 g₈ (omega arith) d₉ (10 ∷ []) refl (e₉ ∙ text_put_lem d₈ (at + 107) (10 ∷ []) (room d at d₈ _ 107 1 g₈ (omega arith)))).is

-- a line of 108 bytes that the nine columns are put into
pub row_written : (d : List ℕ) (r : Row) → length d ≡ row_bytes → row_kept r ≡ true
    → text_put (plain_put (plain_put (plain_put (signed_put (limit_put (limit_put (plain_put (plain_put d 0 5 r.code) 5 2 r.class) 7 r.maximum) 15 r.own) 23 21 r.below r.net.0) 44 21 r.money.«open».0) 65 21 r.money.bought.0) 86 21 r.money.sold.0) 107 (10 ∷ [])
    ≡ row_text r
row_written d r h k = row_columns d 0 r _ _ _ _ _ _ _ _ (omega arith) k refl refl refl refl refl refl refl refl ∙ whole d (row_text r) row_bytes h (length-row r)

-- ---- read

-- what stands in a listing at the place of a row: the row
pub row_handed : (t : List ℕ) (at n : ℕ) → n ≡ 0 → is_listing t ≡ true → at ≡ row_bytes * (at / row_bytes) → at / row_bytes < length (rows_in t) → step_in t at n ≡ Next (get_or (rows_in t) (at / row_bytes) no_row)
unfolding step_in
row_handed t at n z h p l = rw z (ap (λ (k : ℕ). step_at t k) p ∙ hands_out t (at / row_bytes) no_row h l)
