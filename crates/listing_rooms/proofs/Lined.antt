-- Lines of rooms: four columns put one behind the other are a row's line; the reader's row is the listing's; one row more, and the end. Assumes nothing.
use Prim.Native.Nat.{ℕ, ◌+◌, ◌*◌, ◌/◌, ◌≤◌, ◌<◌}
use mathlib.Core.Path.{◌≡◌, refl, ap, sym, ◌∙◌}
use mathlib.Core.Bool.{Bool, true, false}
use mathlib.Core.List.{List, [], ◌∷◌, ◌++◌}
use native.Mathlib.Numerals.{add-one}
use native.Mathlib.Omega.{arith}
use lib.ListN.{length, get_or, take}
use lib.Seq.{paste, length-take-le}
use Rattle.columns.specs.Column.{column, plain_put, text_put}
use Rattle.columns.specs.Laws.{length_marked}
use Rattle.columns.specs.Pastes.{chain_on, whole, plain_put_lem, text_put_lem}
use Rattle.rows.specs.Row.{row_kept, no_row}
use Rattle.rows.specs.Room.{room_of}
use Rattle.rows.specs.declared.Row.{Row}
use Rattle.listing.specs.Text.{is_listing, rows_in, row_bytes}
use Rattle.listing.specs.RowLaws.{Fitting, fitting}
use Rattle.listing.specs.Laws.{length-rows}
use Rattle.rules.specs.Refusals.{malformed_number}
use Rattle.listing.specs.Rooms.{room_bytes, refused_text, left_text, left_put, room_text, rooms_text, left_fits, length_rooms, rooms_last, take_last, length-room, rows_few}
use Rattle.listing.proofs.Lined.{Grown, room, more, plain_more, optional_more, signed-more}

-- ---- one line

left_more : (d : List ℕ) (at : ℕ) (p a : List ℕ) (r : Row) (q : List ℕ) → Grown d at p a 7 → at + 28 ≤ length d → q ≡ left_put p (at + 7) (room_of r) → Grown d at q (a ++ left_text (room_of r)) 28
left_more d at p a r q g h e = go (room_of r).given refl
  where
    go : (b : Bool) → (room_of r).given ≡ b → Grown d at q (a ++ left_text (room_of r)) 28
    go true t =
        let e' = rw t at e in
        let s = signed-more d at p a 7 21 g (omega arith) q (room_of r).left.below (room_of r).left.size.0 (left_fits r) e' in
        rw t s
    go false t =
        let e' = rw t at e in
        let s = optional_more d at p a 7 21 g (omega arith) q false 0 refl e' in
        rw t s

room_put : (d : List ℕ) (at : ℕ) (r : Row) (d₁ d₂ d₃ d₄ : List ℕ) → at + room_bytes ≤ length d → row_kept r ≡ true
    → d₁ ≡ plain_put d at 5 r.code
    → d₂ ≡ plain_put d₁ (at + 5) 2 r.class
    → d₃ ≡ left_put d₂ (at + 7) (room_of r)
    → d₄ ≡ text_put d₃ (at + 28) (10 ∷ [])
    → d₄ ≡ paste d at (room_text r) room_bytes
unfolding room_text
room_put d at r d₁ d₂ d₃ d₄ h k e₁ e₂ e₃ e₄ =
    let f : Fitting r = fitting r k in
    let g₁ : Grown d at d₁ (column 5 r.code) 5 = record { is = e₁ ∙ plain_put_lem d at 5 r.code (omega arith) f.code; long = length_marked 32 5 r.code } in
    let g₂ : Grown d at d₂ _ 7 = plain_more d at d₁ _ 5 2 g₁ (omega arith) d₂ r.class f.class e₂ in
    let g₃ : Grown d at d₃ _ 28 = left_more d at d₂ _ r d₃ g₂ (omega arith) e₃ in
    (more d at d₃ _ 28 1 g₃ (omega arith) d₄ (10 ∷ []) refl (e₄ ∙ text_put_lem d₃ (at + 28) (10 ∷ []) (room d at d₃ _ 28 1 g₃ (omega arith)))).is

-- a line of 29 bytes that the four columns are put into
pub room_written : (d : List ℕ) (r : Row) → length d ≡ room_bytes → row_kept r ≡ true
    → text_put (left_put (plain_put (plain_put d 0 5 r.code) 5 2 r.class) 7 (room_of r)) 28 (10 ∷ []) ≡ room_text r
room_written d r h k = room_put d 0 r _ _ _ _ (omega arith) k refl refl refl refl ∙ whole d (room_text r) room_bytes h (length-room r)

-- ---- the rows one after the other

pub room_length : (r : Row) → length (room_text r) ≡ room_bytes
room_length = length-room

pub rooms_step : (t d : List ℕ) (i : ℕ) → i < length (rows_in t) → room_bytes * i + room_bytes ≤ length d
    → paste (paste d 0 (rooms_text (take i (rows_in t))) (room_bytes * i)) (room_bytes * i) (room_text (get_or (rows_in t) i no_row)) room_bytes
    ≡ paste d 0 (rooms_text (take (i + 1) (rows_in t))) (room_bytes * (i + 1))
rooms_step t d i l h =
    let size : length (rooms_text (take i (rows_in t))) ≡ room_bytes * i = length_rooms (take i (rows_in t)) ∙ ap (λ (x : ℕ). room_bytes * x) (length-take-le i (rows_in t) (omega arith)) in
    let on = chain_on d (rooms_text (take i (rows_in t))) (room_text (get_or (rows_in t) i no_row)) (room_bytes * i) room_bytes (omega arith) size in
    let text : rooms_text (take (i + 1) (rows_in t)) ≡ rooms_text (take i (rows_in t)) ++ room_text (get_or (rows_in t) i no_row) =
    ap (λ (k : ℕ). rooms_text (take k (rows_in t))) (add-one i) ∙ ap rooms_text (take_last (rows_in t) i no_row l) ∙ rooms_last (take i (rows_in t)) (get_or (rows_in t) i no_row) in
    let n : room_bytes * i + room_bytes ≡ room_bytes * (i + 1) = omega arith in
    on ∙ ap (λ (x : List ℕ). paste d 0 x (room_bytes * i + room_bytes)) (sym text) ∙ ap (λ (k : ℕ). paste d 0 (rooms_text (take (i + 1) (rows_in t))) k) n

-- ---- the line of a refusal

pub refused_written : (d : List ℕ) (n : ℕ) → n ≡ malformed_number → 4 ≤ length d → text_put (plain_put d 0 3 n) 3 (10 ∷ []) ≡ paste d 0 refused_text 4
refused_written d n m h =
    let g : Grown d 0 (plain_put d 0 3 n) (column 3 malformed_number) 3 = record { is = ap (plain_put d 0 3) m ∙ plain_put_lem d 0 3 malformed_number (omega arith) refl; long = length_marked 32 3 malformed_number } in
    (more d 0 _ _ 3 1 g (omega arith) _ (10 ∷ []) refl (text_put_lem _ 3 (10 ∷ []) (room d 0 _ _ 3 1 g (omega arith)))).is

-- ---- a whole text

pub count_rows : (t : List ℕ) → length (rows_in t) ≡ length t / row_bytes
unfolding rows_in
count_rows t = length-rows (length t / row_bytes) t

pub few_rows : (t : List ℕ) → is_listing t ≡ true → length t / row_bytes ≤ 64
few_rows t h = omega (arith, count_rows t, rows_few t h)
