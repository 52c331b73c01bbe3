-- The rooms of a listing as text, for people and scripts: a line a row, code 5 columns, class 2, the room left 21, line feed. "-" stands for the room where
-- the maximum is none. A text that is no listing has the one line of its refusal. Not in the papers; the columns are as under "Lines and columns".
use Rattle.std.specs.Prelude.{ℕ, zero, suc, ◌+◌, ◌*◌, ◌≤◌, ◌<◌, ◌≡◌, refl, Bool, true, false, List, [], ◌∷◌, ◌++◌, leb, ltb, length, get_or, take}
use Rattle.std.proofs.Common.{ap, sym, ◌∙◌, append_assoc, append-nil, arith, le-leb, leb-true, length-append}
use Rattle.std.proofs.Math.Seq.{paste}
use Rattle.rules.specs.Tests.{pick, both}
use Rattle.rules.specs.Limits.{most_groups, top_quota, mils_aMillion, top_money}
use Rattle.rules.specs.Refusals.{malformed_number}
use Rattle.columns.specs.Column.{marked, column, signed_text, optional_text, signed_fits, optional_put, signed_put}
use Rattle.columns.specs.Laws.{true_fits, length_marked, length_optional, length-signed}
use Rattle.rows.specs.Row.{row_kept}
use Rattle.rows.specs.Room.{room_of, room_small, room_sized}
use Rattle.rows.specs.declared.Row.{Row}
use Rattle.rows.specs.Room.{Room}
use Rattle.listing.specs.Text.{is_listing, rows_in, rows_kept, fresh, listing_kept}
use Rattle.listing.specs.Laws.{listing_only}

-- bytes of a line, and of the most that a listing gives
abbrev pub room_bytes : ℕ
room_bytes = 29

abbrev pub most_room_bytes : ℕ
most_room_bytes = 1_856

-- the room in 21 columns, signed, or "-"
abbrev pub left_text : Room → List ℕ
left_text room = pick room.given (signed_text 21 room.left.below room.left.size.0) (optional_text 21 false 0)

unfoldable pub room_text : Row → List ℕ
room_text r = column 5 r.code ++ column 2 r.class ++ left_text (room_of r) ++ (10 ∷ [])

unfoldable pub rooms_text : List Row → List ℕ
rooms_text [] = []
rooms_text (r ∷ rs) = room_text r ++ rooms_text rs

-- " 21" and a line feed
abbrev pub refused_text : List ℕ
refused_text = column 3 malformed_number ++ (10 ∷ [])

-- what is written for a text
unfoldable pub rooms_of : List ℕ → List ℕ
rooms_of t = pick (is_listing t) (rooms_text (rows_in t)) refused_text

-- into a buffer, from its start; nothing where it has fewer bytes than 64 rows want
unfoldable pub rooms_put : List ℕ → List ℕ → List ℕ
rooms_put t out = pick (ltb (length out) most_room_bytes) out (paste out 0 (rooms_of t) (length (rooms_of t)))

unfoldable pub rooms_length : List ℕ → ℕ → ℕ
rooms_length t room = pick (ltb room most_room_bytes) 0 (length (rooms_of t))

-- the room put into its columns
abbrev pub left_put : List ℕ → ℕ → Room → List ℕ
left_put d at room = pick room.given (signed_put d at 21 room.left.below room.left.size.0) (optional_put d at 21 false 0)

-- laws

-- every room fits its columns
pub left_fits : (r : Row) → signed_fits 21 (room_of r).left.below (room_of r).left.size.0 ≡ true
left_fits r = go (room_of r).left.below (room_sized r)
  where
    small : (room_of r).left.size.0 ≤ top_quota * mils_aMillion + top_money
    small = room_small r

    go : (below : Bool) → (below ≡ true → 1 ≤ (room_of r).left.size.0) → signed_fits 21 below (room_of r).left.size.0 ≡ true
    go true s = rw (le-leb 1 (room_of r).left.size.0 (s refl)) (true_fits 20 (room_of r).left.size.0 (omega arith) (omega (arith, small)))
    go false s = true_fits 21 (room_of r).left.size.0 (omega arith) (omega (arith, small))

length_left : (room : Room) → length (left_text room) ≡ 21
length_left room = go room.given
  where
    go : (b : Bool) → length (pick b (signed_text 21 room.left.below room.left.size.0) (optional_text 21 false 0)) ≡ 21
    go true = length-signed 21 room.left.below room.left.size.0
    go false = length_optional 21 false 0

pub length-room : (r : Row) → length (room_text r) ≡ room_bytes
unfolding room_text marked
length-room r =
    rw (
      length-append (column 5 r.code) (column 2 r.class ++ left_text (room_of r) ++ (10 ∷ [])),
      length-append (column 2 r.class) (left_text (room_of r) ++ (10 ∷ [])),
      length-append (left_text (room_of r)) (10 ∷ []),
      length_marked 32 5 r.code,
      length_marked 32 2 r.class,
      length_left (room_of r),
    )

pub length_rooms : (rs : List Row) → length (rooms_text rs) ≡ room_bytes * length rs
unfolding rooms_text
length_rooms [] = refl
length_rooms (r ∷ rs) = rw (length-append (room_text r) (rooms_text rs), length-room r, length_rooms rs) (omega arith)

-- one row more
pub rooms_last : (rs : List Row) (r : Row) → rooms_text (rs ++ (r ∷ [])) ≡ rooms_text rs ++ room_text r
unfolding rooms_text
rooms_last [] r = append-nil (room_text r)
rooms_last (s ∷ rs) r = ap (λ (x : List ℕ). room_text s ++ x) (rooms_last rs r) ∙ sym (append_assoc (room_text s) (rooms_text rs) (room_text r))

pub take_last : (rs : List Row) (i : ℕ) (d : Row) → i < length rs → take (suc i) rs ≡ take i rs ++ (get_or rs i d ∷ [])
take_last [] i d h = absurd (omega arith)
take_last (r ∷ rs) zero d h = refl
take_last (r ∷ rs) (suc i) d h = ap (λ (x : List Row). r ∷ x) (take_last rs i d (omega arith))

-- each row of a listing keeps its rules
kept_at : (rs : List Row) (i : ℕ) (d : Row) → rows_kept rs ≡ true → i < length rs → row_kept (get_or rs i d) ≡ true
unfolding rows_kept
kept_at [] i d k h = absurd (omega arith)
kept_at (r ∷ rs) zero d k h = (both (row_kept r) _ k).0
kept_at (r ∷ rs) (suc i) d k h = kept_at rs i d (both (fresh r rs) (rows_kept rs) (both (row_kept r) _ k).1).1 (omega arith)

pub row_keeps : (t : List ℕ) (i : ℕ) (d : Row) → is_listing t ≡ true → i < length (rows_in t) → row_kept (get_or (rows_in t) i d) ≡ true
unfolding listing_kept
row_keeps t i d h l = kept_at (rows_in t) i d (both (leb (length (rows_in t)) most_groups) (rows_kept (rows_in t)) (listing_only t h).1).1 l

-- at most 64 rows, so at most 1,856 bytes
pub rows_few : (t : List ℕ) → is_listing t ≡ true → length (rows_in t) ≤ most_groups
unfolding listing_kept
rows_few t h = leb-true (length (rows_in t)) most_groups (both (leb (length (rows_in t)) most_groups) (rows_kept (rows_in t)) (listing_only t h).1).0
