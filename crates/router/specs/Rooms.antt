-- The room of a group as a router is handed it: own quota − net, in mils, sign and size as two words. What a room is, and that a buy passes exactly where
-- there is one, is in rows/specs/Room.antt.
use Rattle.std.specs.Prelude.{ℕ, not, List, [], ◌∷◌, ltb, length}
use Rattle.rules.specs.Tests.{pick}
use Rattle.rules.specs.Refusals.{no_maximum_number, short_buffer_number, refusal, unless_refused}
use Rattle.words.specs.Words.{splice}
use Rattle.rows.specs.Row.{row_of}
use Rattle.rows.specs.Room.{room_of}
use Rattle.rows.specs.Room.{Room}
use Rattle.rows.specs.Row.{RowRead}
use Rattle.claim.specs.Step.{Memory}

-- a room's words: 1 where it is below 0, and its size
abbrev pub room_length : ℕ
room_length = 2

abbrev pub room_words : Room → List ℕ
room_words room = pick room.left.below 1 0 ∷ room.left.size.0 ∷ []

-- 15 where the maximum is none, so that there is no room to tell; 22 where fewer than 2 words are lent
abbrev pub left_refusal : Room → ℕ → ℕ
left_refusal room lent = refusal ((no_maximum_number, not room.given) ∷ (short_buffer_number, ltb lent room_length) ∷ [])

abbrev pub left_put : Room → List ℕ → List ℕ
left_put room out = unless_refused (left_refusal room (length out)) (splice out 0 (room_words room)) out

-- the row's own refusal comes first: 1, 2, 6
abbrev pub read_refusal : RowRead → ℕ → ℕ
read_refusal read lent = unless_refused read.refusal (left_refusal (room_of read.row) lent) read.refusal

-- every lent word afterwards
abbrev pub read_room : RowRead → List ℕ → List ℕ
read_room read out = unless_refused (read_refusal read (length out)) (splice out 0 (room_words (room_of read.row))) out

unfoldable pub room_refusal : Memory → ℕ → ℕ → ℕ
room_refusal m group lent = read_refusal (row_of m.register m.book m.places group) lent

unfoldable pub room_put : Memory → ℕ → List ℕ → List ℕ
room_put m group out = read_room (row_of m.register m.book m.places group) out
