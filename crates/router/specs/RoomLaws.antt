-- What a router may count on of a room. After every list of calls and loads from a fresh gate it is that of the history's row (`room_demand`); it is told exactly where
-- there is a maximum (`no_maximum`, `a_maximum`); memory that is not sound is answered by 1 (`room_damaged`); a refusal writes no word (`room_kept`).
-- `room_is` and `room_lets_in` in rows/specs/Room.antt say what its number means. Assumes nothing.
use Rattle.std.specs.Prelude.{ℕ, ◌<◌, ◌≡◌, refl, ◌≢◌, true, false, not, List, leb, ltb, length, Some, None}
use Rattle.std.proofs.Math.Path.{ap}
use Rattle.std.proofs.Common.{◌∙◌}
use Rattle.std.proofs.lemmas.Bool.{false≢true}
use Rattle.rules.specs.Tests.{pick, both}
use Rattle.rules.specs.Limits.{top_quota}
use Rattle.rules.specs.Orders.{shanghai}
use Rattle.rules.specs.Quotas.{is_none}
use Rattle.rules.specs.Refusals.{unsound_number, no_maximum_number, short_buffer_number, unless_refused}
use Rattle.rules.specs.Laws.{where_refused, where_accepted}
use Rattle.rules.specs.declared.money.Millions.{Millions}
use Rattle.rules.specs.Money.{Limit}
use Rattle.history.specs.Past.{History, at_opening}
use Rattle.history.specs.Runs.{Entry, after_all}
use Rattle.words.specs.Words.{splice}
use Rattle.claim.specs.Step.{Memory}
use Rattle.claim.specs.Opening.{places_lent, open_refusal}
use Rattle.claim.specs.Demand.{run_all, opened}
use Rattle.rows.specs.Row.{limits_kept, at_most, row_kept, row_refusal, row_of, row_of_kept}
use Rattle.rows.specs.Kept.{ruled}
use Rattle.rows.specs.Room.{room_by, room_of}
use Rattle.rows.specs.declared.Row.{Row}
use Rattle.rows.specs.Row.{RowRead}
use Rattle.gate_listing.specs.Claim.{history_row}
use Rattle.router.specs.Rooms.{room_length, room_words, left_refusal, left_put, read_refusal, room_refusal, room_put}
use Rattle.router.specs.Rows.{ReadAs, row_read_lem}
use Rattle.router.specs.Safe.{is_whole}

-- the row that a router is handed for the group
abbrev row_read : Memory → ℕ → RowRead
row_read m group = row_of m.register m.book m.places group

-- a row that was read is not refused again
left_decides : (m : Memory) (group lent : ℕ) → (row_read m group).refusal ≡ 0 → room_refusal m group lent ≡ left_refusal (room_of (row_read m group).row) lent
unfolding room_refusal
left_decides m group lent z = where_accepted (left_refusal (room_of (row_read m group).row) lent) (row_read m group).refusal (row_read m group).refusal z

-- the room of group g, by the history
pub record RoomAs (h : History) (m : Memory) (g : ℕ) : Type 0 where
  pub refusal : (lent : ℕ) → room_refusal m g lent ≡ left_refusal (room_of (history_row h g)) lent
  pub room : (out : List ℕ) → room_put m g out ≡ left_put (room_of (history_row h g)) out

-- the claim
abbrev pub RoomDemand : Type 0
RoomDemand = (lent : Memory) → open_refusal lent ≡ 0 → (es : List Entry) (g : ℕ) → g < length (after_all (places_lent lent) shanghai at_opening es).groups
    → RoomAs (after_all (places_lent lent) shanghai at_opening es) (run_all shanghai (opened lent) es) g

module _ (h : History) (m : Memory) (g : ℕ) (r : ReadAs m g (history_row h g)) where
  refused_as : (lent : ℕ) → room_refusal m g lent ≡ left_refusal (room_of (history_row h g)) lent
  refused_as lent = left_decides m g lent r.0 ∙ ap (λ (x : Row). left_refusal (room_of x) lent) r.1

  room_as : (out : List ℕ) → room_put m g out ≡ left_put (room_of (history_row h g)) out
  unfolding room_refusal room_put
  room_as out =
      ap (λ (q : ℕ). unless_refused q (splice out 0 (room_words (room_of (row_read m g).row))) out) (refused_as (length out))
      ∙ ap (λ (x : Row). unless_refused (left_refusal (room_of (history_row h g)) (length out)) (splice out 0 (room_words (room_of x))) out) r.1

pub room_demand : RoomDemand
room_demand lent o es g l =
    let h : History = after_all (places_lent lent) shanghai at_opening es in
    let m : Memory = run_all shanghai (opened lent) es in
    let r : ReadAs m g (history_row h g) = row_read_lem lent o es g l in
    record { refusal = refused_as h m g r; room = room_as h m g r }

-- ---- where there is one

pub given_by_maximum : (r : Row) → row_kept r ≡ true → (room_of r).given ≡ not (is_none r.maximum)
unfolding room_of
given_by_maximum r k = go r.maximum r.own (ruled r k).limits
  where
    go : (maximum own : Limit) → limits_kept maximum own ≡ true → (room_by own r.below r.net).given ≡ not (is_none maximum)
    go None None h = refl
    go None (Some q) h = absurd (false≢true h)
    go (Some m) None h = absurd (false≢true (both (leb m.0 top_quota) (at_most None m) h).1)
    go (Some m) (Some q) h = refl

module _ (m : Memory) (group lent : ℕ) (z : (row_read m group).refusal ≡ 0) where
  given : (room_of (row_read m group).row).given ≡ not (is_none (row_read m group).row.maximum)
  given = given_by_maximum (row_read m group).row (row_of_kept m.register m.book m.places group z)

  -- "15: maximum is none" (Refusal list)
  pub no_maximum : (row_read m group).row.maximum ≡ None → room_refusal m group lent ≡ no_maximum_number
  no_maximum n = left_decides m group lent z ∙ rw (given ∙ ap (λ (x : Limit). not (is_none x)) n)

  pub a_maximum : (quota : Millions) → (row_read m group).row.maximum ≡ Some quota → room_refusal m group lent ≡ pick (ltb lent room_length) short_buffer_number 0
  a_maximum quota n = left_decides m group lent z ∙ rw (given ∙ ap (λ (x : Limit). not (is_none x)) n)

-- ---- damaged memory, and refusals

pub room_damaged : (m : Memory) (group lent : ℕ) → is_whole m ≡ false → room_refusal m group lent ≡ unsound_number
unfolding room_refusal row_of row_refusal
room_damaged m group lent e = rw e

pub room_kept : (m : Memory) (group : ℕ) (out : List ℕ) → room_refusal m group (length out) ≢ 0 → room_put m group out ≡ out
unfolding room_refusal room_put
room_kept m group out n = where_refused (splice out 0 (room_words (room_of (row_read m group).row))) out (read_refusal (row_read m group) (length out)) n
