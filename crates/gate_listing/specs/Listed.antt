-- The gate's listing: "one group in enrolment order", into a lent buffer. 1 where the gate's memory is not sound or "a row would break its rules"; 22
-- where the buffer is "shorter than 108 bytes a group; a longer one keeps its tail". A refusal writes no byte. (Lines and columns; Refusal list)
use Rattle.std.specs.Prelude.{ℕ, zero, suc, ◌*◌, not, ◌&&◌, List, [], ◌∷◌, ltb, length}
use Rattle.std.proofs.Math.Seq.{paste}
use Rattle.rules.specs.Refusals.{unsound_number, short_buffer_number, refusal, unless_refused}
use Rattle.quota.specs.Asks.{groups_enrolled}
use Rattle.orders.specs.Host.{host_ok}
use Rattle.rows.specs.Row.{row_at}
use Rattle.rows.specs.declared.Row.{Row}
use Rattle.listing.specs.Text.{listing_text, listing_kept, row_bytes}
use Rattle.claim.specs.Step.{Memory}

-- the rows of n groups from number i on
unfoldable pub rows_on : List ℕ → List ℕ → ℕ → ℕ → List Row
rows_on rs bs i zero = []
rows_on rs bs i (suc n) = (row_at rs bs i).row ∷ rows_on rs bs (suc i) n

-- the gate's rows
unfoldable pub gate_rows : List ℕ → List ℕ → List Row
gate_rows rs bs = rows_on rs bs 0 (groups_enrolled rs)

unfoldable pub list_refusal : Memory → ℕ → ℕ
list_refusal m room =
    refusal (
    (unsound_number, not (host_ok m.register m.book m.places && listing_kept (gate_rows m.register m.book)))
    ∷ (short_buffer_number, ltb room (row_bytes * groups_enrolled m.register))
    ∷ []
    )

-- every byte of the buffer afterwards
unfoldable pub listed : Memory → List ℕ → List ℕ
listed m buffer =
    unless_refused (list_refusal m (length buffer))
    (paste buffer 0 (listing_text (gate_rows m.register m.book)) (row_bytes * groups_enrolled m.register))
    buffer
