-- The listing after every list of calls and loads from a fresh gate: its rows are the history's, they keep their rules, and 1 never occurs.
-- Claimed.antt proves it: `listing_demand`.
use Rattle.std.specs.Prelude.{ℕ, zero, suc, ◌*◌, ◌≤◌, ◌≡◌, true, List, [], ◌∷◌, ltb, length}
use Rattle.std.proofs.Math.Seq.{paste}
use Rattle.rules.specs.Tests.{pick}
use Rattle.rules.specs.Quotas.{in_force}
use Rattle.rules.specs.Orders.{shanghai}
use Rattle.rules.specs.Refusals.{short_buffer_number}
use Rattle.history.specs.Past.{History, at_opening, money_of}
use Rattle.history.specs.Past as past
use Rattle.history.specs.Runs.{Entry, after_all}
use Rattle.claim.specs.Step.{Memory}
use Rattle.claim.specs.Opening.{places_lent, open_refusal}
use Rattle.claim.specs.Demand.{run_all, opened}
use Rattle.rows.specs.Row.{signed_net}
use Rattle.rows.specs.declared.Row.{Row}
use Rattle.listing.specs.Text.{listing_text, listing_kept}
use Rattle.gate_listing.specs.Listed.{gate_rows, list_refusal, listed}

-- a group's row by the history: its own quota is the one in force, its money the history's sums, net their difference
unfoldable pub history_row : History → ℕ → Row
history_row h g = record {
  code = (past.group_at h g).code;
  class = (past.group_at h g).class;
  maximum = (past.group_at h g).quota.maximum;
  own = in_force (past.group_at h g).quota;
  money = money_of h g;
  below = (signed_net (money_of h g)).below;
  net = (signed_net (money_of h g)).size;
}

-- "one group in enrolment order": n groups from number i on, and all (Lines and columns)
unfoldable pub history_rows_on : History → ℕ → ℕ → List Row
history_rows_on h i zero = []
history_rows_on h i (suc n) = history_row h i ∷ history_rows_on h (suc i) n

unfoldable pub history_rows : History → List Row
history_rows h = history_rows_on h 0 (length h.groups)

pub record ListedAs (h : History) (m : Memory) : Type 0 where
  -- the gate's rows are the history's
  pub rows : gate_rows m.register m.book ≡ history_rows h
  -- and keep every rule of a listing
  pub kept : listing_kept (history_rows h) ≡ true
  -- a listing is refused for a short buffer alone
  pub refusal : (room : ℕ) → list_refusal m room ≡ pick (ltb room (108 * length h.groups)) short_buffer_number 0
  -- else it is the text of the history's rows, and the buffer keeps its tail
  pub text : (buffer : List ℕ) → 108 * length h.groups ≤ length buffer
      → listed m buffer ≡ paste buffer 0 (listing_text (history_rows h)) (108 * length h.groups)

-- the claim
abbrev pub ListingDemand : Type 0
ListingDemand = (lent : Memory) → open_refusal lent ≡ 0 → (es : List Entry) → ListedAs (after_all (places_lent lent) shanghai at_opening es) (run_all shanghai (opened lent) es)
