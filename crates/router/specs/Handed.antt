-- What a router is handed beside a call's answer: the length of a listing, and a row as plain numbers. All else that the router's functions
-- promise is defined in the crates below.
use Rattle.std.specs.Prelude.{ℕ, ◌*◌, List, [], ◌∷◌, ltb, length, Some, None}
use Rattle.rules.specs.Tests.{pick}
use Rattle.rules.specs.Refusals.{short_buffer_number, unless_refused}
use Rattle.rules.specs.Money.{Limit}
use Rattle.words.specs.Words.{splice}
use Rattle.quota.specs.Asks.{groups_enrolled}
use Rattle.rows.specs.Row.{row_of}
use Rattle.rows.specs.declared.Row.{Row}
use Rattle.gate_listing.specs.Listed.{list_refusal}
use Rattle.listing.specs.Text.{row_bytes}
use Rattle.claim.specs.Step.{Memory}

-- a listing's bytes, "108 bytes a group"; none where it is refused (Refusal list)
unfoldable pub listed_bytes : Memory → ℕ → ℕ
listed_bytes m room = unless_refused (list_refusal m room) (row_bytes * groups_enrolled m.register) 0

-- "-" as a word: no quota reaches it
abbrev pub dash : ℕ
dash = 18_446_744_073_709_551_615

abbrev pub limit_word : Limit → ℕ
limit_word None = dash
limit_word (Some quota) = quota.0

-- a row's words, in the order of a listing's columns: code, class, maximum, own quota, net (1 where it is below 0, and its size), open buys,
-- bought, sold
abbrev pub row_length : ℕ
row_length = 9

unfoldable pub row_words : Row → List ℕ
row_words r =
    r.code ∷ r.class ∷ limit_word r.maximum ∷ limit_word r.own ∷ pick r.below 1 0 ∷ r.net.0
    ∷ r.money.«open».0 ∷ r.money.bought.0 ∷ r.money.sold.0 ∷ []

-- the row's own refusal; else 22 where fewer than 9 words are lent, as for a listing's buffer
unfoldable pub handed_refusal : Memory → ℕ → ℕ → ℕ
handed_refusal m group room =
    unless_refused (row_of m.register m.book m.places group).refusal
    (pick (ltb room row_length) short_buffer_number 0)
    (row_of m.register m.book m.places group).refusal

-- every lent word afterwards: "a longer one keeps its tail" (Refusal list)
unfoldable pub handed_row : Memory → ℕ → List ℕ → List ℕ
handed_row m group out = unless_refused (handed_refusal m group (length out)) (splice out 0 (row_words (row_of m.register m.book m.places group).row)) out
