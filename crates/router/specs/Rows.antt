-- The rows that a router is handed after every list of calls and loads from a fresh gate: they are the history's, and only a short room is refused.
-- Assumes nothing.
use Rattle.std.specs.Prelude.{ℕ, zero, suc, ◌+◌, ◌≤◌, ◌<◌, ◌≡◌, refl, Bool, true, false, ◌&&◌, leb, ltb, length}
use Rattle.std.proofs.Math.Path.{sym, ap}
use Rattle.std.proofs.Common.{◌∙◌}
use Rattle.std.proofs.lemmas.Bool.{false≢true}
use mathlib.Core.List.{List, [], ◌∷◌}
use native.Mathlib.Omega.{arith}
use borrow.Author.Tests.{le-leb, lt-ltb, le-ltb, leb-true}
use Rattle.std.proofs.Math.ListN.{get_or}
use Rattle.rules.specs.Tests.{pick, both}
use Rattle.rules.specs.Orders.{shanghai}
use Rattle.rules.specs.Refusals.{unsound_number, short_buffer_number}
use Rattle.rules.specs.Laws.{where_accepted}
use Rattle.rules.specs.declared.kinds.Money.{Money}
use Rattle.rules.specs.Money.{Limit}
use Rattle.history.specs.Past.{History, at_opening}
use Rattle.history.specs.Runs.{Entry, after_all}
use Rattle.words.specs.Words.{splice}
use Rattle.register.specs.Layout.{group_count, group_at}
use Rattle.quota.specs.Asks.{groups_enrolled, is_enrolled, own_in_force}
use Rattle.book.specs.Layout.{money_at}
use Rattle.claim.specs.Step.{Memory}
use Rattle.claim.specs.Opening.{places_lent, open_refusal}
use Rattle.claim.specs.Demand.{run_all, opened}
use Rattle.claim.specs.Theorem.{Sim}
use Rattle.claim.proofs.Theorem.{all_sim, opened_sim, demand}
use Rattle.orders.specs.Host.{host_ok}
use Rattle.rows.specs.Row.{row_obeys, row_kept, no_row, refused_row, made_row, shown_row, row_refusal, row_at, row_of}
use Rattle.rows.specs.declared.Row.{Row}
use Rattle.rows.specs.Row.{RowRead}
use Rattle.listing.specs.Text.{fresh, rows_kept, listing_kept}
use Rattle.gate_listing.specs.Listed.{rows_on, gate_rows}
use Rattle.gate_listing.specs.Claim.{history_row, history_rows_on, history_rows, ListedAs}
use Rattle.gate_listing.specs.Claimed.{listing_demand}
use Rattle.router.specs.Handed.{row_length, row_words, handed_refusal, handed_row}

-- the row of group g, by the history
pub record HandedAs (h : History) (m : Memory) (g : ℕ) : Type 0 where
  pub refusal : (room : ℕ) → handed_refusal m g room ≡ pick (ltb room row_length) short_buffer_number 0
  pub row : (out : List ℕ) → row_length ≤ length out → handed_row m g out ≡ splice out 0 (row_words (history_row h g))

-- the claim
abbrev pub RowDemand : Type 0
RowDemand = (lent : Memory) → open_refusal lent ≡ 0 → (es : List Entry) (g : ℕ) → g < length (after_all (places_lent lent) shanghai at_opening es).groups
    → HandedAs (after_all (places_lent lent) shanghai at_opening es) (run_all shanghai (opened lent) es) g

-- row k of a list of rows

gate_at : (rs bs : List ℕ) (i n k : ℕ) → k < n → get_or (rows_on rs bs i n) k no_row ≡ (row_at rs bs (i + k)).row
unfolding rows_on
gate_at rs bs i zero k l = absurd (omega arith)
gate_at rs bs i (suc n) zero l = let e : i ≡ i + 0 = omega arith in ap (λ (x : ℕ). (row_at rs bs x).row) e
gate_at rs bs i (suc n) (suc k) l = let e : suc i + k ≡ i + suc k = omega arith in gate_at rs bs (suc i) n k (omega arith) ∙ ap (λ (x : ℕ). (row_at rs bs x).row) e

gate_length : (rs bs : List ℕ) (i n : ℕ) → length (rows_on rs bs i n) ≡ n
unfolding rows_on
gate_length rs bs i zero = refl
gate_length rs bs i (suc n) = ap suc (gate_length rs bs (suc i) n)

history_at : (h : History) (i n k : ℕ) → k < n → get_or (history_rows_on h i n) k no_row ≡ history_row h (i + k)
unfolding history_rows_on
history_at h i zero k l = absurd (omega arith)
history_at h i (suc n) zero l = let e : i ≡ i + 0 = omega arith in ap (history_row h) e
history_at h i (suc n) (suc k) l = let e : suc i + k ≡ i + suc k = omega arith in history_at h (suc i) n k (omega arith) ∙ ap (history_row h) e

kept_at : (rows : List Row) (k : ℕ) → k < length rows → rows_kept rows ≡ true → row_kept (get_or rows k no_row) ≡ true
unfolding rows_kept
kept_at [] k l e = absurd (omega arith)
kept_at (r ∷ rows) zero l e = (both (row_kept r) (fresh r rows && rows_kept rows) e).0
kept_at (r ∷ rows) (suc k) l e =
    kept_at rows k (omega arith) (both (fresh r rows) (rows_kept rows) (both (row_kept r) (fresh r rows && rows_kept rows) e).1).1

-- no row keeps no rules, so a row that does is not refused
none_kept : row_kept no_row ≡ false
unfolding row_kept row_obeys
none_kept = refl

kept_shown : (code class : ℕ) (maximum own : Limit) (money : Money) → row_kept (shown_row code class maximum own money).row ≡ true → (shown_row code class maximum own money).refusal ≡ 0
unfolding shown_row
kept_shown code class maximum own money e = go (row_obeys code class maximum own money) e
  where
    go : (b : Bool) → row_kept (pick b (made_row code class maximum own money) (refused_row unsound_number)).row ≡ true → (pick b (made_row code class maximum own money) (refused_row unsound_number)).refusal ≡ 0
    go true k = refl
    go false k = absurd (false≢true (sym none_kept ∙ k))

kept_clear : (rs bs : List ℕ) (g : ℕ) → row_kept (row_at rs bs g).row ≡ true → (row_at rs bs g).refusal ≡ 0
unfolding row_at
kept_clear rs bs g e = kept_shown (group_at rs g).code (group_at rs g).class (group_at rs g).quota.maximum (own_in_force rs g) (money_at bs g) e

-- a row that is read without refusal is handed out
module _ (m : Memory) (g : ℕ) (r : Row) (z : (row_of m.register m.book m.places g).refusal ≡ 0) (e : (row_of m.register m.book m.places g).row ≡ r) where
  pub room_decides : (room : ℕ) → handed_refusal m g room ≡ pick (ltb room row_length) short_buffer_number 0
  unfolding handed_refusal
  room_decides room = where_accepted (pick (ltb room row_length) short_buffer_number 0) (row_of m.register m.book m.places g).refusal (row_of m.register m.book m.places g).refusal z

  pub row_decides : (out : List ℕ) → row_length ≤ length out → handed_row m g out ≡ splice out 0 (row_words r)
  unfolding handed_row
  row_decides out l =
      let s : pick (ltb (length out) row_length) short_buffer_number 0 ≡ 0 = rw (le-ltb (length out) 9 l) in
      where_accepted (splice out 0 (row_words (row_of m.register m.book m.places g).row)) out (handed_refusal m g (length out)) (room_decides (length out) ∙ s)
      ∙ ap (λ (x : Row). splice out 0 (row_words x)) e

-- a gate whose rows can be listed hands each of them out
module _ (m : Memory) (host : host_ok m.register m.book m.places ≡ true) (k : listing_kept (gate_rows m.register m.book) ≡ true) where
  pub rows_long : length (gate_rows m.register m.book) ≡ groups_enrolled m.register
  unfolding gate_rows
  rows_long = gate_length m.register m.book 0 (groups_enrolled m.register)

  all_kept : (length (gate_rows m.register m.book) ≤ 64) × (rows_kept (gate_rows m.register m.book) ≡ true)
  unfolding listing_kept
  all_kept =
      let b = both (leb (length (gate_rows m.register m.book)) 64) (rows_kept (gate_rows m.register m.book)) k in
      (leb-true (length (gate_rows m.register m.book)) 64 b.0, b.1)

  module _ (g : ℕ) (l : g < groups_enrolled m.register) where
    same_row : (row_at m.register m.book g).row ≡ get_or (gate_rows m.register m.book) g no_row
    unfolding gate_rows
    same_row =
        let z : 0 + g ≡ g = omega arith in
        ap (λ (x : ℕ). (row_at m.register m.book x).row) (sym z) ∙ sym (gate_at m.register m.book 0 (groups_enrolled m.register) g l)

    row_kept_lem : row_kept (row_at m.register m.book g).row ≡ true
    row_kept_lem = ap row_kept same_row ∙ kept_at (gate_rows m.register m.book) g (omega (arith, l, rows_long)) all_kept.1

    none_refuses : row_refusal m.register m.book m.places g ≡ 0
    unfolding row_refusal is_enrolled groups_enrolled
    none_refuses = rw (host, le-leb g 63 (omega (arith, l, rows_long, all_kept.0)), lt-ltb g (group_count m.register) l)

    read : row_of m.register m.book m.places g ≡ row_at m.register m.book g
    unfolding row_of
    read = where_accepted (row_at m.register m.book g) (refused_row (row_refusal m.register m.book m.places g)) (row_refusal m.register m.book m.places g) none_refuses

    pub row_reads : ((row_of m.register m.book m.places g).refusal ≡ 0) × ((row_of m.register m.book m.places g).row ≡ get_or (gate_rows m.register m.book) g no_row)
    row_reads = (ap (λ (x : RowRead). x.refusal) read ∙ kept_clear m.register m.book g row_kept_lem, ap (λ (x : RowRead). x.row) read ∙ same_row)

-- what a row of a gate is read as
abbrev pub ReadAs : Memory → ℕ → Row → Type 0
ReadAs m g r = ((row_of m.register m.book m.places g).refusal ≡ 0) × ((row_of m.register m.book m.places g).row ≡ r)

module _ (N : ℕ) (h : History) (m : Memory) (s : Sim N h m) (count : group_count m.register ≡ length h.groups) (d : ListedAs h m) (g : ℕ) (l : g < length h.groups) where
  enrolled : groups_enrolled m.register ≡ length h.groups
  unfolding groups_enrolled
  enrolled = count

  read_as : ReadAs m g (history_row h g)
  unfolding history_rows
  read_as =
      let z : 0 + g ≡ g = omega arith in
      let r = row_reads m s.host (ap listing_kept d.rows ∙ d.kept) g (omega (arith, l, enrolled)) in
      (r.0, r.1 ∙ ap (λ (x : List Row). get_or x g no_row) d.rows ∙ history_at h 0 (length h.groups) g l ∙ ap (history_row h) z)

-- after every list of calls and loads from a fresh gate a row is read, and is the history's
pub row_read_lem : (lent : Memory) → open_refusal lent ≡ 0 → (es : List Entry) (g : ℕ) → g < length (after_all (places_lent lent) shanghai at_opening es).groups
    → ReadAs (run_all shanghai (opened lent) es) g (history_row (after_all (places_lent lent) shanghai at_opening es) g)
row_read_lem lent o es g l =
    read_as (places_lent lent) (after_all (places_lent lent) shanghai at_opening es) (run_all shanghai (opened lent) es)
    (all_sim (places_lent lent) shanghai es at_opening (opened lent) (opened_sim lent o))
    (demand lent o es).either_market.same-groups
    (listing_demand lent o es)
    g
    l

pub row_demand : RowDemand
row_demand lent o es g l =
    let r = row_read_lem lent o es g l in
    let m : Memory = run_all shanghai (opened lent) es in
    let row : Row = history_row (after_all (places_lent lent) shanghai at_opening es) g in
    record { refusal = room_decides m g row r.0 r.1; row = row_decides m g row r.0 r.1 }
