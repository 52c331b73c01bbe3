-- The proof of the claim about listings. Assumes nothing.
use Prim.Native.Nat.{ℕ, zero, suc, ◌+◌, ◌*◌, ◌≤◌, ◌<◌}
use Rattle.std.specs.Prelude.{◌≡◌, Bool, false, ◌&&◌, eqb, ltb, Some, None}
use Rattle.std.proofs.Math.Path.{refl, ap}
use Rattle.std.proofs.Common.{sym, ◌∙◌, arith}
use Rattle.std.proofs.Math.Bool.{true}
use mathlib.Core.List.{List, ◌∷◌}
use borrow.Author.Tests.{le-leb, le-ltb, eqb-true}
use Rattle.std.proofs.Math.ListN.{length}
use Rattle.std.proofs.Math.Seq.{paste}
use Rattle.rules.specs.Tests.{pick, both}
use Rattle.rules.specs.Limits.{top_quota}
use Rattle.rules.specs.Quotas.{own_under, in_force}
use Rattle.rules.specs.Orders.{shanghai}
use Rattle.rules.specs.Laws.{where_accepted}
use Rattle.rules.specs.Money.{Limit}
use Rattle.rules.specs.declared.calls.Call.{Call}
use Rattle.history.specs.Past.{History, at_opening, money_of}
use Rattle.history.specs.Past as past
use Rattle.history.specs.Runs.{after, after_all}
use Rattle.register.specs.Layout.{group_count, group_at}
use Rattle.register.specs.Records.{LimitFits}
use Rattle.register.proofs.Sound.{group_sound, register_known}
use Rattle.quota.specs.Asks.{is_sound, groups_enrolled, own_in_force}
use Rattle.quota.specs.Rows.{OwnWithin, distinct_groups}
use Rattle.book.specs.Layout.{money_at}
use Rattle.book.specs.Check.{book_ok}
use Rattle.book.specs.Known.{book_known}
use Rattle.orders.specs.Booking.{money_fits}
use Rattle.orders.specs.Host.{host_ok}
use Rattle.claim.specs.Step.{Memory}
use Rattle.claim.specs.Opening.{places_lent, open_refusal}
use Rattle.claim.specs.Demand.{run, run_all, opened, RowIs}
use Rattle.claim.specs.QuotaSim.{group_counts}
use Rattle.claim.specs.OrderSums.{money-fits}
use Rattle.claim.specs.Theorem.{Sim, row_is_lem}
use Rattle.claim.proofs.Theorem.{run_sim, all_sim, opened_sim}
use Rattle.rows.specs.Row.{limits_kept, row_obeys, row_kept, made_row, shown_row, row_at, shown_kept}
use Rattle.rows.specs.declared.Row.{Row}
use Rattle.rows.specs.Row.{RowRead}
use Rattle.listing.specs.Text.{listing_text, same_key, fresh, rows_kept, listing_kept, row_bytes}
use Rattle.gate_listing.specs.Listed.{rows_on, gate_rows, list_refusal, listed}
use Rattle.gate_listing.specs.Claim.{history_row, history_rows_on, history_rows, ListedAs, ListingDemand}

-- maximum and own quota of a group as calls leave it
limits_kept_lem : (m o : Limit) → LimitFits m → OwnWithin m o → limits_kept m (own_under m o) ≡ true
limits_kept_lem None o f w = refl
limits_kept_lem (Some maximum) None f w = rw (le-leb maximum.0 top_quota f, le-leb maximum.0 maximum.0 (omega arith))
limits_kept_lem (Some maximum) (Some own) f w = rw (le-leb maximum.0 top_quota f, le-leb own.0 maximum.0 w)

-- a history has a row for each group
pub history_length : (h : History) (i n : ℕ) → length (history_rows_on h i n) ≡ n
unfolding history_rows_on
history_length h i zero = refl
history_length h i (suc n) = ap suc (history_length h (suc i) n)

module _ (N : ℕ) (h : History) (m : Memory) (s : Sim N h m) where
  count : group_count m.register ≡ length h.groups
  count = group_counts h m.register s.quota

  orders_few : length h.orders ≤ 65_536
  unfolding host_ok
  orders_few =
      let b = book_known m.book m.places (groups_enrolled m.register) (both (is_sound m.register) (book_ok m.book m.places (groups_enrolled m.register)) s.host).1 in
      omega (arith, b.places-high, b.accepted_most, s.order.accepted)

  obeys : (g : ℕ) → g < group_count m.register
      → row_obeys (group_at m.register g).code (group_at m.register g).class (group_at m.register g).quota.maximum (own_in_force m.register g) (money_at m.book g) ≡ true
  unfolding row_obeys own_in_force
  obeys g l =
      let r = group_sound m.register g s.quota.sound l in
      let p = s.quota.proper g l in
      let fits : money_fits (money_at m.book g) ≡ true = ap money_fits (s.order.money g) ∙ money-fits (length h.groups) h s.order.known orders_few (past.in_group g) in
      let kept : limits_kept (group_at m.register g).quota.maximum (in_force (group_at m.register g).quota) ≡ true =
      limits_kept_lem (group_at m.register g).quota.maximum (group_at m.register g).quota.own r.maximum p.own-within in
      rw (
        le-leb (group_at m.register g).code 99_999 r.code,
        le-leb 1 (group_at m.register g).class r.class_low,
        le-leb (group_at m.register g).class 4 r.class_high,
        p.controlled,
        kept,
        fits,
      )

  -- the row is shown, and is the history's
  row_made : (g : ℕ) → g < group_count m.register
      → row_at m.register m.book g ≡ made_row (group_at m.register g).code (group_at m.register g).class (group_at m.register g).quota.maximum (own_in_force m.register g) (money_at m.book g)
  unfolding row_at shown_row
  row_made g l = rw (obeys g l) refl

  row_same : (g : ℕ) → g < group_count m.register → (row_at m.register m.book g).row ≡ history_row h g
  unfolding history_row
  row_same g l =
      let i : RowIs h m g = row_is_lem N h m s g (omega (arith, count)) in
      ap (λ (x : RowRead). x.row) (row_made g l) ∙ rw (i.code, i.class, i.maximum, i.own, i.money) refl

  rows_same : (i n : ℕ) → i + n ≤ group_count m.register → rows_on m.register m.book i n ≡ history_rows_on h i n
  unfolding rows_on history_rows_on
  rows_same i zero l = refl
  rows_same i (suc n) l =
      ap (λ (r : Row). r ∷ rows_on m.register m.book (suc i) n) (row_same i (omega arith))
      ∙ ap (λ (t : List Row). history_row h i ∷ t) (rows_same (suc i) n (omega arith))

  row_kept_lem : (g : ℕ) → g < group_count m.register → row_kept (row_at m.register m.book g).row ≡ true
  unfolding row_at
  row_kept_lem g l =
      let z : (shown_row (group_at m.register g).code (group_at m.register g).class (group_at m.register g).quota.maximum (own_in_force m.register g) (money_at m.book g)).refusal ≡ 0 = ap (λ (x : RowRead). x.refusal) (row_made g l) in
      shown_kept (group_at m.register g).code (group_at m.register g).class (group_at m.register g).quota.maximum (own_in_force m.register g) (money_at m.book g) z

  -- no code with its class twice
  other_key : (i j : ℕ) → i < j → j < group_count m.register → same_key (row_at m.register m.book i).row (row_at m.register m.book j).row ≡ false
  other_key i j o l =
      let a = ap (λ (x : RowRead). x.row) (row_made i (omega arith)) in
      let b = ap (λ (x : RowRead). x.row) (row_made j l) in
      ap (λ (x : Row). same_key x (row_at m.register m.book j).row) a
      ∙ ap (same_key (made_row (group_at m.register i).code (group_at m.register i).class (group_at m.register i).quota.maximum (own_in_force m.register i) (money_at m.book i)).row) b
      ∙ go (eqb (group_at m.register i).code (group_at m.register j).code) (eqb (group_at m.register i).class (group_at m.register j).class) refl refl
    where
      go : (x y : Bool) → eqb (group_at m.register i).code (group_at m.register j).code ≡ x → eqb (group_at m.register i).class (group_at m.register j).class ≡ y → (x && y) ≡ false
      go true true p q =
          absurd (omega (arith, o, distinct_groups m.register s.quota.distinct i j (omega (arith, o, l)) l (eqb-true (group_at m.register i).code (group_at m.register j).code p) (eqb-true (group_at m.register i).class (group_at m.register j).class q)))
      go true false p q = refl
      go false y p q = refl

  all_fresh : (g i n : ℕ) → g < i → i + n ≤ group_count m.register → fresh (row_at m.register m.book g).row (rows_on m.register m.book i n) ≡ true
  unfolding fresh rows_on
  all_fresh g i zero o l = refl
  all_fresh g i (suc n) o l = rw (other_key g i o (omega arith)) (all_fresh g (suc i) n (omega arith) (omega arith))

  all_kept : (i n : ℕ) → i + n ≤ group_count m.register → rows_kept (rows_on m.register m.book i n) ≡ true
  unfolding rows_kept rows_on
  all_kept i zero l = refl
  all_kept i (suc n) l = rw (row_kept_lem i (omega arith), all_fresh i (suc i) n (omega arith) (omega arith)) (all_kept (suc i) n (omega arith))

  enrolled : groups_enrolled m.register ≡ length h.groups
  unfolding groups_enrolled
  enrolled = count

  rows_are : gate_rows m.register m.book ≡ history_rows h
  unfolding gate_rows history_rows
  rows_are = ap (rows_on m.register m.book 0) enrolled ∙ rows_same 0 (length h.groups) (omega (arith, count))

  listing_kept_lem : listing_kept (gate_rows m.register m.book) ≡ true
  unfolding listing_kept gate_rows
  listing_kept_lem =
      let n : length (rows_on m.register m.book 0 (groups_enrolled m.register)) ≡ length h.groups = ap length (ap (rows_on m.register m.book 0) enrolled ∙ rows_same 0 (length h.groups) (omega (arith, count))) ∙ history_length h 0 (length h.groups) in
      let few : group_count m.register ≤ 64 = (register_known m.register s.quota.sound).1 in
      rw (le-leb (length (rows_on m.register m.book 0 (groups_enrolled m.register))) 64 (omega (arith, n, few, count))) (ap (λ (x : ℕ). rows_kept (rows_on m.register m.book 0 x)) enrolled ∙ all_kept 0 (length h.groups) (omega (arith, count)))

  refused_short : (room : ℕ) → list_refusal m room ≡ pick (ltb room (row_bytes * length h.groups)) 22 0
  unfolding list_refusal
  refused_short room = rw (s.host, listing_kept_lem, enrolled) refl

  listed_text : (buffer : List ℕ) → list_refusal m (length buffer) ≡ 0
      → listed m buffer ≡ paste buffer 0 (listing_text (history_rows h)) (row_bytes * length h.groups)
  unfolding listed
  listed_text buffer z =
      where_accepted (paste buffer 0 (listing_text (gate_rows m.register m.book)) (row_bytes * groups_enrolled m.register)) buffer (list_refusal m (length buffer)) z
      ∙ ap (λ (x : List Row). paste buffer 0 (listing_text x) (row_bytes * groups_enrolled m.register)) rows_are
      ∙ ap (λ (x : ℕ). paste buffer 0 (listing_text (history_rows h)) (row_bytes * x)) enrolled

  pub listed_as : ListedAs h m
  listed_as = record {
    rows = rows_are;
    kept = ap listing_kept (sym rows_are) ∙ listing_kept_lem;
    refusal = refused_short;
    text = λ buffer l. written buffer l;
  }
    where
      written : (buffer : List ℕ) → row_bytes * length h.groups ≤ length buffer → listed m buffer ≡ paste buffer 0 (listing_text (history_rows h)) (row_bytes * length h.groups)
      written buffer l = listed_text buffer (refused_short (length buffer) ∙ rw (le-ltb (length buffer) (row_bytes * length h.groups) l) refl)

pub listing_demand : ListingDemand
listing_demand lent o es =
    listed_as (places_lent lent) (after_all (places_lent lent) shanghai at_opening es) (run_all shanghai (opened lent) es) (all_sim (places_lent lent) shanghai es at_opening (opened lent) (opened_sim lent o))

-- of calls alone
pub listed-calls : (lent : Memory) → open_refusal lent ≡ 0 → (cs : List Call) → ListedAs (after (places_lent lent) shanghai at_opening cs) (run shanghai (opened lent) cs)
listed-calls lent o cs =
    listed_as (places_lent lent) (after (places_lent lent) shanghai at_opening cs) (run shanghai (opened lent) cs) (run_sim (places_lent lent) shanghai cs at_opening (opened lent) (opened_sim lent o))
