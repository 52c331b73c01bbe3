-- Article 16's sum is open + bought − sold after every list: `article_16`, over specs/Tally.antt. Assumes nothing.
-- Here, and not in specs/, so that a wrong definition is refused by the first theorem that it breaks, and not by those that rest on it.
use Prim.Native.Nat.{ℕ, zero, suc, ◌+◌, ◌*◌, ◌-◌, ◌≤◌, ◌<◌}
use Rattle.std.specs.Prelude.{◌≡◌, Bool, not, ◌&&◌, get_or, set}
use Rattle.std.proofs.Math.Path.{refl, ap}
use Rattle.std.proofs.Common.{sym, ◌∙◌, mul-add, add-mul, ltb-false}
use Rattle.std.proofs.Math.Bool.{true, false}
use mathlib.Core.List.{List, [], ◌∷◌, ◌++◌}
use native.Mathlib.Omega.{arith}
use Rattle.std.proofs.lemmas.Bool.{not-false}
use Rattle.std.proofs.Math.IntN.{sub_ℕ}
use Rattle.std.proofs.Math.ListN.{length}
use Rattle.rules.specs.Tests.{within, within_true, both}
use Rattle.rules.specs.Money.{amount}
use Rattle.rules.specs.Orders.{is_buy, is_kind, price_rule, worse_fill, never_dearer, net_of, Rule}
use Rattle.rules.specs.Limits.{is_unit, is_quantity}
use Rattle.rules.specs.Calls.{in_range}
use Rattle.rules.specs.Lists.{order_rules, fill_rules, cancel_rules}
use Rattle.rules.specs.Laws.{clear, order_rises, fill_rises, cancel_rises}
use Rattle.rules.specs.declared.money.Mils.{Mils}
use Rattle.rules.specs.declared.calls.Call.{Call}
use Rattle.rules.specs.declared.calls.Call.TheVariants.{Enrol, Attach, Detach, Regular, Raise, Withdraw, OwnQuota, Order, Fill, Cancel, Close}
use Rattle.rules.specs.Refusals.{unless_refused}
use Rattle.rules.specs.Sums.{when, when_zero, sum_over, sum_over_append, sum_over_set}
use Rattle.history.specs.Past.{Ordered, History, at_opening, no_order, order_at, filled_money, open_in, bought_in, sold_in, money_in, Part, belongs}
use Rattle.history.specs.Answers.{group_of, refusals, refusal_of, order_reads, place_reads}
use Rattle.history.specs.Runs.{ordered, filled, cancelled, accept, next, after, Entry, Called, Loaded, with_table, load_refusal, next_entry, after_all}
use Rattle.rules.specs.Loads.{loaded}
use Rattle.history.specs.Article16.{Parts, nothing, counted, net16, parts, entry_parts, parts_all}
use Rattle.history.specs.Tally.{sub_same}

-- an amount at the order's price: what stays open, what is bought, what is improved
split : (price p n q : ℕ) → q ≤ n → p ≤ price → price * (n - q) + p * q + (price - p) * q ≡ price * n
split price p n q h k =
    let e : p + (price - p) ≡ price = omega arith in
    let f : (n - q) + q ≡ n = omega arith in
    let x : p * q + (price - p) * q ≡ price * q = sym (add-mul p (price - p) q) ∙ ap (λ z. z * q) e in
    let y : price * (n - q) + price * q ≡ price * n = sym (mul-add price (n - q) q) ∙ ap (λ z. price * z) f in
    omega arith

-- every order obeys its kind's price rule
Priced : List Ordered → Type 0
Priced l = (i : ℕ) → price_rule (get_or l i no_order).kind (get_or l i no_order).price ≡ true

module _ (w : Part) (o : Ordered) where
  filled_more : (p : Mils) (q : ℕ) → filled_money (filled p q o) ≡ filled_money o + p.0 * q
  unfolding filled_money
  filled_more p q = sum_over_append (λ f. (amount f.price f.quantity).0) o.fills (record { price = p; quantity = q })

  -- a fill: open and bought before are open, bought and improved after; sold grows by the fill
  pub fill_one : (p : Mils) (q : ℕ) → q ≤ o.«open» → price_rule o.kind o.price ≡ true → worse_fill o.kind o.price p ≡ false
      → (open_in w (filled p q o) + bought_in w (filled p q o) + when (belongs w o) (when (is_buy o.kind) ((o.price.0 - p.0) * q)) ≡ open_in w o + bought_in w o)
      × (sold_in w (filled p q o) ≡ sold_in w o + when (belongs w o) (when (not (is_buy o.kind)) (p.0 * q)))
  unfolding open_in bought_in sold_in when
  fill_one p q h r d = rw (filled_more p q) (go (belongs w o) (is_buy o.kind) refl)
    where
      go : (s b : Bool) → is_buy o.kind ≡ b
          → (when s (when b (o.price.0 * (o.«open» - q))) + when s (when b (filled_money o + p.0 * q)) + when s (when b ((o.price.0 - p.0) * q)) ≡ when s (when b (o.price.0 * o.«open»)) + when s (when b (filled_money o)))
          × (when s (when (not b) (filled_money o + p.0 * q)) ≡ when s (when (not b) (filled_money o)) + when s (when (not b) (p.0 * q)))
      go true true e = (omega (arith, split o.price.0 p.0 o.«open» q h (never_dearer o.kind o.price p e r d)), refl)
      go true false e = (refl, refl)
      go false b e = (refl, refl)

  -- a cancel: open before is open and cancelled after
  pub cancel-one : (open_in w (cancelled o) + when (belongs w o) (when (is_buy o.kind) (o.price.0 * o.«open»)) ≡ open_in w o)
      × (bought_in w (cancelled o) ≡ bought_in w o)
      × (sold_in w (cancelled o) ≡ sold_in w o)
  unfolding open_in bought_in sold_in filled_money when
  cancel-one = (go (belongs w o) (is_buy o.kind), refl, refl)
    where
      go : (s b : Bool) → when s (when b (o.price.0 * 0)) + when s (when b (o.price.0 * o.«open»)) ≡ when s (when b (o.price.0 * o.«open»))
      go true true = omega arith
      go true false = refl
      go false b = refl

-- the parts agree with the orders
record Tally (w : Part) (l : List Ordered) (s : Parts) : Type 0 where
  pub plus : s.submitted ≡ sum_over (open_in w) l + sum_over (bought_in w) l + s.cancelled + s.improved
  pub minus : s.sold ≡ sum_over (sold_in w) l
  pub priced : Priced l

priced_append : (l : List Ordered) (o : Ordered) → Priced l → price_rule o.kind o.price ≡ true → Priced (l ++ (o ∷ []))
unfolding Priced price_rule
priced_append [] o h p zero = p
priced_append [] o h p (suc i) = refl
priced_append (x ∷ l) o h p zero = h 0
priced_append (x ∷ l) o h p (suc i) = priced_append l o (λ j. h (suc j)) p i

priced_set : (l : List Ordered) (k : ℕ) (o : Ordered) → Priced l → price_rule o.kind o.price ≡ true → Priced (set l k o)
unfolding Priced
priced_set [] k o h p i = h i
priced_set (x ∷ l) zero o h p zero = p
priced_set (x ∷ l) zero o h p (suc i) = h (suc i)
priced_set (x ∷ l) (suc k) o h p zero = h 0
priced_set (x ∷ l) (suc k) o h p (suc i) = priced_set l k o (λ j. h (suc j)) p i

module _ (N : ℕ) (rule : Rule) (w : Part) (h : History) (s : Parts) (t : Tally w h.orders s) where
  tally_order : (u k : ℕ) (p : Mils) (q : ℕ) → refusal_of N rule h (Order u k p q) ≡ 0 → Tally w (accept h (Order u k p q)).orders (counted w h s (Order u k p q))
  unfolding refusals order_rules accept counted open_in bought_in sold_in filled_money sum_over Priced
  tally_order u k p q e =
      let o : Ordered = ordered u k p q (group_of h u) in
      let c = clear 1 (order_rules rule u k p q (order_reads N h u)) (order_rises rule u k p q (order_reads N h u)) e in
      let f = both (is_unit u) (is_kind k && (price_rule k p && is_quantity q)) (not-false (in_range (Order u k p q)) c.0) in
      let r = both (price_rule k p) (is_quantity q) (both (is_kind k) (price_rule k p && is_quantity q) f.1).1 in
      let none-bought : bought_in w o ≡ 0 = ap (when (w u (group_of h u))) (when_zero (is_buy k)) ∙ when_zero (w u (group_of h u)) in
      let none-sold : sold_in w o ≡ 0 = ap (when (w u (group_of h u))) (when_zero (not (is_buy k))) ∙ when_zero (w u (group_of h u)) in
      let a = sum_over_append (open_in w) h.orders o in
      let b = sum_over_append (bought_in w) h.orders o in
      let d = sum_over_append (sold_in w) h.orders o in
      record {
        plus = omega (arith, t.plus, a, b, none-bought);
        minus = omega (arith, t.minus, d, none-sold);
        priced = priced_append h.orders o t.priced r.0;
      }

  tally_fill : (k : ℕ) (p : Mils) (q : ℕ) → refusal_of N rule h (Fill k p q) ≡ 0 → Tally w (accept h (Fill k p q)).orders (counted w h s (Fill k p q))
  unfolding refusals fill_rules accept counted Priced
  tally_fill k p q e =
      let o : Ordered = order_at h k in
      let c = clear 1 (fill_rules k p q (place_reads h k)) (fill_rises k p q (place_reads h k)) e in
      let i = within_true 1 (length h.orders) k (not-false (within 1 (length h.orders) k) c.1.0) in
      let l : k - 1 < length h.orders = omega arith in
      let f = fill_one w o p q (ltb-false o.«open» q c.1.1.0) (t.priced (k - 1)) c.1.1.1.0 in
      let a = sum_over_set (open_in w) h.orders (k - 1) (filled p q o) no_order l in
      let b = sum_over_set (bought_in w) h.orders (k - 1) (filled p q o) no_order l in
      let d = sum_over_set (sold_in w) h.orders (k - 1) (filled p q o) no_order l in
      record {
        plus = omega (arith, t.plus, a, b, f.0);
        minus = omega (arith, t.minus, d, f.1);
        priced = priced_set h.orders (k - 1) (filled p q o) t.priced (t.priced (k - 1));
      }

  tally_cancel : (k : ℕ) → refusal_of N rule h (Cancel k) ≡ 0 → Tally w (accept h (Cancel k)).orders (counted w h s (Cancel k))
  unfolding refusals cancel_rules accept counted Priced
  tally_cancel k e =
      let o : Ordered = order_at h k in
      let c = clear 1 (cancel_rules k (place_reads h k)) (cancel_rises k (place_reads h k)) e in
      let i = within_true 1 (length h.orders) k (not-false (within 1 (length h.orders) k) c.1.0) in
      let l : k - 1 < length h.orders = omega arith in
      let f = cancel-one w o in
      let a = sum_over_set (open_in w) h.orders (k - 1) (cancelled o) no_order l in
      let b = sum_over_set (bought_in w) h.orders (k - 1) (cancelled o) no_order l in
      let d = sum_over_set (sold_in w) h.orders (k - 1) (cancelled o) no_order l in
      record {
        plus = omega (arith, t.plus, a, b, f.0, f.1);
        minus = omega (arith, t.minus, d, f.2);
        priced = priced_set h.orders (k - 1) (cancelled o) t.priced (t.priced (k - 1));
      }

tally_none : (w : Part) → Tally w [] nothing
unfolding sum_over Priced price_rule
tally_none w = record { plus = refl; minus = refl; priced = λ i. refl }

module _ (N : ℕ) (rule : Rule) (w : Part) where
  tally_accepted : (h : History) (s : Parts) → Tally w h.orders s → (c : Call) → refusal_of N rule h c ≡ 0 → Tally w (accept h c).orders (counted w h s c)
  unfolding accept counted
  tally_accepted h s t (Enrol code class) e = t
  tally_accepted h s t (Attach unit group) e = t
  tally_accepted h s t (Detach unit) e = t
  tally_accepted h s t (Regular declarer group base quota) e = t
  tally_accepted h s t (Raise declarer group quota flag) e = t
  tally_accepted h s t (Withdraw declarer group) e = t
  tally_accepted h s t (OwnQuota group quota) e = t
  tally_accepted h s t (Order unit kind price quantity) e = tally_order N rule w h s t unit kind price quantity e
  tally_accepted h s t (Fill order price quantity) e = tally_fill N rule w h s t order price quantity e
  tally_accepted h s t (Cancel order) e = tally_cancel N rule w h s t order e
  tally_accepted h s t Close e = tally_none w

  tally_next : (h : History) (s : Parts) → Tally w h.orders s → (c : Call) → Tally w (next N rule h c).orders (unless_refused (refusal_of N rule h c) (counted w h s c) s)
  unfolding next
  tally_next h s t c = go (refusal_of N rule h c) refl
    where
      go : (r : ℕ) → refusal_of N rule h c ≡ r → Tally w (unless_refused r (accept h c) h).orders (unless_refused r (counted w h s c) s)
      go zero e = tally_accepted h s t c e
      go (suc r) e = t

  tally_after : (cs : List Call) (h : History) (s : Parts) → Tally w h.orders s → Tally w (after N rule h cs).orders (parts N rule w h s cs)
  unfolding after parts
  tally_after [] h s t = t
  tally_after (c ∷ cs) h s t = tally_after cs (next N rule h c) (unless_refused (refusal_of N rule h c) (counted w h s c) s) (tally_next h s t c)

  tally_entry : (h : History) (s : Parts) → Tally w h.orders s → (e : Entry) → Tally w (next_entry N rule h e).orders (entry_parts N rule w h s e)
  unfolding next_entry entry_parts
  tally_entry h s t (Called c) = tally_next h s t c
  tally_entry h s t (Loaded f) = go (load_refusal N rule h f)
    where
      go : (r : ℕ) → Tally w (unless_refused r (with_table h (loaded f)) h).orders s
      go zero = t
      go (suc r) = t

  tally_all : (es : List Entry) (h : History) (s : Parts) → Tally w h.orders s → Tally w (after_all N rule h es).orders (parts_all N rule w h s es)
  unfolding after_all parts_all
  tally_all [] h s t = t
  tally_all (e ∷ es) h s t = tally_all es (next_entry N rule h e) (entry_parts N rule w h s e) (tally_entry h s t e)

  -- Article 16's sum is open + bought − sold, for every part of the orders after every list of calls and loads
  pub article_16 : (es : List Entry) → net16 (parts_all N rule w at_opening nothing es) ≡ net_of (money_in (after_all N rule at_opening es) w)
  unfolding net_of money_in
  article_16 es =
      let t = tally_all es at_opening nothing (tally_none w) in
      let s : Parts = parts_all N rule w at_opening nothing es in
      let l : List Ordered = (after_all N rule at_opening es).orders in
      let k : ℕ = s.cancelled + s.improved in
      let a : s.submitted ≡ sum_over (open_in w) l + sum_over (bought_in w) l + k = omega (arith, t.plus) in
      let b : s.sold + s.cancelled + s.improved ≡ sum_over (sold_in w) l + k = omega (arith, t.minus) in
      ap (λ x. sub_ℕ x (s.sold + s.cancelled + s.improved)) a
      ∙ ap (λ x. sub_ℕ (sum_over (open_in w) l + sum_over (bought_in w) l + k) x) b
      ∙ sub_same (sum_over (open_in w) l + sum_over (bought_in w) l) (sum_over (sold_in w) l) k
