-- The money of a history's orders: no group's passes L; what is known of each order alone is kept by an order more, a fill and a cancel;
-- and how each moves its group's money. For the order half of the third demand. Assumes nothing.
use Prim.Native.Nat.{ℕ, zero, suc, ◌+◌, ◌*◌, ◌-◌, ◌≤◌, ◌<◌}
use Rattle.std.specs.Prelude.{◌≡◌, Bool, true, false, not, length, get_or, set}
use Rattle.std.proofs.Math.Path.{refl, ap}
use Rattle.std.proofs.Common.{◌∙◌, mul-le-mul_right, mul-le-mul_left, not-suc-le-zero, le_of_suc-le-suc, le-leb, length-append, length-set, get_or-set_same, get_or-set_other}
use mathlib.Core.List.{List, [], ◌∷◌, ◌++◌}
use native.Mathlib.Omega.{arith}
use Rattle.std.proofs.Math.Nat.{mul-add}
use Rattle.std.proofs.Math.ListN.{get_or-append}
use Rattle.std.proofs.Math.Seq.{get_or-append_seam}
use Rattle.rules.specs.Limits.{top_money, top_price, top_quantity}
use Rattle.rules.specs.Money.{mils, amount}
use Rattle.rules.specs.Orders.{is_buy, is_kind, price_rule}
use Rattle.rules.specs.Sums.{when, when_add, when_zero, sum_over, sum_over_append, sum_over_set}
use Rattle.rules.specs.declared.money.Mils.{Mils}
use Rattle.rules.specs.declared.kinds.Money.{Money}
use Rattle.words.specs.Each.{same}
use Rattle.history.specs.Past.{Filled, Ordered, History, Part, belongs, no_order, order_at, filled_money, open_in, bought_in, sold_in, money_in}
use Rattle.history.specs.Runs.{with_orders, with_open, changed_order, ordered, filled, cancelled}
use Rattle.book.specs.Known.{price_most}
use Rattle.orders.specs.Booking.{money_fits, open_taken}
use Rattle.claim.specs.Relation.{place_of, OrderKnown}

-- ---- sums

module _ {A : Type 0} where
  -- a part is at most the sum
  pub sum_over_part : (f : A → ℕ) (l : List A) (k : ℕ) (d : A) → k < length l → f (get_or l k d) ≤ sum_over f l
  unfolding sum_over
  sum_over_part f [] k d h = absurd (not-suc-le-zero h)
  sum_over_part f (y ∷ l) zero d h = omega arith
  sum_over_part f (y ∷ l) (suc k) d h = omega (arith, sum_over_part f l k d (le_of_suc-le-suc h))

  -- three measures together
  pub sum_over_bound : (f g s : A → ℕ) (l : List A) (d : A) (c : ℕ) → ((k : ℕ) → k < length l → f (get_or l k d) + g (get_or l k d) + s (get_or l k d) ≤ c)
      → sum_over f l + sum_over g l + sum_over s l ≤ length l * c
  unfolding sum_over
  sum_over_bound f g s [] d c h = omega arith
  sum_over_bound f g s (y ∷ l) d c h = omega (arith, h 0 (omega arith), sum_over_bound f g s l d c (λ k q. h (suc k) (omega arith)))

when_most : (b : Bool) (x y : ℕ) → x ≤ y → when b x ≤ when b y
unfolding when
when_most true x y h = h
when_most false x y h = omega arith

-- ---- 1: no part's money passes L

-- of each order of a list this is known
abbrev pub AllKnown : ℕ → List Ordered → Type 0
AllKnown n l = (i : ℕ) → i < length l → OrderKnown n (get_or l i no_order)

-- one order's share is at most the top price for the top quantity
pub share : (n : ℕ) (w : Part) (o : Ordered) → OrderKnown n o → open_in w o + bought_in w o + sold_in w o ≤ top_price * top_quantity
unfolding open_in bought_in sold_in when
share n w o k = go (belongs w o) (is_buy o.kind)
  where
    le : o.price.0 * o.«open» ≤ top_price * o.«open»
    le = mul-le-mul_right o.«open» (price_most o.kind o.price k.priced)

    go : (a b : Bool) → when a (when b (o.price.0 * o.«open»)) + when a (when b (filled_money o)) + when a (when (not b) (filled_money o)) ≤ top_price * top_quantity
    go false b = omega arith
    go true true = omega (arith, le, k.amount)
    go true false = omega (arith, le, k.amount)

pub money_bound : (n : ℕ) (l : List Ordered) → AllKnown n l → (w : Part) → sum_over (open_in w) l + sum_over (bought_in w) l + sum_over (sold_in w) l ≤ length l * (top_price * top_quantity)
money_bound n l a w = sum_over_bound (open_in w) (bought_in w) (sold_in w) l no_order (top_price * top_quantity) (λ i q. share n w (get_or l i no_order) (a i q))

pub money-fits : (n : ℕ) (h : History) → AllKnown n h.orders → length h.orders ≤ 65_536 → (w : Part) → money_fits (money_in h w) ≡ true
unfolding money_fits money_in
money-fits n h a m w =
    le-leb (sum_over (open_in w) h.orders + sum_over (bought_in w) h.orders + sum_over (sold_in w) h.orders) top_money
    (omega (arith, money_bound n h.orders a w))

-- ---- 2: what is known of an order is kept

pub known_fresh : (n u k : ℕ) (p : Mils) (q g : ℕ) → g < n → is_kind k ≡ true → price_rule k p ≡ true → q ≤ top_quantity → OrderKnown n (ordered u k p q g)
unfolding filled_money sum_over
known_fresh n u k p q g a b c d = record { group = a; kind = b; priced = c; «open» = d; amount = omega arith }

pub filled_more : (o : Ordered) (p : Mils) (q : ℕ) → filled_money (filled p q o) ≡ filled_money o + p.0 * q
unfolding filled_money
filled_more o p q = sum_over_append (λ f. (amount f.price f.quantity).0) o.fills (record { price = p; quantity = q })

pub cancelled-same : (o : Ordered) → filled_money (cancelled o) ≡ filled_money o
unfolding filled_money
cancelled-same o = refl

pub known_filled : (n : ℕ) (o : Ordered) (p : Mils) (q : ℕ) → OrderKnown n o → q ≤ o.«open» → p.0 ≤ top_price → OrderKnown n (filled p q o)
known_filled n o p q k a b = record {
  group = k.group;
  kind = k.kind;
  priced = k.priced;
  «open» = omega (arith, k.«open»);
  amount = omega (arith, filled_more o p q, mul-le-mul_right q b, k.amount);
}

pub known_cancelled : (n : ℕ) (o : Ordered) → OrderKnown n o → OrderKnown n (cancelled o)
known_cancelled n o k = record {
  group = k.group;
  kind = k.kind;
  priced = k.priced;
  «open» = omega arith;
  amount = omega (arith, cancelled-same o, k.amount);
}

-- more groups, as many, one more
pub known_among : (n m : ℕ) (o : Ordered) → n ≤ m → OrderKnown n o → OrderKnown m o
known_among n m o l k = record { group = omega (arith, k.group); kind = k.kind; priced = k.priced; «open» = k.«open»; amount = k.amount }

pub known_more : (n : ℕ) (o : Ordered) → OrderKnown n o → OrderKnown (n + 1) o
known_more n o k = known_among n (n + 1) o (omega arith) k

pub all_append : (n : ℕ) (l : List Ordered) (o : Ordered) → AllKnown n l → OrderKnown n o → AllKnown n (l ++ (o ∷ []))
all_append n l o a k i h =
    same i (length l)
    (λ e. rw (e, get_or-append_seam l o [] no_order) k)
    (λ e. let z : i < length l = omega (arith, e, length-append l (o ∷ [])) in rw (get_or-append l (o ∷ []) no_order i z) (a i z))

pub all_set : (n : ℕ) (l : List Ordered) (j : ℕ) (o : Ordered) → j < length l → AllKnown n l → OrderKnown n o → AllKnown n (set l j o)
all_set n l j o z a k i h =
    same i j
    (λ e. rw (e, get_or-set_same l j o no_order z) k)
    (λ e. rw (get_or-set_other l j i o no_order e) (a i (rw length-set at h)))

-- ---- 3: an order's open money is in every part that it belongs to

open-here : (w : Part) (o : Ordered) → belongs w o ≡ true → open_in w o ≡ when (is_buy o.kind) (o.price.0 * o.«open»)
unfolding open_in when
open-here w o e = rw e

pub open_part : (h : History) (w : Part) (i q : ℕ) → i < length h.orders → belongs w (get_or h.orders i no_order) ≡ true → q ≤ (get_or h.orders i no_order).«open»
    → open_taken (place_of (get_or h.orders i no_order)) q ≤ (money_in h w).«open».0
unfolding money_in
open_part h w i q z e m =
    let o : Ordered = get_or h.orders i no_order in
    omega (
      arith,
      when_most (is_buy o.kind) (o.price.0 * q) (o.price.0 * o.«open») (mul-le-mul_left o.price.0 m),
      open-here w o e,
      sum_over_part (open_in w) h.orders i no_order z,
    )

-- ---- how money moves

money_alike : (a b c d e f : ℕ) → a ≡ d → b ≡ e → c ≡ f → ◌≡◌ {A = Money} (record { «open» = mils a; bought = mils b; sold = mils c }) (record { «open» = mils d; bought = mils e; sold = mils f })
money_alike a b c d e f x y z = rw (x, y, z)

-- one order more, nothing of it filled yet
module _ (h : History) (u k : ℕ) (p : Mils) (q g : ℕ) where
  abbrev fresh : Ordered
  fresh = ordered u k p q g

  fresh_open : (w : Part) → open_in w fresh ≡ when (w u g) (when (is_buy k) (p.0 * q))
  unfolding open_in
  fresh_open w = refl

  fresh-bought : (w : Part) → bought_in w fresh ≡ 0
  unfolding bought_in filled_money sum_over
  fresh-bought w = simp when_zero

  fresh-sold : (w : Part) → sold_in w fresh ≡ 0
  unfolding sold_in filled_money sum_over
  fresh-sold w = simp when_zero

  more-money : (w : Part) → money_in (with_orders h (h.orders ++ (fresh ∷ []))) w ≡ record { «open» = mils ((money_in h w).«open».0 + when (w u g) (when (is_buy k) (p.0 * q))); bought = (money_in h w).bought; sold = (money_in h w).sold }
  unfolding money_in
  more-money w =
      let l = h.orders in
      money_alike
      (sum_over (open_in w) (l ++ (fresh ∷ []))) (sum_over (bought_in w) (l ++ (fresh ∷ []))) (sum_over (sold_in w) (l ++ (fresh ∷ [])))
      (sum_over (open_in w) l + when (w u g) (when (is_buy k) (p.0 * q))) (sum_over (bought_in w) l) (sum_over (sold_in w) l)
      (omega (arith, sum_over_append (open_in w) l fresh, fresh_open w))
      (omega (arith, sum_over_append (bought_in w) l fresh, fresh-bought w))
      (omega (arith, sum_over_append (sold_in w) l fresh, fresh-sold w))

  -- a part that it belongs to, and one that it doesn't
  pub more_here : (w : Part) → w u g ≡ true → money_in (with_orders h (h.orders ++ (fresh ∷ []))) w ≡ record { «open» = mils ((money_in h w).«open».0 + when (is_buy k) (p.0 * q)); bought = (money_in h w).bought; sold = (money_in h w).sold }
  unfolding when
  more_here w e = rw e at (more-money w)

  pub more_else : (w : Part) → w u g ≡ false → money_in (with_orders h (h.orders ++ (fresh ∷ []))) w ≡ money_in h w
  unfolding when money_in
  more_else w d =
      let e : sum_over (open_in w) h.orders + 0 ≡ sum_over (open_in w) h.orders = omega arith in
      (rw d at (more-money w))
      ∙ money_alike (sum_over (open_in w) h.orders + 0) (sum_over (bought_in w) h.orders) (sum_over (sold_in w) h.orders) (sum_over (open_in w) h.orders) (sum_over (bought_in w) h.orders) (sum_over (sold_in w) h.orders) e refl refl

-- y off an order's open quantity, n left, x more money in its fills
module _ (o : Ordered) (n y x : ℕ) (fs : List Filled) (less : o.«open» ≡ n + y) (more : filled_money (with_open o n fs) ≡ filled_money o + x) where
  open_moved : (w : Part) → open_in w o ≡ open_in w (with_open o n fs) + when (belongs w o) (when (is_buy o.kind) (o.price.0 * y))
  unfolding open_in
  open_moved w =
      let e : o.price.0 * o.«open» ≡ o.price.0 * n + o.price.0 * y = ap (λ z. o.price.0 * z) less ∙ mul-add o.price.0 n y in
      rw (← when_add, ← when_add) (ap (λ z. when (belongs w o) (when (is_buy o.kind) z)) e)

  bought_moved : (w : Part) → bought_in w (with_open o n fs) ≡ bought_in w o + when (belongs w o) (when (is_buy o.kind) x)
  unfolding bought_in
  bought_moved w = rw (more, when_add, when_add)

  sold_moved : (w : Part) → sold_in w (with_open o n fs) ≡ sold_in w o + when (belongs w o) (when (not (is_buy o.kind)) x)
  unfolding sold_in
  sold_moved w = rw (more, when_add, when_add)

module _ (h : History) (k n y x : ℕ) (fs : List Filled) (hk : k - 1 < length h.orders) (less : (order_at h k).«open» ≡ n + y) (more : filled_money (with_open (order_at h k) n fs) ≡ filled_money (order_at h k) + x) where
  abbrev now : Ordered
  now = with_open (order_at h k) n fs

  moved_money : (w : Part) → money_in (changed_order h k now) w ≡ record {
    «open» = mils ((money_in h w).«open».0 - when (belongs w (order_at h k)) (when (is_buy (order_at h k).kind) ((order_at h k).price.0 * y)));
    bought = mils ((money_in h w).bought.0 + when (belongs w (order_at h k)) (when (is_buy (order_at h k).kind) x));
    sold = mils ((money_in h w).sold.0 + when (belongs w (order_at h k)) (when (not (is_buy (order_at h k).kind)) x));
  }
  unfolding money_in
  moved_money w =
      let l = h.orders in
      let o : Ordered = order_at h k in
      money_alike
      (sum_over (open_in w) (set l (k - 1) now)) (sum_over (bought_in w) (set l (k - 1) now)) (sum_over (sold_in w) (set l (k - 1) now))
      (sum_over (open_in w) l - when (belongs w o) (when (is_buy o.kind) (o.price.0 * y)))
      (sum_over (bought_in w) l + when (belongs w o) (when (is_buy o.kind) x))
      (sum_over (sold_in w) l + when (belongs w o) (when (not (is_buy o.kind)) x))
      (omega (arith, sum_over_set (open_in w) l (k - 1) now no_order hk, open_moved o n y x fs less more w))
      (omega (arith, sum_over_set (bought_in w) l (k - 1) now no_order hk, bought_moved o n y x fs less more w))
      (omega (arith, sum_over_set (sold_in w) l (k - 1) now no_order hk, sold_moved o n y x fs less more w))

  pub moved_here : (w : Part) → belongs w (order_at h k) ≡ true → money_in (changed_order h k now) w ≡ record {
    «open» = mils ((money_in h w).«open».0 - when (is_buy (order_at h k).kind) ((order_at h k).price.0 * y));
    bought = mils ((money_in h w).bought.0 + when (is_buy (order_at h k).kind) x);
    sold = mils ((money_in h w).sold.0 + when (not (is_buy (order_at h k).kind)) x);
  }
  unfolding when
  moved_here w e = rw e at (moved_money w)

  pub moved_else : (w : Part) → belongs w (order_at h k) ≡ false → money_in (changed_order h k now) w ≡ money_in h w
  unfolding when money_in
  moved_else w d =
      let l = h.orders in
      let a : sum_over (open_in w) l - 0 ≡ sum_over (open_in w) l = omega arith in
      let b : sum_over (bought_in w) l + 0 ≡ sum_over (bought_in w) l = omega arith in
      let c : sum_over (sold_in w) l + 0 ≡ sum_over (sold_in w) l = omega arith in
      (rw d at (moved_money w))
      ∙ money_alike (sum_over (open_in w) l - 0) (sum_over (bought_in w) l + 0) (sum_over (sold_in w) l + 0) (sum_over (open_in w) l) (sum_over (bought_in w) l) (sum_over (sold_in w) l) a b c
