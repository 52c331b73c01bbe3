-- The order half of the third demand: book and places stand for the history's orders. Calls 8 to 10 give the same refusals over both,
-- and every call keeps that they stand for each other. Of the register only `Asked` is known. Assumes nothing.
use Prim.Native.Nat.{ℕ, zero, suc, ◌+◌, ◌*◌, ◌-◌, ◌≤◌, ◌<◌}
use Rattle.std.specs.Prelude.{◌≡◌, Bool, ◌&&◌, List, [], ◌∷◌, ◌++◌, ◌≢◌, ltb, get_or, replicate}
use Rattle.std.proofs.Math.Path.{refl, ap}
use Rattle.std.proofs.Common.{sym, ◌∙◌, leb-true, le-leb, eq-eqb, ne_eqb, get_or-set_same, get_or-set_other}
use Rattle.std.proofs.Math.Bool.{true, false, not}
use native.Mathlib.Omega.{arith}
use Rattle.std.proofs.Math.ListN.{length, length-append, length-set, get_or-append}
use Rattle.std.proofs.Math.Seq.{get_or-append_seam}
use Rattle.rules.specs.Tests.{pick, within, within_true}
use Rattle.rules.specs.Limits.{top_money}
use Rattle.rules.specs.Quotas.{in_force}
use Rattle.rules.specs.Orders.{is_buy, Rule}
use Rattle.rules.specs.Refusals.{refusal}
use Rattle.rules.specs.Lists.{order_rules, fill_rules, cancel_rules}
use Rattle.rules.specs.Sums.{when, when_zero, sum_over}
use Rattle.rules.specs.declared.money.Millions.{Millions}
use Rattle.rules.specs.declared.money.Mils.{Mils}
use Rattle.rules.specs.declared.kinds.Money.{Money}
use Rattle.rules.specs.declared.calls.Call.TheVariants.{Enrol, Attach, Detach, Regular, Raise, Withdraw, OwnQuota, Order, Fill, Cancel, Close}
use Rattle.rules.specs.declared.trading.OrderReads.{OrderReads}
use Rattle.rules.specs.declared.trading.PlaceReads.{PlaceReads}
use Rattle.words.specs.Each.{same}
use Rattle.history.specs.Past.{Filled, Ordered, History, at_opening, no_order, group_at, order_at, filled_money, open_in, bought_in, sold_in, in_group, money_in, money_of}
use Rattle.history.specs.Answers as past
use Rattle.history.specs.Runs.{with_orders, with_open, changed_order, ordered, filled, cancelled, accept}
use Rattle.quota.specs.Asks as asks
use Rattle.quota.specs.Promises.{groups_most}
use Rattle.book.specs.Layout.{places_of, accepted_of, put_accepted, no_money, money_at, put_money, place_at, put_place, put_open, book_length, cleared_words, place_words}
use Rattle.book.specs.Check.{place_ok}
use Rattle.book.specs.Known.{InMoney, BookKnown, known_book, known_place}
use Rattle.book.specs.Laws.{no_money-put, money-same, money_other, places_of_put, accepted_of_put, length-put-money, accepted-same, places_of_accepted, money_of_accepted, place_same, place_other, length-put-place, open_same, open_other, length-put_open, places_of_closed, accepted_of_closed, money_of_closed, known_put-money, known_put-accepted, known_places, known_closed}
use Rattle.book.specs.declared.places.Place.{Place}
use Rattle.orders.specs.Host.{host_ok, is_given, named_ok}
use Rattle.orders.specs.Booking as booked
use Rattle.orders.specs.Calls as calls
use Rattle.orders.specs.Clear.{host_known, order_clear, fill_clear, cancel_clear}
use Rattle.orders.specs.Booking.{Booked}
use Rattle.claim.specs.Relation.{place_of, OrderKnown, OrderSim}
use Rattle.claim.specs.OrderSums.{sum_over_bound, AllKnown, money-fits, known_fresh, known_filled, known_cancelled, known_among, all_append, all_set, open_part, filled_more, cancelled-same, more_here, more_else, moved_here, moved_else}

-- ---- 6: no orders, and a book of zeros

money_empty : (h : History) (g : ℕ) → h.orders ≡ [] → money_of h g ≡ no_money
unfolding money_in sum_over
money_empty h g e = rw e

pub empty_sim : (N : ℕ) (h : History) (bs ps : List ℕ) → h.orders ≡ [] → places_of bs ≡ N → accepted_of bs ≡ 0 → ((g : ℕ) → money_at bs g ≡ no_money) → OrderSim N h bs ps
empty_sim N h bs ps e n a m =
    let z : length h.orders ≡ 0 = ap length e in
    record {
      places = n;
      accepted = a ∙ sym z;
      money = λ g. m g ∙ sym (money_empty h g e);
      stands = λ k l q. absurd (omega arith);
      known = λ i l. absurd (omega arith);
    }

zeros : (n i : ℕ) → ◌≡◌ {A = ℕ} (get_or (replicate n 0) i 0) 0
zeros zero i = refl
zeros (suc n) zero = refl
zeros (suc n) (suc i) = zeros n i

money-zeros : (bs : List ℕ) (g : ℕ) → ((p : ℕ) → 1 ≤ p → get_or bs p 0 ≡ 0) → money_at bs g ≡ no_money
unfolding money_at
money-zeros bs g w = rw (w (2 + 3 * g) (omega arith), w (2 + 3 * g + 1) (omega arith), w (2 + 3 * g + 2) (omega arith)) (go (ltb g 64))
  where
    go : (b : Bool) → pick b no_money no_money ≡ no_money
    go true = refl
    go false = refl

-- a group that no order names has no money
none_share : (n : ℕ) (o : Ordered) → OrderKnown n o → open_in (in_group n) o + bought_in (in_group n) o + sold_in (in_group n) o ≤ 0
unfolding open_in bought_in sold_in when
none_share n o k = rw (ne_eqb o.group n (λ e. omega (arith, k.group, e))) (omega arith)

money-none : (n : ℕ) (h : History) → AllKnown n h.orders → money_of h n ≡ no_money
unfolding money_in
money-none n h a =
    let b : sum_over (open_in (in_group n)) h.orders + sum_over (bought_in (in_group n)) h.orders + sum_over (sold_in (in_group n)) h.orders ≤ length h.orders * 0 =
    sum_over_bound (open_in (in_group n)) (bought_in (in_group n)) (sold_in (in_group n)) h.orders no_order 0 (λ i q. none_share n (get_or h.orders i no_order) (a i q)) in
    let x : sum_over (open_in (in_group n)) h.orders ≡ 0 = omega arith in
    let y : sum_over (bought_in (in_group n)) h.orders ≡ 0 = omega arith in
    let z : sum_over (sold_in (in_group n)) h.orders ≡ 0 = omega arith in
    rw (x, y, z)

-- a book whose first word is N, and every other word 0
pub opening_words : (N : ℕ) (bs ps : List ℕ) → places_of bs ≡ N → ((p : ℕ) → 1 ≤ p → get_or bs p 0 ≡ 0) → OrderSim N at_opening bs ps
opening_words N bs ps n w = empty_sim N at_opening bs ps refl n (w 1 (omega arith)) (λ g. money-zeros bs g w)

after_first : (N n p : ℕ) → 1 ≤ p → get_or (N ∷ replicate n 0) p 0 ≡ 0
after_first N n zero h = absurd (omega arith)
after_first N n (suc p) h = zeros n p

pub opening_sim : (N : ℕ) (bs ps : List ℕ) → bs ≡ N ∷ replicate cleared_words 0 → OrderSim N at_opening bs ps
opening_sim N bs ps e =
    opening_words N bs ps (ap places_of e) (λ p h. ap (λ (z : List ℕ). get_or z p 0) e ∙ after_first N cleared_words p h)

-- ---- 5: calls 1 to 7 leave the orders alone, and no group is lost

-- as many groups or more, the same orders
module _ (N : ℕ) (h h' : History) (bs ps : List ℕ) (orders : h'.orders ≡ h.orders) (groups : length h.groups ≤ length h'.groups) where
  money_kept : (g : ℕ) → money_of h' g ≡ money_of h g
  unfolding money_in
  money_kept g = rw orders

  pub same_orders : OrderSim N h bs ps → OrderSim N h' bs ps
  same_orders s =
      let z : length h'.orders ≡ length h.orders = ap length orders in
      record {
        places = s.places;
        accepted = s.accepted ∙ sym z;
        money = λ g. s.money g ∙ sym (money_kept g);
        stands = λ k a b. s.stands k a (omega arith) ∙ ap (λ (l : List Ordered). place_of (get_or l (k - 1) no_order)) (sym orders);
        known = λ i a. rw orders (known_among (length h.groups) (length h'.groups) (get_or h.orders i no_order) groups (s.known i (omega arith)));
      }

module _ (N : ℕ) (h : History) (bs ps : List ℕ) (s : OrderSim N h bs ps) where
  pub enrol_sim : (code class : ℕ) → OrderSim N (accept h (Enrol code class)) bs ps
  unfolding accept
  enrol_sim code class = same_orders N h (accept h (Enrol code class)) bs ps refl (simp length-append (omega arith)) s

  pub attach_sim : (unit group : ℕ) → OrderSim N (accept h (Attach unit group)) bs ps
  unfolding accept
  attach_sim unit group = same_orders N h (accept h (Attach unit group)) bs ps refl (omega arith) s

  pub detach_sim : (unit : ℕ) → OrderSim N (accept h (Detach unit)) bs ps
  unfolding accept
  detach_sim unit = same_orders N h (accept h (Detach unit)) bs ps refl (omega arith) s

  pub regular_sim : (declarer group : ℕ) (base quota : Millions) → OrderSim N (accept h (Regular declarer group base quota)) bs ps
  unfolding accept
  regular_sim declarer group base quota = same_orders N h (accept h (Regular declarer group base quota)) bs ps refl (simp length-set (omega arith)) s

  pub raise_sim : (declarer group : ℕ) (quota : Millions) (flag : ℕ) → OrderSim N (accept h (Raise declarer group quota flag)) bs ps
  unfolding accept
  raise_sim declarer group quota flag = same_orders N h (accept h (Raise declarer group quota flag)) bs ps refl (simp length-set (omega arith)) s

  pub withdraw_sim : (declarer group : ℕ) → OrderSim N (accept h (Withdraw declarer group)) bs ps
  unfolding accept
  withdraw_sim declarer group = same_orders N h (accept h (Withdraw declarer group)) bs ps refl (simp length-set (omega arith)) s

  pub own_quota_sim : (group : ℕ) (quota : Millions) → OrderSim N (accept h (OwnQuota group quota)) bs ps
  unfolding accept
  own_quota_sim group quota = same_orders N h (accept h (OwnQuota group quota)) bs ps refl (simp length-set (omega arith)) s

  -- the close forgets every order, and zeroes every total
  closed_sim : length bs ≡ book_length → OrderSim N (accept h Close) (calls.closed_book bs) ps
  unfolding accept calls.closed_book
  closed_sim l = empty_sim N (accept h Close) (calls.closed_book bs) ps refl (places_of_closed bs l ∙ s.places) (accepted_of_closed bs l) (money_of_closed bs l)

-- ---- what is known of the register

pub record Asked (h : History) (rs : List ℕ) : Type 0 where
  pub sound : asks.is_sound rs ≡ true
  pub enrolled : asks.groups_enrolled rs ≡ length h.groups
  pub attached-same : (u : ℕ) → asks.is_attached rs u ≡ past.is_attached h u
  pub group_same : (u : ℕ) → asks.group_of_unit rs u ≡ past.group_of h u
  pub own_same : (u : ℕ) → past.is_attached h u ≡ true → asks.own_in_force rs (past.group_of h u) ≡ in_force (group_at h (past.group_of h u)).quota

-- it does not depend on the orders
asked_orders : (h : History) (rs : List ℕ) (l : List Ordered) → Asked h rs → Asked (with_orders h l) rs
asked_orders h rs l a = record { sound = a.sound; enrolled = a.enrolled; attached-same = a.attached-same; group_same = a.group_same; own_same = a.own_same }

module _ (h : History) (rs : List ℕ) (a : Asked h rs) where
  pub order-asked : (u k : ℕ) (p : Mils) (q : ℕ) → Asked (accept h (Order u k p q)) rs
  unfolding accept
  order-asked u k p q = asked_orders h rs (accept h (Order u k p q)).orders a

  pub fill-asked : (k : ℕ) (p : Mils) (q : ℕ) → Asked (accept h (Fill k p q)) rs
  unfolding accept
  fill-asked k p q = asked_orders h rs (accept h (Fill k p q)).orders a

  pub cancel-asked : (k : ℕ) → Asked (accept h (Cancel k)) rs
  unfolding accept
  cancel-asked k = asked_orders h rs (accept h (Cancel k)).orders a

-- ---- lists that read the same

-- a unit that is not attached is refused by 2 or 6, whatever else is read
order_alike : (rule : Rule) (u k : ℕ) (p : Mils) (q : ℕ) (a b : OrderReads) → a.attached ≡ b.attached → (b.attached ≡ true → a ≡ b) → refusal (order_rules rule u k p q a) ≡ refusal (order_rules rule u k p q b)
unfolding order_rules
order_alike rule u k p q a b e f = go b.attached refl
  where
    go : (t : Bool) → b.attached ≡ t → refusal (order_rules rule u k p q a) ≡ refusal (order_rules rule u k p q b)
    go true z = ap (λ (x : OrderReads). refusal (order_rules rule u k p q x)) (f z)
    go false z = rw (e, z)

-- a number that was not given is refused by 2 or 18, whatever else is read
fill_alike : (k : ℕ) (p : Mils) (q : ℕ) (a b : PlaceReads) → a.given ≡ b.given → (b.given ≡ true → a ≡ b) → refusal (fill_rules k p q a) ≡ refusal (fill_rules k p q b)
unfolding fill_rules
fill_alike k p q a b e f = go b.given refl
  where
    go : (t : Bool) → b.given ≡ t → refusal (fill_rules k p q a) ≡ refusal (fill_rules k p q b)
    go true z = ap (λ (x : PlaceReads). refusal (fill_rules k p q x)) (f z)
    go false z = rw (e, z)

cancel_alike : (k : ℕ) (a b : PlaceReads) → a.given ≡ b.given → (b.given ≡ true → a ≡ b) → refusal (cancel_rules k a) ≡ refusal (cancel_rules k b)
unfolding cancel_rules
cancel_alike k a b e f = go b.given refl
  where
    go : (t : Bool) → b.given ≡ t → refusal (cancel_rules k a) ≡ refusal (cancel_rules k b)
    go true z = ap (λ (x : PlaceReads). refusal (cancel_rules k x)) (f z)
    go false z = rw (e, z)

-- ---- money that fits is booked

unbroken : (r : ℕ) (b : Booked) → (r ≡ 0 → b.ok ≡ true) → calls.unless_broken r b ≡ r
unbroken zero b f = rw (f refl)
unbroken (suc r) b f = refl

-- the money is booked, as it is
abbrev done : Money → Booked
done m = record { ok = true; money = m }

booking-fits : (before after : Money) → booked.money_fits after ≡ true → booked.booking before after ≡ done after
booking-fits before after e = rw e

booking_off_fits : (before : Money) (taken : ℕ) (after : Money) → taken ≤ before.«open».0 → booked.money_fits after ≡ true → booked.booking_off before taken after ≡ done after
booking_off_fits before taken after h e = rw (le-leb taken before.«open».0 h, e)

fits_in : (m : Money) → booked.money_fits m ≡ true → InMoney m
unfolding booked.money_fits
fits_in m e =
    let l = leb-true (m.«open».0 + m.bought.0 + m.sold.0) top_money e in
    (omega arith, (omega arith, omega arith))

-- ---- the host

module _ (N : ℕ) (h : History) (rs bs ps : List ℕ) (host : host_ok rs bs ps ≡ true) (s : OrderSim N h bs ps) where
  counts : (length h.orders ≤ N) × (N ≤ 65_536)
  counts =
      let b = (host_known rs bs ps host).book in
      (omega (arith, b.accepted_most, s.accepted, s.places), omega (arith, b.places-high, s.places))

  -- the money of every group, enrolled or not, is in its range
  pub money_in_lem : (g : ℕ) → InMoney (money_at bs g)
  money_in_lem g = rw (s.money g) (fits_in (money_of h g) (money-fits (length h.groups) h s.known (omega (arith, counts)) (in_group g)))

  -- so the host stays sound under every other sound register, with a group more too
  pub host_again : (rs' : List ℕ) → asks.is_sound rs' ≡ true → host_ok rs' bs ps ≡ true
  unfolding host_ok
  host_again rs' e =
      let b = (host_known rs bs ps host).book in
      rw e (known_book bs ps (asks.groups_enrolled rs') (record {
        book-length = b.book-length;
        places-low = b.places-low;
        places-high = b.places-high;
        places-length = b.places-length;
        accepted_most = b.accepted_most;
        money = λ g i l. money_in_lem g;
      }))

  pub close_sim : OrderSim N (accept h Close) (calls.closed_book bs) ps
  close_sim = closed_sim N h bs ps s (host_known rs bs ps host).book.book-length

-- the closed book, under every sound register
pub close_host : (rs bs ps : List ℕ) → host_ok rs bs ps ≡ true → (rs' : List ℕ) → asks.is_sound rs' ≡ true → host_ok rs' (calls.closed_book bs) ps ≡ true
unfolding host_ok calls.closed_book
close_host rs bs ps host rs' e =
    let b = (host_known rs bs ps host).book in
    let c = known_closed bs ps (asks.groups_enrolled rs) b in
    rw e (known_book (calls.closed_book bs) ps (asks.groups_enrolled rs') (record {
      book-length = c.book-length;
      places-low = c.places-low;
      places-high = c.places-high;
      places-length = c.places-length;
      accepted_most = c.accepted_most;
      money = λ g i l. rw (money_of_closed bs b.book-length g) (omega arith, (omega arith, omega arith));
    }))

module _ (N : ℕ) (h : History) (rs bs ps : List ℕ) (a : Asked h rs) (host : host_ok rs bs ps ≡ true) (s : OrderSim N h bs ps) where
  abbrev n : ℕ
  n = length h.orders

  abbrev groups : ℕ
  groups = length h.groups

  groups_few : groups ≤ 64
  groups_few = omega (arith, groups_most rs a.sound, a.enrolled)

  -- the next group has no money, so call 1 writes what stands there
  pub enrol-book : put_money bs (asks.groups_enrolled rs) no_money ≡ bs
  enrol-book =
      no_money-put bs (asks.groups_enrolled rs) (host_known rs bs ps host).book.book-length
      (s.money (asks.groups_enrolled rs) ∙ ap (money_of h) a.enrolled ∙ money-none (length h.groups) h s.known)

  book : BookKnown bs ps (asks.groups_enrolled rs)
  book = (host_known rs bs ps host).book

  room : length ps ≡ place_words * N
  room = book.places-length ∙ ap (λ (x : ℕ). place_words * x) s.places

  -- ---- an order more

  module _ (o : Ordered) (ok : OrderKnown groups o) (free : n < N) where
    abbrev more : History
    more = with_orders h (h.orders ++ (o ∷ []))

    more_count : length more.orders ≡ n + 1
    more_count = length-append h.orders (o ∷ [])

    more_known : AllKnown groups more.orders
    more_known = all_append groups h.orders o s.known ok

    more-fits : (g : ℕ) → booked.money_fits (money_of more g) ≡ true
    more-fits g = money-fits groups more more_known (omega (arith, more_count, counts N h rs bs ps host s)) (in_group g)

    abbrev more-book : List ℕ
    more-book = put_accepted (put_money bs o.group (money_of more o.group)) (n + 1)

    abbrev more-places : List ℕ
    more-places = put_place ps (n + 1) (place_of o)

    more_sim : ((j : ℕ) → j ≢ o.group → money_of more j ≡ money_of h j) → OrderSim N more more-book more-places
    more_sim others =
        let g : ℕ = o.group in
        let m : Money = money_of more o.group in
        let c = counts N h rs bs ps host s in
        let low : o.group < 64 = omega (arith, ok.group, groups_few) in
        let last : n + 1 - 1 ≡ n = omega arith in
        record {
          places = places_of_accepted (put_money bs g m) (n + 1) ∙ places_of_put bs g m ∙ s.places;
          accepted = accepted-same (put_money bs g m) (n + 1) (length-put-money bs g m ∙ book.book-length) ∙ sym more_count;
          money = λ j.
              money_of_accepted (put_money bs g m) (n + 1) j
              ∙ same j o.group (λ e. rw e (money-same bs g m low book.book-length)) (λ d. money_other bs g m j d ∙ s.money j ∙ sym (others j d));
          stands = λ k x y.
              same k (n + 1)
              (λ e.
              ap (λ (z : ℕ). place_at more-places z) e
              ∙ place_same ps (n + 1) (place_of o) (omega arith) (omega (arith, c)) (omega (arith, room))
              ∙ ap place_of (sym (get_or-append_seam h.orders o [] no_order))
              ∙ ap (λ (z : ℕ). place_of (get_or (h.orders ++ (o ∷ [])) z no_order)) (sym last)
              ∙ ap (λ (z : ℕ). place_of (get_or (h.orders ++ (o ∷ [])) (z - 1) no_order)) (sym e))
              (λ d.
              let l : k - 1 < n = omega (arith, d, more_count) in
              place_other ps (n + 1) (place_of o) k d
              ∙ s.stands k x (omega arith)
              ∙ ap place_of (sym (get_or-append h.orders (o ∷ []) no_order (k - 1) l)));
          known = more_known;
        }

    more_host : host_ok rs more-book more-places ≡ true
    unfolding host_ok
    more_host =
        let g : ℕ = o.group in
        let m : Money = money_of more o.group in
        let e : ℕ = asks.groups_enrolled rs in
        let p = known_places bs ps e book more-places (length-put-place ps (n + 1) (place_of o)) in
        let q = known_put-money bs more-places e p g m (fits_in m (more-fits g)) in
        rw a.sound (known_book more-book more-places e (known_put-accepted (put_money bs g m) more-places e q (n + 1) (omega (arith, places_of_put bs g m, s.places))))

  -- ---- an order changed

  module _ (k left : ℕ) (fs : List Filled) (low : 1 ≤ k) (high : k ≤ n) (ok : OrderKnown groups (with_open (order_at h k) left fs)) where
    abbrev changed : History
    changed = changed_order h k (with_open (order_at h k) left fs)

    changed-at : k - 1 < n
    changed-at = omega arith

    changed_known : AllKnown groups changed.orders
    changed_known = all_set groups h.orders (k - 1) (with_open (order_at h k) left fs) changed-at s.known ok

    changed_count : length changed.orders ≡ n
    changed_count = length-set h.orders (k - 1) (with_open (order_at h k) left fs)

    changed-fits : (g : ℕ) → booked.money_fits (money_of changed g) ≡ true
    changed-fits g = money-fits groups changed changed_known (omega (arith, changed_count, counts N h rs bs ps host s)) (in_group g)

    abbrev changed-book : List ℕ
    changed-book = put_money bs (order_at h k).group (money_of changed (order_at h k).group)

    abbrev changed-places : List ℕ
    changed-places = put_open ps k left

    changed_sim : ((j : ℕ) → j ≢ (order_at h k).group → money_of changed j ≡ money_of h j) → OrderSim N changed changed-book changed-places
    changed_sim others =
        let g : ℕ = (order_at h k).group in
        let m : Money = money_of changed (order_at h k).group in
        let now : Ordered = with_open (order_at h k) left fs in
        let c = counts N h rs bs ps host s in
        let few : (order_at h k).group < 64 = omega (arith, ok.group, groups_few) in
        record {
          places = places_of_put bs g m ∙ s.places;
          accepted = accepted_of_put bs g m ∙ s.accepted ∙ sym changed_count;
          money = λ j.
              same j (order_at h k).group (λ e. rw e (money-same bs g m few book.book-length)) (λ d. money_other bs g m j d ∙ s.money j ∙ sym (others j d));
          stands = λ j x y.
              same j k
              (λ e.
              ap (λ (z : ℕ). place_at changed-places z) e
              ∙ open_same ps k left low (omega (arith, c)) (omega (arith, room, c))
              ∙ ap (λ (z : Place). record { group = z.group; kind = z.kind; price = z.price; «open» = left }) (s.stands k low high)
              ∙ ap place_of (sym (get_or-set_same h.orders (k - 1) now no_order changed-at))
              ∙ ap (λ (z : ℕ). place_of (get_or changed.orders (z - 1) no_order)) (sym e))
              (λ d.
              let f : j - 1 ≢ k - 1 = λ z. d (omega arith) in
              open_other ps k left j d
              ∙ s.stands j x (omega (arith, changed_count))
              ∙ ap place_of (sym (get_or-set_other h.orders (k - 1) (j - 1) now no_order f)));
          known = changed_known;
        }

    changed_host : host_ok rs changed-book changed-places ≡ true
    unfolding host_ok
    changed_host =
        let g : ℕ = (order_at h k).group in
        let m : Money = money_of changed (order_at h k).group in
        let e : ℕ = asks.groups_enrolled rs in
        let p = known_places bs ps e book changed-places (length-put_open ps k left) in
        rw a.sound (known_book changed-book changed-places e (known_put-money bs changed-places e p g m (fits_in m (changed-fits g))))

-- ---- 4 and 5: calls 8 to 10

module _ (N : ℕ) (rule : Rule) (h : History) (rs bs ps : List ℕ) (a : Asked h rs) (host : host_ok rs bs ps ≡ true) (s : OrderSim N h bs ps) where
  -- ---- call 8

  order_reads_lem : (u : ℕ) → past.is_attached h u ≡ true → calls.order_reads rs bs u ≡ past.order_reads N h u
  order_reads_lem u t = rw (a.attached-same u, a.group_same u, a.own_same u t, s.money (past.group_of h u), s.places, s.accepted)

  pub order-listed : (u k : ℕ) (p : Mils) (q : ℕ) → calls.order_listed rule rs bs ps u k p q ≡ past.refusal_of N rule h (Order u k p q)
  unfolding past.refusals
  order-listed u k p q = rw host (order_alike rule u k p q (calls.order_reads rs bs u) (past.order_reads N h u) (a.attached-same u) (order_reads_lem u))

  module _ (u k : ℕ) (p : Mils) (q : ℕ) where
    abbrev fresh : Ordered
    fresh = ordered u k p q (past.group_of h u)

    order_known : past.refusal_of N rule h (Order u k p q) ≡ 0 → OrderKnown (length h.groups) fresh × (length h.orders < N)
    order_known e =
        let c = order_clear rule rs bs ps u k p q (order-listed u k p q ∙ e) in (
          known_fresh (length h.groups) u k p q (past.group_of h u) (omega (arith, c.group, a.enrolled, a.group_same u)) c.kind_known c.priced c.quantity_high,
          omega (arith, c.room, s.accepted, s.places),
        )

    order_booked_lem : past.refusal_of N rule h (Order u k p q) ≡ 0 → calls.order_booked rs bs u k p q ≡ done (money_of (accept h (Order u k p q)) (past.group_of h u))
    unfolding booked.booked_order accept
    order_booked_lem e =
        let g : ℕ = past.group_of h u in
        let f = order_known e in
        let x = more_here h u k p q (past.group_of h u) (in_group (past.group_of h u)) (eq-eqb (past.group_of h u) (past.group_of h u) refl) in
        let y : booked.money_fits (booked.ordered_money (money_of h (past.group_of h u)) k p q) ≡ true = ap booked.money_fits (sym x) ∙ more-fits N h rs bs ps a host s fresh f.0 f.1 g in
        rw (a.group_same u, s.money (past.group_of h u))
        (booking-fits (money_of h g) (booked.ordered_money (money_of h g) k p q) y ∙ ap done (sym x))

    pub order_same : calls.order_refusal rule rs bs ps u k p q ≡ past.refusal_of N rule h (Order u k p q)
    unfolding calls.order_refusal
    order_same =
        rw (order-listed u k p q)
        (unbroken (past.refusal_of N rule h (Order u k p q)) (calls.order_booked rs bs u k p q) (λ e. ap (λ (b : Booked). b.ok) (order_booked_lem e)))

    module _ (e : past.refusal_of N rule h (Order u k p q) ≡ 0) where
      order-book_is : calls.order_book rule rs bs ps u k p q ≡ more-book N h rs bs ps a host s fresh (order_known e).0 (order_known e).1
      unfolding calls.order_book accept
      order-book_is = rw (order_same ∙ e, order_booked_lem e, a.group_same u, s.accepted)

      order-places_is : calls.order_places rule rs bs ps u k p q ≡ more-places N h rs bs ps a host s fresh (order_known e).0 (order_known e).1
      unfolding calls.order_places
      order-places_is = rw (order_same ∙ e, a.group_same u, s.accepted)

      pub order_sim : OrderSim N (accept h (Order u k p q)) (calls.order_book rule rs bs ps u k p q) (calls.order_places rule rs bs ps u k p q)
      unfolding accept
      order_sim =
          rw (order-book_is, order-places_is)
          (more_sim N h rs bs ps a host s fresh (order_known e).0 (order_known e).1 (λ j d. more_else h u k p q (past.group_of h u) (in_group j) (ne_eqb (past.group_of h u) j (λ z. d (sym z)))))

      pub order_host : host_ok rs (calls.order_book rule rs bs ps u k p q) (calls.order_places rule rs bs ps u k p q) ≡ true
      order_host = rw (order-book_is, order-places_is) (more_host N h rs bs ps a host s fresh (order_known e).0 (order_known e).1)

  -- ---- the place that a fill or a cancel names

  place_sound : (o : Ordered) → OrderKnown (length h.groups) o → place_ok (place_of o) (asks.groups_enrolled rs) ≡ true
  place_sound o k =
      let w = within_true 1 6 o.kind k.kind in
      known_place (place_of o) (asks.groups_enrolled rs) (omega (arith, k.group, a.enrolled)) (omega (arith, k.group, groups_few N h rs bs ps a host s)) w.0 w.1 k.priced k.«open»

  given_known : (k : ℕ) → 1 ≤ k → k ≤ length h.orders → OrderKnown (length h.groups) (order_at h k)
  given_known k l m = s.known (k - 1) (omega arith)

  named : (k : ℕ) → named_ok rs bs ps k ≡ true
  unfolding named_ok
  named k = rw s.accepted (go (within 1 (length h.orders) k) refl)
    where
      go : (t : Bool) → within 1 (length h.orders) k ≡ t → not (t && not (place_ok (place_at ps k) (asks.groups_enrolled rs))) ≡ true
      go false e = refl
      go true e =
          let w = within_true 1 (length h.orders) k e in
          rw (s.stands k w.0 w.1, place_sound (order_at h k) (given_known k w.0 w.1))

  given-same : (k : ℕ) → is_given bs k ≡ within 1 (length h.orders) k
  given-same k = ap (λ (x : ℕ). within 1 x k) s.accepted

  place_reads_lem : (k : ℕ) → within 1 (length h.orders) k ≡ true → calls.place_reads bs ps k ≡ past.place_reads h k
  place_reads_lem k e = let w = within_true 1 (length h.orders) k e in rw (s.accepted, s.stands k w.0 w.1)

  -- ---- call 9

  fill-listed : (k : ℕ) (p : Mils) (q : ℕ) → calls.fill_listed rs bs ps k p q ≡ past.refusal_of N rule h (Fill k p q)
  unfolding past.refusals
  fill-listed k p q = rw (host, named k) (fill_alike k p q (calls.place_reads bs ps k) (past.place_reads h k) (given-same k) (place_reads_lem k))

  module _ (k : ℕ) (p : Mils) (q : ℕ) where
    abbrev filling : ℕ
    filling = (order_at h k).«open» - q

    abbrev filled-now : List Filled
    filled-now = (order_at h k).fills ++ (record { price = p; quantity = q } ∷ [])

    record FillFacts : Type 0 where
      pub low : 1 ≤ k
      pub high : k ≤ length h.orders
      pub most : q ≤ (order_at h k).«open»
      pub ok : OrderKnown (length h.groups) (filled p q (order_at h k))

    fill_facts : past.refusal_of N rule h (Fill k p q) ≡ 0 → FillFacts
    fill_facts e =
        let c = fill_clear rs bs ps k p q (fill-listed k p q ∙ e) in
        let l = c.named.number-low in
        let m : k ≤ length h.orders = omega (arith, c.named.number-high, s.accepted) in
        let z : (place_at ps k).«open» ≡ (order_at h k).«open» = ap (λ (x : Place). x.«open») (s.stands k l m) in
        let o : q ≤ (order_at h k).«open» = omega (arith, c.open_most, z) in
        record { low = l; high = m; most = o; ok = known_filled (length h.groups) (order_at h k) p q (given_known k l m) o c.price_high }

    fill_booked_lem : past.refusal_of N rule h (Fill k p q) ≡ 0 → calls.fill_booked bs ps k p q ≡ done (money_of (accept h (Fill k p q)) (order_at h k).group)
    unfolding booked.booked_fill accept
    fill_booked_lem e =
        let f = fill_facts e in
        let g : ℕ = (order_at h k).group in
        let i : k - 1 < length h.orders = omega (arith, f.low, f.high) in
        let x = moved_here h k filling q (p.0 * q) filled-now i (omega (arith, f.most)) (filled_more (order_at h k) p q) (in_group g) (eq-eqb g g refl) in
        let y = ap booked.money_fits (sym x) ∙ changed-fits N h rs bs ps a host s k filling filled-now f.low f.high f.ok g in
        rw (s.stands k f.low f.high, s.money (order_at h k).group)
        (booking_off_fits (money_of h g) (booked.open_taken (place_of (order_at h k)) q) (booked.filled_money (money_of h g) (place_of (order_at h k)) p q) (open_part h (in_group g) (k - 1) q i (eq-eqb g g refl) f.most) y ∙ ap done (sym x))

    pub fill-same : calls.fill_refusal rs bs ps k p q ≡ past.refusal_of N rule h (Fill k p q)
    unfolding calls.fill_refusal
    fill-same =
        rw (fill-listed k p q)
        (unbroken (past.refusal_of N rule h (Fill k p q)) (calls.fill_booked bs ps k p q) (λ e. ap (λ (b : Booked). b.ok) (fill_booked_lem e)))

    module _ (e : past.refusal_of N rule h (Fill k p q) ≡ 0) where
      fill-book_is : calls.fill_book rs bs ps k p q ≡ changed-book N h rs bs ps a host s k filling filled-now (fill_facts e).low (fill_facts e).high (fill_facts e).ok
      unfolding calls.fill_book accept
      fill-book_is = rw (fill-same ∙ e, fill_booked_lem e, s.stands k (fill_facts e).low (fill_facts e).high)

      fill-places_is : calls.fill_places rs bs ps k p q ≡ put_open ps k filling
      unfolding calls.fill_places
      fill-places_is = rw (fill-same ∙ e, s.stands k (fill_facts e).low (fill_facts e).high)

      pub fill_sim : OrderSim N (accept h (Fill k p q)) (calls.fill_book rs bs ps k p q) (calls.fill_places rs bs ps k p q)
      unfolding accept
      fill_sim =
          let f = fill_facts e in
          rw (fill-book_is, fill-places_is)
          (changed_sim N h rs bs ps a host s k filling filled-now f.low f.high f.ok
          (λ j d. moved_else h k filling q (p.0 * q) filled-now (omega (arith, f.low, f.high)) (omega (arith, f.most)) (filled_more (order_at h k) p q) (in_group j) (ne_eqb (order_at h k).group j (λ z. d (sym z)))))

      pub fill_host : host_ok rs (calls.fill_book rs bs ps k p q) (calls.fill_places rs bs ps k p q) ≡ true
      fill_host =
          let f = fill_facts e in
          rw (fill-book_is, fill-places_is) (changed_host N h rs bs ps a host s k filling filled-now f.low f.high f.ok)

  -- ---- call 10

  cancel-listed : (k : ℕ) → calls.cancel_listed rs bs ps k ≡ past.refusal_of N rule h (Cancel k)
  unfolding past.refusals
  cancel-listed k = rw (host, named k) (cancel_alike k (calls.place_reads bs ps k) (past.place_reads h k) (given-same k) (place_reads_lem k))

  module _ (k : ℕ) where
    record CancelFacts : Type 0 where
      pub low : 1 ≤ k
      pub high : k ≤ length h.orders
      pub ok : OrderKnown (length h.groups) (cancelled (order_at h k))

    cancel_facts : past.refusal_of N rule h (Cancel k) ≡ 0 → CancelFacts
    cancel_facts e =
        let c = cancel_clear rs bs ps k (cancel-listed k ∙ e) in
        let l = c.named.number-low in
        let m : k ≤ length h.orders = omega (arith, c.named.number-high, s.accepted) in
        record { low = l; high = m; ok = known_cancelled (length h.groups) (order_at h k) (given_known k l m) }

    nothing-more : filled_money (cancelled (order_at h k)) ≡ filled_money (order_at h k) + 0
    nothing-more = omega (arith, cancelled-same (order_at h k))

    cancel_here : k - 1 < length h.orders → money_of (accept h (Cancel k)) (order_at h k).group ≡ booked.cancelled_money (money_of h (order_at h k).group) (place_of (order_at h k))
    unfolding accept
    cancel_here i =
        let b : (money_of h (order_at h k).group).bought.0 + 0 ≡ (money_of h (order_at h k).group).bought.0 = omega arith in
        let c : (money_of h (order_at h k).group).sold.0 + 0 ≡ (money_of h (order_at h k).group).sold.0 = omega arith in
        moved_here h k 0 (order_at h k).«open» 0 (order_at h k).fills i (omega arith) nothing-more (in_group (order_at h k).group) (eq-eqb (order_at h k).group (order_at h k).group refl)
        ∙ rw (when_zero (is_buy (order_at h k).kind), when_zero (not (is_buy (order_at h k).kind)), b, c)

    cancel_booked_lem : past.refusal_of N rule h (Cancel k) ≡ 0 → calls.cancel_booked bs ps k ≡ done (money_of (accept h (Cancel k)) (order_at h k).group)
    unfolding booked.booked_cancel accept
    cancel_booked_lem e =
        let f = cancel_facts e in
        let g : ℕ = (order_at h k).group in
        let i : k - 1 < length h.orders = omega (arith, f.low, f.high) in
        let x = cancel_here i in
        let y = ap booked.money_fits (sym x) ∙ changed-fits N h rs bs ps a host s k 0 (order_at h k).fills f.low f.high f.ok g in
        rw (s.stands k f.low f.high, s.money (order_at h k).group)
        (booking_off_fits (money_of h g) (booked.open_taken (place_of (order_at h k)) (order_at h k).«open») (booked.cancelled_money (money_of h g) (place_of (order_at h k))) (open_part h (in_group g) (k - 1) (order_at h k).«open» i (eq-eqb g g refl) (omega arith)) y ∙ ap done (sym x))

    pub cancel-same : calls.cancel_refusal rs bs ps k ≡ past.refusal_of N rule h (Cancel k)
    unfolding calls.cancel_refusal
    cancel-same =
        rw (cancel-listed k)
        (unbroken (past.refusal_of N rule h (Cancel k)) (calls.cancel_booked bs ps k) (λ e. ap (λ (b : Booked). b.ok) (cancel_booked_lem e)))

    module _ (e : past.refusal_of N rule h (Cancel k) ≡ 0) where
      cancel-book_is : calls.cancel_book rs bs ps k ≡ changed-book N h rs bs ps a host s k 0 (order_at h k).fills (cancel_facts e).low (cancel_facts e).high (cancel_facts e).ok
      unfolding calls.cancel_book accept
      cancel-book_is = rw (cancel-same ∙ e, cancel_booked_lem e, s.stands k (cancel_facts e).low (cancel_facts e).high)

      cancel-places_is : calls.cancel_places rs bs ps k ≡ put_open ps k 0
      unfolding calls.cancel_places
      cancel-places_is = rw (cancel-same ∙ e)

      pub cancel_sim : OrderSim N (accept h (Cancel k)) (calls.cancel_book rs bs ps k) (calls.cancel_places rs bs ps k)
      unfolding accept
      cancel_sim =
          let f = cancel_facts e in
          rw (cancel-book_is, cancel-places_is)
          (changed_sim N h rs bs ps a host s k 0 (order_at h k).fills f.low f.high f.ok
          (λ j d. moved_else h k 0 (order_at h k).«open» 0 (order_at h k).fills (omega (arith, f.low, f.high)) (omega arith) nothing-more (in_group j) (ne_eqb (order_at h k).group j (λ z. d (sym z)))))

      pub cancel_host : host_ok rs (calls.cancel_book rs bs ps k) (calls.cancel_places rs bs ps k) ≡ true
      cancel_host =
          let f = cancel_facts e in
          rw (cancel-book_is, cancel-places_is) (changed_host N h rs bs ps a host s k 0 (order_at h k).fills f.low f.high f.ok)
