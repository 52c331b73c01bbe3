-- The row of a group: what a listing has of it, "code .., class .., maximum .., own quota .., net .., open buys .., bought .., sold ..", and when
-- there is none. (Lines and columns)
use Rattle.std.specs.Prelude.{ℕ, zero, suc, ◌+◌, ◌-◌, ◌≤◌, ◌≡◌, refl, Bool, true, false, not, cond, ◌&&◌, List, [], ◌∷◌, leb, ltb, eqb, ℤ, pos, negsuc, Some, None, Result, Ok, Err}
use Rattle.std.proofs.Common.{ap, arith, ltb-true, eq-eqb}
use Rattle.std.proofs.lemmas.Bool.{false≢true}
use Rattle.rules.specs.Tests.{pick}
use Rattle.rules.specs.Limits.{is_code, is_class, is_group, brokerage, top_quota}
use Rattle.rules.specs.Money.{mils, Limit}
use Rattle.rules.specs.Quotas.{is_none}
use Rattle.rules.specs.Orders.{net_of}
use Rattle.rules.specs.Numbers.{number_of}
use Rattle.rules.specs.Refusals.{unsound_number, out_of_range_number, not_there_number, refusal, unless_refused}
use Rattle.rules.specs.declared.money.Millions.{Millions}
use Rattle.rules.specs.declared.kinds.Money.{Money}
use Rattle.rules.specs.declared.refusals.Refusal.{Refusal}
use Rattle.register.specs.Layout.{group_at}
use Rattle.quota.specs.Asks.{is_enrolled, own_in_force}
use Rattle.book.specs.Layout.{no_money, money_at}
use Rattle.orders.specs.Host.{host_ok}
use Rattle.orders.specs.Booking.{money_fits}
use Rattle.rows.specs.declared.Net.{Net}
use Rattle.rows.specs.declared.Row.{Row}

-- "net = open + bought − sold", as sign and size: below 0 where more is sold (Lines and columns)
unfoldable pub signed_net : Money → Net
signed_net m =
    pick (ltb (m.«open».0 + m.bought.0) m.sold.0)
    (record { below = true; size = mils (m.sold.0 - (m.«open».0 + m.bought.0)) })
    (record { below = false; size = mils (m.«open».0 + m.bought.0 - m.sold.0) })

-- "class 1, 3 or 4" (Lines and columns)
abbrev pub class_kept : ℕ → Bool
class_kept class = is_class class && not (eqb class brokerage)

-- "own quota at most maximum"; no own quota is missing where there is a maximum (Lines and columns)
abbrev pub at_most : Limit → Millions → Bool
at_most None maximum = false
at_most (Some own) maximum = leb own.0 maximum.0

-- "listing rows, written or read, may show maximum 0 from now on" (2026-01; before, "maximum 1 or more"); ""-" stands for a maximum of none, and then
-- for own quota" (Lines and columns)
abbrev pub limits_kept : Limit → Limit → Bool
limits_kept None own = is_none own
limits_kept (Some maximum) own = leb maximum.0 top_quota && at_most own maximum

-- "A row obeys: each field in its range; class 1, 3 or 4; .. own quota at most maximum; open + bought + sold at most L" (Lines and columns)
unfoldable pub row_obeys : ℕ → ℕ → Limit → Limit → Money → Bool
row_obeys code class maximum own money = (is_code code && (class_kept class && limits_kept maximum own)) && money_fits money

-- two signs are the same
abbrev pub agree : Bool → Bool → Bool
agree true b = b
agree false b = not b

-- "net = open + bought − sold" (Lines and columns)
abbrev pub net_kept : Bool → ℕ → Net → Bool
net_kept below size net = agree below net.below && eqb size net.size.0

-- the rules of a whole row
unfoldable pub row_kept : Row → Bool
row_kept r = row_obeys r.code r.class r.maximum r.own r.money && net_kept r.below r.net.0 (signed_net r.money)

-- no row, and a refused read
abbrev pub no_row : Row
no_row = record { code = 0; class = 0; maximum = None; own = None; money = no_money; below = false; net = mils 0 }

-- a row read: the refusal's number, or 0, and the row, or one of zeros
pub record RowRead : Type 0 where
  pub refusal : ℕ
  pub row : Row

abbrev pub refused_row : ℕ → RowRead
refused_row n = record { refusal = n; row = no_row }

abbrev pub made_row : ℕ → ℕ → Limit → Limit → Money → RowRead
made_row code class maximum own money = record {
  refusal = 0;
  row = record { code = code; class = class; maximum = maximum; own = own; money = money; below = (signed_net money).below; net = (signed_net money).size };
}

-- what the functions answer, as a row read: a refusal by its number and no row, else 0 and the row
abbrev pub row_told : Result Row Refusal → RowRead
row_told (Ok row) = record { refusal = 0; row = row }
row_told (Err r) = refused_row (number_of r)

-- the row of these figures; refused by 1 where it would break its rules
unfoldable pub shown_row : ℕ → ℕ → Limit → Limit → Money → RowRead
shown_row code class maximum own money =
    pick (row_obeys code class maximum own money)
    (made_row code class maximum own money)
    (refused_row unsound_number)

-- the list: the host's memory, the group's number, its enrolment
unfoldable pub row_refusal : List ℕ → List ℕ → List ℕ → ℕ → ℕ
row_refusal rs bs ps group =
    refusal ((unsound_number, not (host_ok rs bs ps)) ∷ (out_of_range_number, not (is_group group)) ∷ (not_there_number, not (is_enrolled rs group)) ∷ [])

-- the row that a group's words say, whether or not the rest of the memory is sound
unfoldable pub row_at : List ℕ → List ℕ → ℕ → RowRead
row_at rs bs group = shown_row (group_at rs group).code (group_at rs group).class (group_at rs group).quota.maximum (own_in_force rs group) (money_at bs group)

unfoldable pub row_of : List ℕ → List ℕ → List ℕ → ℕ → RowRead
row_of rs bs ps group = unless_refused (row_refusal rs bs ps group) (row_at rs bs group) (refused_row (row_refusal rs bs ps group))

-- laws

-- "group number 0 to 63": a row of group 64 is refused by 2, one of group 63 that is not enrolled by 6, and neither where it is (Money and names)
pub row_numbers : (rs bs ps : List ℕ) → host_ok rs bs ps ≡ true → is_enrolled rs 64 ≡ false → is_enrolled rs 63 ≡ false → (row_refusal rs bs ps 64 ≡ 2) × (row_refusal rs bs ps 63 ≡ 6)
unfolding row_refusal
row_numbers rs bs ps h e f = (rw h, rw (h, f))

pub row-given : (rs bs ps : List ℕ) → host_ok rs bs ps ≡ true → is_enrolled rs 63 ≡ true → row_refusal rs bs ps 63 ≡ 0
unfolding row_refusal
row-given rs bs ps h e = rw (h, e)

-- "lengths, N and figures first": 1 before 2 and 6
pub row_unsound : (rs bs ps : List ℕ) (group : ℕ) → host_ok rs bs ps ≡ false → row_refusal rs bs ps group ≡ 1
unfolding row_refusal
row_unsound rs bs ps group h = rw h

-- sign and size are the signed net
abbrev pub signed : Net → ℤ
signed n = cond n.below (negsuc (n.size.0 - 1)) (pos n.size.0)

pub net_is : (m : Money) → net_of m ≡ signed (signed_net m)
unfolding net_of signed_net
net_is m = go (ltb (m.«open».0 + m.bought.0) m.sold.0)
  where
    go : (t : Bool) → cond t (negsuc (m.sold.0 - suc (m.«open».0 + m.bought.0))) (pos (m.«open».0 + m.bought.0 - m.sold.0))
        ≡ signed (pick {A = Net} t (record { below = true; size = mils (m.sold.0 - (m.«open».0 + m.bought.0)) }) (record { below = false; size = mils (m.«open».0 + m.bought.0 - m.sold.0) }))
    go true =
        let e : m.sold.0 - suc (m.«open».0 + m.bought.0) ≡ m.sold.0 - (m.«open».0 + m.bought.0) - 1 = omega arith in
        ap negsuc e
    go false = refl

-- "no "-0"": a net below 0 has a size (Lines and columns)
pub below_sized : (m : Money) → (signed_net m).below ≡ true → 1 ≤ (signed_net m).size.0
unfolding signed_net
below_sized m b = go (ltb (m.«open».0 + m.bought.0) m.sold.0) refl b
  where
    go : (t : Bool) → ltb (m.«open».0 + m.bought.0) m.sold.0 ≡ t
        → (pick {A = Net} t (record { below = true; size = mils (m.sold.0 - (m.«open».0 + m.bought.0)) }) (record { below = false; size = mils (m.«open».0 + m.bought.0 - m.sold.0) })).below ≡ true
        → 1 ≤ (pick {A = Net} t (record { below = true; size = mils (m.sold.0 - (m.«open».0 + m.bought.0)) }) (record { below = false; size = mils (m.«open».0 + m.bought.0 - m.sold.0) })).size.0
    go true e k = omega (arith, ltb-true (m.«open».0 + m.bought.0) m.sold.0 e)
    go false e k = absurd (false≢true k)

agree_refl : (b : Bool) → agree b b ≡ true
agree_refl true = refl
agree_refl false = refl

-- a row that is handed out keeps its rules
pub shown_kept : (code class : ℕ) (maximum own : Limit) (money : Money) → (shown_row code class maximum own money).refusal ≡ 0 → row_kept (shown_row code class maximum own money).row ≡ true
unfolding shown_row row_kept
shown_kept code class maximum own money z = go (row_obeys code class maximum own money) refl z
  where
    go : (b : Bool) → row_obeys code class maximum own money ≡ b → (pick b (made_row code class maximum own money) (refused_row unsound_number)).refusal ≡ 0
        → row_kept (pick b (made_row code class maximum own money) (refused_row unsound_number)).row ≡ true
    go true e k = rw (e, agree_refl (signed_net money).below, eq-eqb (signed_net money).size.0 (signed_net money).size.0 refl)
    go false e k = absurd (omega (arith, k))

pub row-at_kept : (rs bs : List ℕ) (group : ℕ) → (row_at rs bs group).refusal ≡ 0 → row_kept (row_at rs bs group).row ≡ true
unfolding row_at
row-at_kept rs bs group z = shown_kept (group_at rs group).code (group_at rs group).class (group_at rs group).quota.maximum (own_in_force rs group) (money_at bs group) z

pub row_of_kept : (rs bs ps : List ℕ) (group : ℕ) → (row_of rs bs ps group).refusal ≡ 0 → row_kept (row_of rs bs ps group).row ≡ true
unfolding row_of
row_of_kept rs bs ps group z = go (row_refusal rs bs ps group) z
  where
    go : (q : ℕ) → (unless_refused q (row_at rs bs group) (refused_row q)).refusal ≡ 0 → row_kept (unless_refused q (row_at rs bs group) (refused_row q)).row ≡ true
    go zero k = row-at_kept rs bs group k
    go (suc q) k = absurd (omega (arith, k))
