-- The room left to a group: own quota − net, in mils, as sign and size; none where the maximum is none, since no own quota is in force then. It is not
-- in the papers: a router works it out of a row, and this is what it has to be. "A buy is accepted only if net, before it, is below the own quota" (Orders):
-- so a buy passes exactly where there is room, `room_lets_in`.
use Rattle.std.specs.Prelude.{ℕ, zero, suc, ◌+◌, ◌-◌, ◌*◌, ◌≤◌, min, ◌≡◌, refl, Bool, true, false, not, cond, ◌&&◌, ltb, pos, negsuc, ◌-ℤ◌, Option, Some, None}
use Rattle.std.proofs.Common.{sym, ap, ◌∙◌, arith, lt-ltb, le-ltb, ltb-true, ltb-false}
use Rattle.std.proofs.lemmas.Bool.{false≢true}
use Rattle.rules.specs.Tests.{pick}
use Rattle.rules.specs.Limits.{top_money, top_quota, mils_aMillion}
use Rattle.rules.specs.Money.{mils, mils_of, Limit}
use Rattle.rules.specs.Orders.{net_of, shanghai}
use Rattle.rules.specs.declared.money.Millions.{Millions}
use Rattle.rules.specs.declared.money.Mils.{Mils}
use Rattle.rows.specs.declared.Net.{Net}
use Rattle.rows.specs.declared.Row.{Row}
use Rattle.rows.specs.Row.{signed, row_kept, net_is}
use Rattle.rows.specs.Kept.{ruled}

-- a − b as sign and size
unfoldable pub difference : ℕ → ℕ → Net
difference a b = pick (ltb a b) (record { below = true; size = mils (b - a) }) (record { below = false; size = mils (a - b) })

-- A size of net above L counts as L, so that no sum wraps; a row that keeps its rules has none.
abbrev pub held_net : Mils → ℕ
held_net net = min net.0 top_money

-- own quota − net
unfoldable pub room_under : Millions → Bool → Mils → Net
room_under own below net = pick below (record { below = false; size = mils ((mils_of own).0 + held_net net) }) (difference (mils_of own).0 (held_net net))

-- the room: not given where the maximum is none
pub record Room : Type 0 where
  pub given : Bool
  pub left : Net

-- what the functions answer, as a room
abbrev pub room_told : Option Net → Room
room_told None = record { given = false; left = record { below = false; size = mils 0 } }
room_told (Some left) = record { given = true; left = left }

abbrev pub room_by : Limit → Bool → Mils → Room
room_by None below net = record { given = false; left = record { below = false; size = mils 0 } }
room_by (Some own) below net = record { given = true; left = room_under own below net }

unfoldable pub room_of : Row → Room
room_of r = room_by r.own r.below r.net

-- whether there is any
abbrev pub is_room : Room → Bool
is_room room = room.given && (not room.left.below && ltb 0 room.left.size.0)

-- laws

pos_minus : (a b : ℕ) → signed (difference a b) ≡ pos a -ℤ pos b
unfolding difference
pos_minus a zero = let e : ltb a 0 ≡ false = le-ltb a 0 (omega arith) in let f : a - 0 ≡ a + 0 = omega arith in rw e (ap pos f)
pos_minus a (suc b) = go (ltb a (suc b)) refl
  where
    go : (t : Bool) → ltb a (suc b) ≡ t
        → signed (pick {A = Net} t (record { below = true; size = mils (suc b - a) }) (record { below = false; size = mils (a - suc b) })) ≡ cond t (negsuc (suc b - suc a)) (pos (a - suc b))
    go true e = let f : suc b - a - 1 ≡ suc b - suc a = omega arith in ap negsuc f
    go false e = refl

under_is : (own : Millions) (below : Bool) (net : Mils) → net.0 ≤ top_money → (below ≡ true → 1 ≤ net.0)
    → signed (room_under own below net) ≡ pos (mils_of own).0 -ℤ signed (record { below = below; size = net })
unfolding room_under
under_is own true net h b =
    let f : (mils_of own).0 + held_net net ≡ (mils_of own).0 + suc (net.0 - 1) = omega (arith, b refl) in
    ap pos f
under_is own false net h b =
    let f : held_net net ≡ net.0 = omega arith in
    rw f (pos_minus (mils_of own).0 net.0)

-- the room of a row that keeps its rules is own quota − net, an integer
pub room_is : (r : Row) (own : Millions) → row_kept r ≡ true → r.own ≡ Some own
    → ((room_of r).given ≡ true) × (signed (room_of r).left ≡ pos (mils_of own).0 -ℤ net_of r.money)
unfolding room_of
room_is r own k e =
    let s = ruled r k in
    let known : signed (room_under own r.below r.net) ≡ pos (mils_of own).0 -ℤ signed (record { below = r.below; size = r.net }) =
    under_is own r.below r.net s.net s.below in
    let net : signed (record { below = r.below; size = r.net }) ≡ net_of r.money = ap signed s.signs ∙ sym (net_is r.money) in
    (rw e, rw e (known ∙ ap (λ z. pos (mils_of own).0 -ℤ z) net))

-- where the maximum is none there is none
pub no_room : (r : Row) → r.own ≡ None → (room_of r).given ≡ false
unfolding room_of
no_room r e = rw e

lets_in : (own : Millions) (below : Bool) (net amount : Mils) → net.0 ≤ top_money → (below ≡ true → 1 ≤ net.0)
    → is_room (room_by (Some own) below net) ≡ shanghai (mils_of own) (signed (record { below = below; size = net })) amount
unfolding room_under difference shanghai
lets_in own true net amount h b = let f : ltb 0 ((mils_of own).0 + held_net net) ≡ true = lt-ltb 0 ((mils_of own).0 + held_net net) (omega (arith, b refl)) in f
lets_in own false net amount h b = rw f (go (ltb (mils_of own).0 net.0) refl)
  where
    f : held_net net ≡ net.0
    f = omega arith

    go : (t : Bool) → ltb (mils_of own).0 net.0 ≡ t
        → is_room (record { given = true; left = pick {A = Net} t (record { below = true; size = mils (net.0 - (mils_of own).0) }) (record { below = false; size = mils ((mils_of own).0 - net.0) }) })
        ≡ ltb net.0 (mils_of own).0
    go true e = sym (le-ltb net.0 (mils_of own).0 (omega (arith, ltb-true (mils_of own).0 net.0 e)))
    go false e = go' (ltb net.0 (mils_of own).0) refl
      where
        go' : (t : Bool) → ltb net.0 (mils_of own).0 ≡ t → ltb 0 ((mils_of own).0 - net.0) ≡ t
        go' true q = lt-ltb 0 ((mils_of own).0 - net.0) (omega (arith, ltb-true net.0 (mils_of own).0 q))
        go' false q = le-ltb 0 ((mils_of own).0 - net.0) (omega (arith, ltb-false net.0 (mils_of own).0 q))

-- "A buy is accepted only if net, before it, is below the own quota" (Orders): a buy passes exactly where there is room, one mil or more
pub room_lets_in : (r : Row) (own : Millions) (amount : Mils) → row_kept r ≡ true → r.own ≡ Some own
    → is_room (room_of r) ≡ shanghai (mils_of own) (net_of r.money) amount
unfolding room_of
room_lets_in r own amount k e =
    let s = ruled r k in
    let net : signed (record { below = r.below; size = r.net }) ≡ net_of r.money = ap signed s.signs ∙ sym (net_is r.money) in
    rw e (lets_in own r.below r.net amount s.net s.below ∙ ap (λ z. shanghai (mils_of own) z amount) net)

-- its size has nineteen digits at most, so that it fits an i64 and 21 columns
pub room_small : (r : Row) → (room_of r).left.size.0 ≤ top_quota * mils_aMillion + top_money
unfolding room_of room_under difference mils_of
room_small r = go r.own r.below
  where
    small : (a b : ℕ) (t : Bool) → a ≤ top_quota * mils_aMillion → b ≤ top_money
        → (pick {A = Net} t (record { below = true; size = mils (b - a) }) (record { below = false; size = mils (a - b) })).size.0 ≤ top_quota * mils_aMillion + top_money
    small a b true h k = omega arith
    small a b false h k = omega arith

    go : (own : Limit) (below : Bool) → (room_by own below r.net).left.size.0 ≤ top_quota * mils_aMillion + top_money
    go None below = omega arith
    go (Some own) true = omega arith
    go (Some own) false = small (mils_of own).0 (held_net r.net) (ltb (mils_of own).0 (held_net r.net)) (omega arith) (omega arith)

-- "no "-0"" (Lines and columns): a room below 0 has a size
pub room_sized : (r : Row) → (room_of r).left.below ≡ true → 1 ≤ (room_of r).left.size.0
unfolding room_of room_under difference
room_sized r b = go r.own r.below b
  where
    sized : (x y : ℕ) (t : Bool) → ltb x y ≡ t
        → (pick {A = Net} t (record { below = true; size = mils (y - x) }) (record { below = false; size = mils (x - y) })).below ≡ true
        → 1 ≤ (pick {A = Net} t (record { below = true; size = mils (y - x) }) (record { below = false; size = mils (x - y) })).size.0
    sized x y true e h = omega (arith, ltb-true x y e)
    sized x y false e h = absurd (false≢true h)

    go : (own : Limit) (below : Bool) → (room_by own below r.net).left.below ≡ true → 1 ≤ (room_by own below r.net).left.size.0
    go None below h = absurd (false≢true h)
    go (Some own) true h = absurd (false≢true h)
    go (Some own) false h = sized (mils_of own).0 (held_net r.net) (ltb (mils_of own).0 (held_net r.net)) refl h
