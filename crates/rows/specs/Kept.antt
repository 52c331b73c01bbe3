-- What the rules of a whole row say, for those who write it into columns. Assumes nothing.
use Rattle.std.specs.Prelude.{ℕ, ◌+◌, ◌-◌, ◌≤◌, ◌≡◌, refl, Bool, true, false, not, ◌&&◌, leb, ltb, eqb}
use Rattle.std.proofs.Common.{sym, ◌∙◌, arith, leb-true, eqb-true}
use Rattle.std.proofs.lemmas.Bool.{false≢true}
use Rattle.rules.specs.Tests.{pick, both, within_true}
use Rattle.rules.specs.Limits.{is_code, is_class, brokerage, top_code, top_class, top_money}
use Rattle.rules.specs.Money.{mils}
use Rattle.rules.specs.declared.kinds.Money.{Money}
unfoldable pub use Rattle.orders.specs.Booking.{money_fits}
use Rattle.rows.specs.declared.Net.{Net}
use Rattle.rows.specs.declared.Row.{Row}
use Rattle.rows.specs.Row.{signed_net, class_kept, limits_kept, row_obeys, agree, net_kept, row_kept, below_sized}

agreed : (a b : Bool) → agree a b ≡ true → a ≡ b
agreed true b h = sym h
agreed false true h = absurd (false≢true h)
agreed false false h = refl

net_small : (m : Money) → m.«open».0 + m.bought.0 + m.sold.0 ≤ top_money → (signed_net m).size.0 ≤ top_money
unfolding signed_net
net_small m h = go (ltb (m.«open».0 + m.bought.0) m.sold.0)
  where
    go : (t : Bool) → (pick {A = Net} t (record { below = true; size = mils (m.sold.0 - (m.«open».0 + m.bought.0)) }) (record { below = false; size = mils (m.«open».0 + m.bought.0 - m.sold.0) })).size.0 ≤ top_money
    go true = omega arith
    go false = omega arith

pub record Ruled (r : Row) : Type 0 where
  pub code : r.code ≤ top_code
  pub class : r.class ≤ top_class
  pub limits : limits_kept r.maximum r.own ≡ true
  pub money : r.money.«open».0 + r.money.bought.0 + r.money.sold.0 ≤ top_money
  pub net : r.net.0 ≤ top_money
  pub below : r.below ≡ true → 1 ≤ r.net.0
  pub signs : record { below = r.below; size = r.net } ≡ signed_net r.money

pub ruled : (r : Row) → row_kept r ≡ true → Ruled r
unfolding row_kept row_obeys money_fits
ruled r h =
    let all : ℕ = r.money.«open».0 + r.money.bought.0 + r.money.sold.0 in
    let front : Bool = is_code r.code && (class_kept r.class && limits_kept r.maximum r.own) in
    let net : Net = signed_net r.money in
    let b₁ = both (front && leb all top_money) (net_kept r.below r.net.0 net) h in
    let b₂ = both front (leb all top_money) b₁.0 in
    let b₃ = both (is_code r.code) (class_kept r.class && limits_kept r.maximum r.own) b₂.0 in
    let b₄ = both (class_kept r.class) (limits_kept r.maximum r.own) b₃.1 in
    let b₅ = both (agree r.below net.below) (eqb r.net.0 net.size.0) b₁.1 in
    let class = within_true 1 top_class r.class (both (is_class r.class) (not (eqb r.class brokerage)) b₄.0).0 in
    let most : r.money.«open».0 + r.money.bought.0 + r.money.sold.0 ≤ top_money = leb-true all top_money b₂.1 in
    let size : r.net.0 ≡ (signed_net r.money).size.0 = eqb-true r.net.0 net.size.0 b₅.1 in
    let sign : r.below ≡ (signed_net r.money).below = agreed r.below net.below b₅.0 in
    record {
      code = leb-true r.code top_code b₃.0;
      class = class.1;
      limits = b₄.1;
      money = most;
      net = omega (arith, net_small r.money most);
      below = λ b. omega (arith, below_sized r.money (sym sign ∙ b));
      signs = rw (sign, size);
    }
