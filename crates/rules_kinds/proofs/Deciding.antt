-- What a kind decides, for buys that are no repo lending and for numbers that are no kind; and net in natural numbers. Assumes nothing.
use Prim.Native.Nat.{◌+◌}
use mathlib.Core.Path.{◌≡◌, sym}
use lib.Dec.{ltb}
use Rattle.rules.specs.Orders.{net_of, shanghai, below_pos}
use Rattle.rules.specs.declared.money.Mils.{Mils}
use Rattle.rules.specs.declared.kinds.Money.{Money}

-- Shanghai's rule in natural numbers
pub shanghai_sums : (own : Mils) (money : Money) (amount : Mils)
    → ltb (money.«open».0 + money.bought.0) (own.0 + money.sold.0) ≡ shanghai own (net_of money) amount
unfolding shanghai net_of
shanghai_sums own money amount = sym (below_pos (money.«open».0 + money.bought.0) money.sold.0 own.0)
