-- The money of a row fits, so that its sums do not wrap. Assumes nothing.
use Prim.Native.Nat.{ℕ, ◌+◌, ◌≤◌}
use mathlib.Core.Path.{◌≡◌}
use mathlib.Core.Bool.{true, ◌&&◌}
use borrow.Author.Tests.{leb-true}
use lib.Dec.{leb}
use Rattle.rules.specs.Tests.{both}
use Rattle.rules.specs.Limits.{top_code, top_money}
use Rattle.rules.specs.Money.{Limit}
use Rattle.rules.specs.declared.kinds.Money.{Money}
use Rattle.orders.specs.Booking.{money_fits}
use Rattle.rows.specs.Row.{class_kept, limits_kept, row_obeys}

pub fits_known : (m : Money) → money_fits m ≡ true → m.«open».0 + m.bought.0 + m.sold.0 ≤ top_money
unfolding money_fits
fits_known m e = leb-true (m.«open».0 + m.bought.0 + m.sold.0) top_money e

pub obeyed_fits : (code class : ℕ) (maximum own : Limit) (money : Money) → row_obeys code class maximum own money ≡ true → money_fits money ≡ true
unfolding row_obeys
obeyed_fits code class maximum own money e = (both (leb code top_code && (class_kept class && limits_kept maximum own)) (money_fits money) e).1
