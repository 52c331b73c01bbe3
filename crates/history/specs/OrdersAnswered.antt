-- The table of answers, calls 8 to 11: every refusal number, both ends of every range, neighbours in the list, each kind's price rule and worse
-- fill, 16 one mil below, at and above, 17 to 20 at their edges. Expected values are worked out from document 01 alone. A line is a call and
-- what it is answered after the calls named beside the field.
use Rattle.std.specs.Prelude.{refl, [], ◌∷◌, ◌++◌}
use Rattle.rules.specs.Money.{mils_of}
use Rattle.rules.specs.Quotas.{quota_by, closed_quota}
use Rattle.rules.specs.Orders.{is_buy, price_rule, worse_fill, net_of, shanghai, stops}
use Rattle.rules.specs.Lists.{enrol_rules, attach_rules, detach_rules, regular_rules, raise_rules, withdraw_rules, own_quota_rules, order_rules, fill_rules, cancel_rules}
use Rattle.rules.specs.Keyed.{find, put, without}
use Rattle.rules.specs.Sums.{when, sum_over}
use Rattle.history.specs.Past.{filled_money, open_in, bought_in, sold_in, money_in}
use Rattle.history.specs.Answers.{is_taken, refusals, number_given, answer}
use Rattle.history.specs.Runs.{accept, next, after, answers}
use Rattle.history.specs.Told.{enrol, attach, raise, own_quota, order, fill, cancel, close, Of, After, DayOf, Day, three, morning, asked, expected, calls, names, enrols, attaches, declarers, ◌⇒◌, ◌takes◌}

pub record OrdersAnswered : Type 0 where
  -- call 8, order (unit, kind, price, quantity): 2, 6, 15, 16, 17

  -- units; "6: .. unit not attached"; 2 before it (Refusal list)
  pub order_units : After (morning ++ (attach 0 0 ∷ attach 99_999 0 ∷ [])) (
      order 0 1 1 1 takes 1
      ∷ order 99_999 1 1 1 takes 1
      ∷ order 100_000 1 1 1 ⇒ 2
      ∷ order 20_001 1 1 1 takes 1
      ∷ order 20_004 1 1 1 ⇒ 6
      ∷ order 20_004 5 0 1 ⇒ 6
      ∷ order 20_004 1 0 1 ⇒ 2
      ∷ order 20_004 7 1 1 ⇒ 2
      ∷ [])
  -- "Kinds: 1 .. 6" (Orders)
  pub order_kinds : After morning (
      order 20_001 0 1 1 ⇒ 2
      ∷ order 20_001 0 0 1 ⇒ 2
      ∷ order 20_001 1 100_000 1 takes 1
      ∷ order 20_001 2 100_000 1 takes 1
      ∷ order 20_001 3 100_000 1 takes 1
      ∷ order 20_001 4 100_000 1 takes 1
      ∷ order 20_001 5 0 1 takes 1
      ∷ order 20_001 6 100_000 1 takes 1
      ∷ order 20_001 7 100_000 1 ⇒ 2
      ∷ order 20_001 7 0 1 ⇒ 2
      ∷ [])
  -- "price 1 to 9,999,999": kinds 1, 2 and 4 (Money and names)
  pub order_prices : After morning (
      order 20_001 1 0 1 ⇒ 2
      ∷ order 20_001 1 1 1 takes 1
      ∷ order 20_001 1 9_999_999 1 takes 1
      ∷ order 20_001 1 10_000_000 1 ⇒ 2
      ∷ order 20_001 2 0 1 ⇒ 2
      ∷ order 20_001 2 1 1 takes 1
      ∷ order 20_001 2 9_999_999 1 takes 1
      ∷ order 20_001 2 10_000_000 1 ⇒ 2
      ∷ order 20_001 4 0 1 ⇒ 2
      ∷ order 20_001 4 1 1 takes 1
      ∷ order 20_001 4 9_999_999 1 takes 1
      ∷ order 20_001 4 10_000_000 1 ⇒ 2
      ∷ [])
  -- "Kinds 3 and 6 bear price 100,000." (Orders)
  pub order_repo : After morning (
      order 20_001 3 0 1 ⇒ 2
      ∷ order 20_001 3 99_999 1 ⇒ 2
      ∷ order 20_001 3 100_000 1 takes 1
      ∷ order 20_001 3 100_001 1 ⇒ 2
      ∷ order 20_001 6 0 1 ⇒ 2
      ∷ order 20_001 6 99_999 1 ⇒ 2
      ∷ order 20_001 6 100_000 1 takes 1
      ∷ order 20_001 6 100_001 1 ⇒ 2
      ∷ [])
  -- "5 market sell (price 0, the one exception to the range)" (Orders)
  pub order_market_sell : After morning (
      order 20_001 5 0 1 takes 1
      ∷ order 20_001 5 1 1 ⇒ 2
      ∷ order 20_001 5 100_000 1 ⇒ 2
      ∷ order 20_001 5 9_999_999 1 ⇒ 2
      ∷ [])
  -- "quantity 1 to 10,000,000" (Money and names)
  pub order_quantities : After morning (
      order 20_001 1 1 0 ⇒ 2
      ∷ order 20_001 1 1 1 takes 1
      ∷ order 20_001 1 1 10_000_000 takes 1
      ∷ order 20_001 1 1 10_000_001 ⇒ 2
      ∷ order 20_001 5 0 0 ⇒ 2
      ∷ order 20_001 5 0 1 takes 1
      ∷ order 20_001 5 0 10_000_000 takes 1
      ∷ order 20_001 5 0 10_000_001 ⇒ 2
      ∷ [])
  -- the largest order of all
  pub order_largest : After morning (
      order 20_001 1 9_999_999 10_000_000 takes 1
      ∷ order 20_001 4 9_999_999 10_000_000 takes 1
      ∷ [])
  -- "15: maximum is none (.. buys)": "Kinds 1, 2, 3 are buys"; 2 and 6 before it (Refusal list; Orders)
  pub order_no_maximum : After three (
      order 20_002 1 1 1 ⇒ 15
      ∷ order 20_002 2 1 1 ⇒ 15
      ∷ order 20_002 3 100_000 1 ⇒ 15
      ∷ order 20_002 4 1 1 takes 1
      ∷ order 20_002 5 0 1 takes 1
      ∷ order 20_002 6 100_000 1 takes 1
      ∷ order 20_002 1 0 1 ⇒ 2
      ∷ order 20_004 1 1 1 ⇒ 6
      ∷ [])
  -- "16: buy with net at or above the own quota": own 5 million yuan; net 1 mil below it, the order that crosses passes (Refusal list)
  pub order_below : After (morning ++ (own_quota 0 5 ∷ order 20_001 1 4_999_999 1_000 ∷ order 20_001 1 999 1 ∷ [])) (
      order 20_001 1 1 1 takes 3
      ∷ order 20_001 1 9_999_999 10_000_000 takes 3
      ∷ order 20_001 2 1 1 takes 3
      ∷ order 20_001 3 100_000 1 takes 3
      ∷ [])
  -- at it
  pub order-at : After (morning ++ (own_quota 0 5 ∷ order 20_001 2 5_000_000 1_000 ∷ [])) (
      order 20_001 1 1 1 ⇒ 16
      ∷ order 20_001 2 1 1 ⇒ 16
      ∷ order 20_001 3 100_000 1 ⇒ 16
      ∷ order 20_001 4 1 1 takes 2
      ∷ order 20_001 5 0 1 takes 2
      ∷ order 20_001 6 100_000 1 takes 2
      ∷ order 20_002 1 1 1 takes 2
      ∷ order 20_001 1 0 1 ⇒ 2
      ∷ order 20_003 1 1 1 ⇒ 15
      ∷ order 20_004 1 1 1 ⇒ 6
      ∷ [])
  -- 1 mil above it
  pub order-above : After (morning ++ (own_quota 0 5 ∷ order 20_001 1 5_000_000 999 ∷ order 20_001 1 4_999_999 1 ∷ order 20_001 1 2 1 ∷ [])) (
      order 20_001 1 1 1 ⇒ 16
      ∷ order 20_001 4 1 1 takes 4
      ∷ [])
  -- "Undeclared, it equals the maximum": 8 (Quotas)
  pub order_undeclared : After (morning ++ (order 20_001 1 7_999_999 1_000 ∷ order 20_001 1 999 1 ∷ [])) (
      order 20_001 1 1 1 takes 3
      ∷ own_quota 0 7 ⇒ 0
      ∷ [])
  -- and at it
  pub order_undeclared_at : After (morning ++ (order 20_001 3 100_000 80_000 ∷ [])) (
      order 20_001 1 1 1 ⇒ 16
      ∷ raise 1 0 9 0 ⇒ 0
      ∷ [])
  -- "holds immediately": own quota and emergency, between two buys; a cancel, a better fill and a sell's fill let a buy in again (Quotas)
  pub order_again : Day (
      enrol 1 3 takes 0
      ∷ attach 7 0 ⇒ 0
      ∷ raise 11 0 1 0 ⇒ 0
      ∷ order 7 1 1_000 1_000_000 takes 1
      ∷ order 7 1 1 1 ⇒ 16
      ∷ raise 11 0 2 0 ⇒ 0
      ∷ order 7 1 1_000 1_000_000 takes 2
      ∷ order 7 1 1 1 ⇒ 16
      ∷ fill 1 999 1 ⇒ 0
      ∷ order 7 1 1 1 takes 3
      ∷ order 7 1 1 1 ⇒ 16
      ∷ cancel 3 ⇒ 0
      ∷ own_quota 0 1 ⇒ 0
      ∷ order 7 1 1 1 ⇒ 16
      ∷ cancel 2 ⇒ 0
      ∷ order 7 1 1 1 takes 4
      ∷ [])
  -- "An accepted order takes the next number k from 1"; "17: N orders accepted since the close": N − 1, N; not freed by cancel, fill or refusal;
  -- freed by the close (Orders; Refusal list)
  pub order_numbers : DayOf 2 (
      enrol 1 1 takes 0
      ∷ attach 7 0 ⇒ 0
      ∷ attach 8 0 ⇒ 0
      ∷ order 7 5 0 1 takes 1
      ∷ order 7 5 1 1 ⇒ 2
      ∷ order 9 5 0 1 ⇒ 6
      ∷ order 7 1 1 1 ⇒ 15
      ∷ order 8 4 1 1 takes 2
      ∷ order 7 5 0 1 ⇒ 17
      ∷ order 8 6 100_000 1 ⇒ 17
      ∷ cancel 1 ⇒ 0
      ∷ fill 2 1 1 ⇒ 0
      ∷ order 7 5 0 1 ⇒ 17
      ∷ order 7 1 1 1 ⇒ 15
      ∷ order 9 5 0 1 ⇒ 6
      ∷ order 7 5 1 1 ⇒ 2
      ∷ close ⇒ 0
      ∷ order 7 5 0 1 takes 1
      ∷ order 7 5 0 1 takes 2
      ∷ order 7 5 0 1 ⇒ 17
      ∷ [])
  -- N = 1: 16 before 17, 17 for a buy below its own quota
  pub order-one-place : Of 1 (morning ++ (order 20_001 1 8_000_000 1_000 ∷ [])) (
      order 20_001 1 1 1 ⇒ 16
      ∷ order 20_002 1 1 1 ⇒ 17
      ∷ order 20_001 5 0 1 ⇒ 17
      ∷ order 20_003 1 1 1 ⇒ 15
      ∷ fill 1 8_000_000 1 ⇒ 0
      ∷ fill 2 1 1 ⇒ 18
      ∷ cancel 2 ⇒ 18
      ∷ [])
  -- call 9, fill (order, price, quantity): 2, 18, 19, 20

  -- "order number 1 to 65,536", price and quantity; "18: order number not given since the close":
  -- the last number is 2, N is 4 (Money and names; Refusal list)
  pub fill_ranges : After (morning ++ (order 20_001 5 0 10_000_000 ∷ order 20_001 1 500 10 ∷ [])) (
      fill 0 500 1 ⇒ 2
      ∷ fill 1 500 1 ⇒ 0
      ∷ fill 2 500 1 ⇒ 0
      ∷ fill 3 500 1 ⇒ 18
      ∷ fill 4 500 1 ⇒ 18
      ∷ fill 5 500 1 ⇒ 18
      ∷ fill 65_536 500 1 ⇒ 18
      ∷ fill 65_537 500 1 ⇒ 2
      ∷ fill 1 0 1 ⇒ 2
      ∷ fill 1 1 1 ⇒ 0
      ∷ fill 1 9_999_999 1 ⇒ 0
      ∷ fill 1 10_000_000 1 ⇒ 2
      ∷ fill 1 500 0 ⇒ 2
      ∷ fill 1 500 10_000_000 ⇒ 0
      ∷ fill 1 500 10_000_001 ⇒ 2
      ∷ fill 3 0 1 ⇒ 2
      ∷ fill 3 500 0 ⇒ 2
      ∷ fill 3 500 10_000_000 ⇒ 18
      ∷ fill 2 0 11 ⇒ 2
      ∷ [])
  -- "19: quantity above the open quantity"; before 20 (Refusal list)
  pub fill_open : After (morning ++ (order 20_001 1 500 10 ∷ fill 1 500 3 ∷ order 20_001 4 500 10 ∷ [])) (
      fill 1 500 6 ⇒ 0
      ∷ fill 1 500 7 ⇒ 0
      ∷ fill 1 500 8 ⇒ 19
      ∷ fill 1 501 8 ⇒ 19
      ∷ fill 1 501 7 ⇒ 20
      ∷ fill 2 500 10 ⇒ 0
      ∷ fill 2 500 11 ⇒ 19
      ∷ fill 2 499 11 ⇒ 19
      ∷ [])
  -- until nothing is open, by fills or by a cancel; a refused fill takes nothing; "order number not given since the close" (Refusal list)
  pub fill_until : Day (
      enrol 1 3 takes 0
      ∷ attach 7 0 ⇒ 0
      ∷ raise 11 0 9 0 ⇒ 0
      ∷ order 7 1 500 10 takes 1
      ∷ order 7 4 500 10 takes 2
      ∷ fill 1 500 4 ⇒ 0
      ∷ fill 1 500 7 ⇒ 19
      ∷ fill 1 501 1 ⇒ 20
      ∷ fill 1 1 5 ⇒ 0
      ∷ fill 1 500 1 ⇒ 0
      ∷ fill 1 500 1 ⇒ 19
      ∷ cancel 1 ⇒ 19
      ∷ fill 2 500 1 ⇒ 0
      ∷ cancel 2 ⇒ 0
      ∷ fill 2 500 1 ⇒ 19
      ∷ cancel 2 ⇒ 19
      ∷ close ⇒ 0
      ∷ fill 1 500 1 ⇒ 18
      ∷ cancel 2 ⇒ 18
      ∷ [])
  -- "20: fill price above the order's (kinds 1, 2)" (Refusal list)
  pub fill_buys : After (morning ++ (order 20_001 1 500 10 ∷ order 20_001 2 500 10 ∷ [])) (
      fill 1 1 1 ⇒ 0
      ∷ fill 1 499 1 ⇒ 0
      ∷ fill 1 500 1 ⇒ 0
      ∷ fill 1 501 1 ⇒ 20
      ∷ fill 1 9_999_999 1 ⇒ 20
      ∷ fill 2 1 1 ⇒ 0
      ∷ fill 2 499 1 ⇒ 0
      ∷ fill 2 500 1 ⇒ 0
      ∷ fill 2 501 1 ⇒ 20
      ∷ fill 2 9_999_999 1 ⇒ 20
      ∷ [])
  -- "below it (4)"; a market sell is filled at any price (Refusal list)
  pub fill_sells : After (morning ++ (order 20_001 4 500 10 ∷ order 20_001 5 0 10 ∷ [])) (
      fill 1 1 1 ⇒ 20
      ∷ fill 1 499 1 ⇒ 20
      ∷ fill 1 500 1 ⇒ 0
      ∷ fill 1 501 1 ⇒ 0
      ∷ fill 1 9_999_999 1 ⇒ 0
      ∷ fill 2 1 1 ⇒ 0
      ∷ fill 2 100_000 1 ⇒ 0
      ∷ fill 2 9_999_999 1 ⇒ 0
      ∷ [])
  -- "other than 100,000 (3, 6)" (Refusal list)
  pub fill_repo : After (morning ++ (order 20_001 3 100_000 10 ∷ order 20_001 6 100_000 10 ∷ [])) (
      fill 1 1 1 ⇒ 20
      ∷ fill 1 99_999 1 ⇒ 20
      ∷ fill 1 100_000 1 ⇒ 0
      ∷ fill 1 100_001 1 ⇒ 20
      ∷ fill 2 1 1 ⇒ 20
      ∷ fill 2 99_999 1 ⇒ 20
      ∷ fill 2 100_000 1 ⇒ 0
      ∷ fill 2 100_001 1 ⇒ 20
      ∷ [])
  -- call 10, cancel (order): 2, 18, 19

  -- "order number 1 to 65,536"; 18; "19: .. cancel with none open" (Money and names; Refusal list)
  pub cancelling : After (morning ++ (order 20_001 1 500 10 ∷ order 20_001 4 500 10 ∷ order 20_001 4 500 10 ∷ fill 1 500 3 ∷ fill 2 500 10 ∷ [])) (
      cancel 0 ⇒ 2
      ∷ cancel 1 ⇒ 0
      ∷ cancel 2 ⇒ 19
      ∷ cancel 3 ⇒ 0
      ∷ cancel 4 ⇒ 18
      ∷ cancel 5 ⇒ 18
      ∷ cancel 65_536 ⇒ 18
      ∷ cancel 65_537 ⇒ 2
      ∷ [])
  -- before the first order
  pub cancel-none : After morning (
      cancel 1 ⇒ 18
      ∷ fill 1 1 1 ⇒ 18
      ∷ cancel 0 ⇒ 2
      ∷ [])
  -- call 11, close: nothing of the list

  -- at the opening, after it, again
  pub closing : Day (
      close ⇒ 0
      ∷ enrol 1 1 takes 0
      ∷ close ⇒ 0
      ∷ close ⇒ 0
      ∷ [])

pub orders_answered : OrdersAnswered
unfolding asked expected calls names enrols attaches declarers answers answer after next number_given refusals accept is_taken find put without when sum_over filled_money open_in bought_in sold_in money_in net_of shanghai stops mils_of is_buy price_rule worse_fill quota_by closed_quota enrol_rules attach_rules detach_rules regular_rules raise_rules withdraw_rules own_quota_rules order_rules fill_rules cancel_rules
orders_answered = record {
  order_units = refl;
  order_kinds = refl;
  order_prices = refl;
  order_repo = refl;
  order_market_sell = refl;
  order_quantities = refl;
  order_largest = refl;
  order_no_maximum = refl;
  order_below = refl;
  order-at = refl;
  order-above = refl;
  order_undeclared = refl;
  order_undeclared_at = refl;
  order_again = refl;
  order_numbers = refl;
  order-one-place = refl;
  fill_ranges = refl;
  fill_open = refl;
  fill_until = refl;
  fill_buys = refl;
  fill_sells = refl;
  fill_repo = refl;
  cancelling = refl;
  cancel-none = refl;
  closing = refl;
}
