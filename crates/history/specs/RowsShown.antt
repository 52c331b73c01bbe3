-- The table of answers, what accepted calls leave: maximum, own quota, net, open buys, bought, sold of a group after the calls named. Expected
-- values are worked out from document 01 alone.
use Rattle.std.specs.Prelude.{refl, [], ◌∷◌, ◌++◌, pos, negsuc}
use Rattle.rules.specs.Money.{mils_of}
use Rattle.rules.specs.Quotas.{quota_by, closed_quota}
use Rattle.rules.specs.Orders.{is_buy, price_rule, worse_fill, net_of, shanghai, stops}
use Rattle.rules.specs.Lists.{enrol_rules, attach_rules, detach_rules, regular_rules, raise_rules, withdraw_rules, own_quota_rules, order_rules, fill_rules, cancel_rules}
use Rattle.rules.specs.Keyed.{find, put, without}
use Rattle.rules.specs.Sums.{when, sum_over}
use Rattle.history.specs.Past.{filled_money, open_in, bought_in, sold_in, money_in}
use Rattle.history.specs.Answers.{is_taken, refusals, number_given, answer}
use Rattle.history.specs.Runs.{accept, next, after, answers}
use Rattle.history.specs.Told.{enrol, attach, detach, regular, raise, withdraw, own_quota, order, fill, cancel, close, dash, at, row, quiet, Named, Shows, three, morning, held, filed, eight, asked, expected, calls, names, enrols, attaches, declarers}

pub record RowsShown : Type 0 where
  -- what accepted calls leave: maximum, own quota, net, open buys, bought, sold

  -- "one group in enrolment order", each under the number given; refused ones are not there (Lines and columns)
  pub named : Named (three ++ (enrol 2 4 ∷ enrol 3 2 ∷ close ∷ enrol 1 3 ∷ [])) ((1, 1) ∷ (2, 3) ∷ (2, 4) ∷ (1, 3) ∷ [])
  -- "1 adds the group .. with maximum none" (The history)
  pub fresh_group_lem : Shows three 1 (quiet dash dash)
  -- "The maximum in force changes only in two calls": not in call 4 (Quotas)
  pub declared_early : Shows (morning ++ (regular 11 1 9 9 ∷ [])) 1 (quiet (at 7) (at 7))
  -- a close: "the sum of standing figures", 2.5 × 3 of the firm (Quotas)
  pub closed-firm : Shows morning 0 (quiet (at 8) (at 8))
  -- nobody declared for group 2
  pub closed_none : Shows morning 2 (quiet dash dash)
  -- the sum of two, of groups apart
  pub closed-sum : Shows (morning ++ (regular 12 1 20 20 ∷ regular 12 2 9 9 ∷ close ∷ [])) 1 (quiet (at 27) (at 27))
  -- "The last figure of each declarer stands" (Quotas)
  pub closed_last : Shows (morning ++ (regular 12 1 20 20 ∷ regular 11 1 1 1 ∷ close ∷ [])) 1 (quiet (at 21) (at 21))
  -- it stands over closes
  pub closed-stands : Shows (morning ++ (close ∷ close ∷ [])) 1 (quiet (at 7) (at 7))
  -- "Base 0 with quota 0 withdraws the declarer's figure" (Quotas)
  pub closed_withdrawn : Shows (morning ++ (regular 12 1 20 20 ∷ regular 11 1 0 0 ∷ close ∷ [])) 1 (quiet (at 20) (at 20))
  -- "else (none standing) none" (Quotas)
  pub closed-none-standing : Shows (morning ++ (regular 11 1 0 0 ∷ close ∷ [])) 1 (quiet dash dash)
  -- eight figures of 1; one of them withdrawn, another in its place with 5
  pub closed-eight : Shows (eight ++ (regular 5 0 0 0 ∷ regular 9 0 5 5 ∷ close ∷ [])) 0 (quiet (at 12) (at 12))
  -- "the smaller of the threshold and the sum": one figure of 9,999,999 (Quotas)
  pub closed_top : Shows (three ++ (regular 11 1 9_999_999 9_999_999 ∷ close ∷ [])) 1 (quiet (at 100_000) (at 100_000))
  -- 99,999 below the threshold
  pub closed_near : Shows (three ++ (regular 11 1 99_998 99_998 ∷ regular 12 1 1 1 ∷ close ∷ [])) 1 (quiet (at 99_999) (at 99_999))
  -- "An accepted emergency raise becomes the maximum immediately", also where it is none (Quotas)
  pub raised : Shows (three ++ (raise 11 1 20 0 ∷ [])) 1 (quiet (at 20) (at 20))
  -- another group is not touched
  pub raised_other : Shows held 0 (quiet (at 8) (at 8))
  -- "regular figures don't touch it": at the close (Quotas)
  pub raised-regular : Shows (held ++ (regular 11 1 30 30 ∷ close ∷ [])) 1 (quiet (at 20) (at 20))
  -- above the threshold, over two closes
  pub raised-high : Shows (three ++ (raise 11 1 9_999_999 1 ∷ close ∷ close ∷ [])) 1 (quiet (at 9_999_999) (at 9_999_999))
  -- raised twice
  pub raised_twice : Shows (held ++ (raise 11 1 30 0 ∷ close ∷ [])) 1 (quiet (at 30) (at 30))
  -- its withdrawal "takes effect at the close" (Quotas)
  pub filed_early : Shows filed 1 (quiet (at 20) (at 20))
  -- and then the standing figures hold
  pub filed-closed : Shows (filed ++ (close ∷ [])) 1 (quiet (at 7) (at 7))
  -- no longer at the second close
  pub filed-closed_twice : Shows (filed ++ (close ∷ close ∷ [])) 1 (quiet (at 7) (at 7))
  -- none standing: none
  pub filed-none : Shows (three ++ (raise 11 2 20 0 ∷ withdraw 11 2 ∷ close ∷ [])) 2 (quiet dash dash)
  -- "any declarer may raise again, which voids the filing" (Quotas)
  pub voided : Shows (filed ++ (raise 12 1 21 0 ∷ close ∷ [])) 1 (quiet (at 21) (at 21))
  -- the same declarer
  pub voided_same : Shows (filed ++ (raise 11 1 21 0 ∷ close ∷ [])) 1 (quiet (at 21) (at 21))
  -- a refused raise voids nothing
  pub not_voided : Shows (filed ++ (raise 12 1 20 0 ∷ close ∷ [])) 1 (quiet (at 7) (at 7))
  -- "The own quota .. holds immediately" (Quotas)
  pub owned : Shows (morning ++ (own_quota 1 3 ∷ [])) 1 (quiet (at 7) (at 3))
  -- of its group alone
  pub owned_other : Shows (morning ++ (own_quota 1 3 ∷ [])) 0 (quiet (at 8) (at 8))
  -- the last declaration; at the maximum, 0
  pub owned_zero : Shows (morning ++ (own_quota 1 7 ∷ own_quota 1 0 ∷ close ∷ [])) 1 (quiet (at 7) (at 0))
  -- a refused one changes nothing
  pub owned-refused : Shows (morning ++ (own_quota 1 3 ∷ own_quota 1 8 ∷ [])) 1 (quiet (at 7) (at 3))
  -- a raise does not change it
  pub owned-raised : Shows (morning ++ (own_quota 1 3 ∷ raise 11 1 20 0 ∷ close ∷ [])) 1 (quiet (at 20) (at 3))
  -- declared at the maximum it does not rise with it
  pub owned-at_maximum : Shows (morning ++ (own_quota 1 7 ∷ raise 11 1 20 0 ∷ [])) 1 (quiet (at 20) (at 7))
  -- "When the close brings a maximum below a declared own quota": from 20 to 7 (Quotas)
  pub owned-lowered : Shows (held ++ (own_quota 1 15 ∷ withdraw 11 1 ∷ close ∷ [])) 1 (quiet (at 7) (at 7))
  -- "and doesn't rise again by itself" (Quotas)
  pub owned_not_risen : Shows (held ++ (own_quota 1 15 ∷ withdraw 11 1 ∷ close ∷ regular 11 1 9 9 ∷ close ∷ [])) 1 (quiet (at 9) (at 7))
  -- a maximum at it, or above it, leaves it
  pub owned_kept : Shows (held ++ (own_quota 1 7 ∷ withdraw 11 1 ∷ close ∷ [])) 1 (quiet (at 7) (at 7))
  -- undeclared, it follows the maximum down and up
  pub undeclared_follows : Shows (held ++ (withdraw 11 1 ∷ close ∷ regular 11 1 9 9 ∷ close ∷ [])) 1 (quiet (at 9) (at 9))
  -- "A maximum of none erases the declaration": 3 is forgotten (Quotas)
  pub owned_erased : Shows (morning ++ (own_quota 1 3 ∷ regular 11 1 0 0 ∷ close ∷ regular 11 1 9 9 ∷ close ∷ [])) 1 (quiet (at 9) (at 9))
  -- "open buys are order price × open quantity over a group's buys": kinds 1, 2, 3 on one unit (The history)
  pub open_buys : Shows (morning ++ (order 20_001 1 500 10 ∷ order 20_001 2 7 3 ∷ order 20_001 3 100_000 2 ∷ [])) 0 (row (at 8) (at 8) (pos 205_021) 205_021 0 0)
  -- kinds 4, 5, 6 count nothing when entered
  pub open_sells : Shows (morning ++ (order 20_001 4 500 10 ∷ order 20_001 5 0 3 ∷ order 20_001 6 100_000 2 ∷ [])) 0 (quiet (at 8) (at 8))
  -- fills: bought at the fill price, the rest open at the order price; 500 × 7, 499 × 2 + 498 × 1
  pub bought : Shows (morning ++ (order 20_001 1 500 10 ∷ fill 1 499 2 ∷ fill 1 498 1 ∷ [])) 0 (row (at 8) (at 8) (pos 4_996) 3_500 1_496 0)
  -- filled whole
  pub bought-whole : Shows (morning ++ (order 20_001 2 500 10 ∷ fill 1 400 10 ∷ [])) 0 (row (at 8) (at 8) (pos 4_000) 0 4_000 0)
  -- sold at the fill price, by kinds 4, 5, 6: 501 × 2 + 3 × 4 + 100,000
  pub sold : Shows (morning ++ (order 20_001 4 500 10 ∷ order 20_001 5 0 9 ∷ order 20_001 6 100_000 2 ∷ fill 1 501 2 ∷ fill 2 3 4 ∷ fill 3 100_000 1 ∷ [])) 0 (row (at 8) (at 8) (negsuc 101_013) 0 0 101_014)
  -- "A cancel takes the whole open quantity, valued at the order price", and no fill (Orders)
  pub cancelled_rest : Shows (morning ++ (order 20_001 1 500 10 ∷ fill 1 499 2 ∷ cancel 1 ∷ [])) 0 (row (at 8) (at 8) (pos 998) 0 998 0)
  -- a sell cancelled keeps what is sold
  pub cancelled_sell : Shows (morning ++ (order 20_001 4 500 10 ∷ fill 1 500 2 ∷ cancel 1 ∷ [])) 0 (row (at 8) (at 8) (negsuc 999) 0 0 1_000)
  -- net over buys and sells
  pub net_both : Shows (morning ++ (order 20_001 1 500 10 ∷ order 20_001 4 600 10 ∷ fill 1 400 4 ∷ fill 2 600 5 ∷ [])) 0 (row (at 8) (at 8) (pos 1_600) 3_000 1_600 3_000)
  -- each group has its own: group 1 beside
  pub money_apart : Shows (morning ++ (order 20_001 1 500 10 ∷ order 20_002 1 7 10 ∷ fill 1 400 4 ∷ fill 2 6 5 ∷ [])) 1 (row (at 7) (at 7) (pos 65) 35 30 0)
  -- "belongs to the group its unit is attached to then": its orders live on with group 0 (Orders)
  pub order_stays : Shows (morning ++ (order 20_001 1 500 10 ∷ detach 20_001 ∷ attach 20_001 1 ∷ order 20_001 1 7 10 ∷ fill 1 400 4 ∷ [])) 0 (row (at 8) (at 8) (pos 4_600) 3_000 1_600 0)
  -- the next order belongs to group 1
  pub order_moves : Shows (morning ++ (order 20_001 1 500 10 ∷ detach 20_001 ∷ attach 20_001 1 ∷ order 20_001 1 7 10 ∷ fill 1 400 4 ∷ [])) 1 (row (at 7) (at 7) (pos 70) 70 0 0)
  -- a unit that is attached to nothing: cancel of its order
  pub order_orphaned : Shows (morning ++ (order 20_001 1 500 10 ∷ detach 20_001 ∷ fill 1 400 4 ∷ cancel 1 ∷ [])) 0 (row (at 8) (at 8) (pos 1_600) 0 1_600 0)
  -- "The close zeroes every total and forgets every order" (Orders)
  pub closed-money : Shows (morning ++ (order 20_001 1 500 10 ∷ order 20_001 4 600 10 ∷ fill 1 400 4 ∷ fill 2 600 5 ∷ close ∷ [])) 0 (quiet (at 8) (at 8))
  -- refused orders, fills and cancels change nothing
  pub refused-money : Shows (morning ++ (order 20_001 1 500 10 ∷ order 20_001 1 0 10 ∷ fill 1 501 1 ∷ fill 1 500 11 ∷ fill 2 500 1 ∷ cancel 2 ∷ order 20_003 1 1 1 ∷ [])) 0 (row (at 8) (at 8) (pos 5_000) 5_000 0 0)

pub rows_shown : RowsShown
unfolding asked expected calls names enrols attaches declarers answers answer after next number_given refusals accept is_taken find put without when sum_over filled_money open_in bought_in sold_in money_in net_of shanghai stops mils_of is_buy price_rule worse_fill quota_by closed_quota enrol_rules attach_rules detach_rules regular_rules raise_rules withdraw_rules own_quota_rules order_rules fill_rules cancel_rules
rows_shown = record {
  named = refl;
  fresh_group_lem = refl;
  declared_early = refl;
  closed-firm = refl;
  closed_none = refl;
  closed-sum = refl;
  closed_last = refl;
  closed-stands = refl;
  closed_withdrawn = refl;
  closed-none-standing = refl;
  closed-eight = refl;
  closed_top = refl;
  closed_near = refl;
  raised = refl;
  raised_other = refl;
  raised-regular = refl;
  raised-high = refl;
  raised_twice = refl;
  filed_early = refl;
  filed-closed = refl;
  filed-closed_twice = refl;
  filed-none = refl;
  voided = refl;
  voided_same = refl;
  not_voided = refl;
  owned = refl;
  owned_other = refl;
  owned_zero = refl;
  owned-refused = refl;
  owned-raised = refl;
  owned-at_maximum = refl;
  owned-lowered = refl;
  owned_not_risen = refl;
  owned_kept = refl;
  undeclared_follows = refl;
  owned_erased = refl;
  open_buys = refl;
  open_sells = refl;
  bought = refl;
  bought-whole = refl;
  sold = refl;
  cancelled_rest = refl;
  cancelled_sell = refl;
  net_both = refl;
  money_apart = refl;
  order_stays = refl;
  order_moves = refl;
  order_orphaned = refl;
  closed-money = refl;
  refused-money = refl;
}
