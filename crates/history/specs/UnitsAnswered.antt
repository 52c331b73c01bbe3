-- The table of answers, calls 1 to 3: every refusal number, both ends of every range, neighbours in the list, 64 groups and 256 units, numbers given.
-- Expected values are worked out from document 01 alone: no line names a limit, a refusal or a rule of the definitions. A line is a call and
-- what it is answered after the calls named beside the field.
use Rattle.std.specs.Prelude.{refl, [], ◌∷◌, ◌++◌}
use Rattle.rules.specs.Money.{mils_of}
use Rattle.rules.specs.Quotas.{quota_by, closed_quota}
use Rattle.rules.specs.Orders.{is_buy, price_rule, worse_fill, net_of, shanghai, stops}
use Rattle.rules.specs.Lists.{enrol_rules, attach_rules, detach_rules, regular_rules, raise_rules, withdraw_rules, own_quota_rules, order_rules, fill_rules, cancel_rules}
use Rattle.rules.specs.Keyed.{find, put, without}
use Rattle.rules.specs.Sums.{when, sum_over}
use Rattle.history.specs.Past.{filled_money, open_in, bought_in, sold_in, money_in}
use Rattle.history.specs.Answers.{is_taken, refusals, number_given, answer}
use Rattle.history.specs.Runs.{accept, next, after, answers}
use Rattle.history.specs.Told.{enrol, attach, detach, regular, raise, withdraw, own_quota, order, close, After, Day, three, asked, expected, calls, names, enrols, attaches, declarers, ◌⇒◌, ◌takes◌}

pub record UnitsAnswered : Type 0 where
  -- call 1, enrol group (code, class): 2, 3, 4, 5

  -- "institution code .. 0 to 99,999", "control class 1 to 4"; "3: enrolling class 2"; 2 before 3 (Money and names; Refusal list)
  pub enrol_ranges : After [] (
      enrol 0 1 takes 0
      ∷ enrol 99_999 1 takes 0
      ∷ enrol 100_000 1 ⇒ 2
      ∷ enrol 1 0 ⇒ 2
      ∷ enrol 1 1 takes 0
      ∷ enrol 1 2 ⇒ 3
      ∷ enrol 1 3 takes 0
      ∷ enrol 1 4 takes 0
      ∷ enrol 1 5 ⇒ 2
      ∷ enrol 100_000 2 ⇒ 2
      ∷ [])
  -- "A group is an institution code with a control class"; "4: group already enrolled" (Money and names; Refusal list)
  pub enrol_again : After (enrol 9 3 ∷ enrol 1 1 ∷ enrol 5 4 ∷ []) (
      enrol 9 3 ⇒ 4
      ∷ enrol 1 1 ⇒ 4
      ∷ enrol 5 4 ⇒ 4
      ∷ enrol 1 3 takes 3
      ∷ enrol 9 1 takes 3
      ∷ enrol 2 1 takes 3
      ∷ enrol 1 2 ⇒ 3
      ∷ [])
  -- "given the next group number from 0"; a refused call takes none; groups outlive the close (The eleven calls)
  pub enrol_numbers : Day (
      enrol 7 3 takes 0
      ∷ enrol 7 3 ⇒ 4
      ∷ enrol 7 4 takes 1
      ∷ enrol 8 2 ⇒ 3
      ∷ close ⇒ 0
      ∷ enrol 7 4 ⇒ 4
      ∷ enrol 8 3 takes 2
      ∷ [])
  -- "at most 64 groups" (Money and names)
  pub enrol_sixty_fourth : After (enrols 63) (
      enrol 99 4 takes 63
      ∷ enrol 62 4 ⇒ 4
      ∷ attach 1 62 ⇒ 0
      ∷ attach 1 63 ⇒ 6
      ∷ [])
  -- "5: 64 groups .. already"; 2, 3 and 4 before it; group 63 is one (Refusal list)
  pub enrol_sixty_fifth : After (enrols 64) (
      enrol 99 4 ⇒ 5
      ∷ enrol 63 3 ⇒ 5
      ∷ enrol 63 4 ⇒ 4
      ∷ enrol 0 4 ⇒ 4
      ∷ enrol 99 2 ⇒ 3
      ∷ enrol 99 5 ⇒ 2
      ∷ attach 1 63 ⇒ 0
      ∷ attach 1 64 ⇒ 2
      ∷ regular 1 63 5 5 ⇒ 0
      ∷ raise 1 63 5 0 ⇒ 0
      ∷ withdraw 1 63 ⇒ 9
      ∷ own_quota 63 5 ⇒ 15
      ∷ [])
  -- call 2, attach unit (unit, group): 2, 4, 5, 6

  -- "trading unit .. 0 to 99,999", "group number 0 to 63"; "6: group not enrolled" (Money and names; Refusal list)
  pub attach_ranges : After three (
      attach 0 0 ⇒ 0
      ∷ attach 99_999 0 ⇒ 0
      ∷ attach 100_000 0 ⇒ 2
      ∷ attach 1 2 ⇒ 0
      ∷ attach 1 3 ⇒ 6
      ∷ attach 1 63 ⇒ 6
      ∷ attach 1 64 ⇒ 2
      ∷ [])
  -- "4: .. unit already attached", to whatever group; 2 before it, 6 behind it (Refusal list)
  pub attach_again : After three (
      attach 20_001 0 ⇒ 4
      ∷ attach 20_001 1 ⇒ 4
      ∷ attach 20_003 2 ⇒ 4
      ∷ attach 20_001 63 ⇒ 4
      ∷ attach 20_001 64 ⇒ 2
      ∷ [])
  -- "256 attached units" (Money and names)
  pub attach_last : After (enrol 5 4 ∷ attaches 255) (
      attach 300 0 ⇒ 0
      ∷ [])
  -- "5: .. 256 units already"; 2 and 4 before it, 6 behind it (Refusal list)
  pub attach-full : After (enrol 5 4 ∷ attaches 256) (
      attach 300 0 ⇒ 5
      ∷ attach 255 0 ⇒ 4
      ∷ attach 0 0 ⇒ 4
      ∷ attach 100_000 0 ⇒ 2
      ∷ attach 300 1 ⇒ 5
      ∷ detach 17 ⇒ 0
      ∷ [])
  -- a unit freed makes room for one
  pub attach_freed : After (enrol 5 4 ∷ attaches 256 ++ (detach 17 ∷ [])) (
      attach 300 0 ⇒ 0
      ∷ attach 17 0 ⇒ 0
      ∷ attach 16 0 ⇒ 4
      ∷ [])
  -- call 3, detach unit (unit): 2, 6

  -- "6: .. unit not attached"; 2 before it (Refusal list)
  pub detaching : After (three ++ (attach 0 1 ∷ attach 99_999 1 ∷ [])) (
      detach 0 ⇒ 0
      ∷ detach 99_999 ⇒ 0
      ∷ detach 100_000 ⇒ 2
      ∷ detach 20_001 ⇒ 0
      ∷ detach 20_003 ⇒ 0
      ∷ detach 20_004 ⇒ 6
      ∷ [])
  -- "3 frees it": and it may be attached to another group (The history)
  pub detached : Day (
      enrol 1 1 takes 0
      ∷ enrol 2 3 takes 1
      ∷ attach 7 0 ⇒ 0
      ∷ detach 7 ⇒ 0
      ∷ detach 7 ⇒ 6
      ∷ order 7 5 0 1 ⇒ 6
      ∷ attach 7 1 ⇒ 0
      ∷ attach 7 0 ⇒ 4
      ∷ close ⇒ 0
      ∷ order 7 5 0 1 takes 1
      ∷ detach 7 ⇒ 0
      ∷ [])

pub units_answered : UnitsAnswered
unfolding asked expected calls names enrols attaches declarers answers answer after next number_given refusals accept is_taken find put without when sum_over filled_money open_in bought_in sold_in money_in net_of shanghai stops mils_of is_buy price_rule worse_fill quota_by closed_quota enrol_rules attach_rules detach_rules regular_rules raise_rules withdraw_rules own_quota_rules order_rules fill_rules cancel_rules
units_answered = record {
  enrol_ranges = refl;
  enrol_again = refl;
  enrol_numbers = refl;
  enrol_sixty_fourth = refl;
  enrol_sixty_fifth = refl;
  attach_ranges = refl;
  attach_again = refl;
  attach_last = refl;
  attach-full = refl;
  attach_freed = refl;
  detaching = refl;
  detached = refl;
}
