-- The table of answers, calls 4 to 7: every refusal number, both ends of every range, neighbours in the list, eight declarers, rounding, emergency
-- held, filed and voided. Expected values are worked out from document 01 alone. A line is a call and what it is answered after the calls
-- named beside the field.
use Rattle.std.specs.Prelude.{refl, [], ◌∷◌, ◌++◌}
use Rattle.rules.specs.Money.{mils_of}
use Rattle.rules.specs.Quotas.{quota_by, closed_quota}
use Rattle.rules.specs.Orders.{is_buy, price_rule, worse_fill, net_of, shanghai, stops}
use Rattle.rules.specs.Lists.{enrol_rules, attach_rules, detach_rules, regular_rules, raise_rules, withdraw_rules, own_quota_rules, order_rules, fill_rules, cancel_rules}
use Rattle.rules.specs.Keyed.{find, put, without}
use Rattle.rules.specs.Sums.{when, sum_over}
use Rattle.history.specs.Past.{filled_money, open_in, bought_in, sold_in, money_in}
use Rattle.history.specs.Answers.{is_taken, refusals, number_given, answer}
use Rattle.history.specs.Runs.{accept, next, after, answers}
use Rattle.history.specs.Told.{enrol, regular, raise, withdraw, own_quota, order, close, After, Day, three, morning, held, filed, eight, asked, expected, calls, names, enrols, attaches, declarers, ◌⇒◌, ◌takes◌}

pub record DeclarationsAnswered : Type 0 where
  -- call 4, regular (declarer, group, base, quota): 2, 6, 7, 8, 9, 10

  -- "declarer 0 to 99,999", "group number 0 to 63", "asset base and quota 0 to 9,999,999 millions" (Money and names)
  pub regular_ranges : After three (
      regular 0 1 5 5 ⇒ 0
      ∷ regular 99_999 1 5 5 ⇒ 0
      ∷ regular 100_000 1 5 5 ⇒ 2
      ∷ regular 11 2 5 5 ⇒ 0
      ∷ regular 11 3 5 5 ⇒ 6
      ∷ regular 11 63 5 5 ⇒ 6
      ∷ regular 11 64 5 5 ⇒ 2
      ∷ regular 11 1 1 1 ⇒ 0
      ∷ regular 11 1 9_999_999 9_999_999 ⇒ 0
      ∷ regular 11 1 10_000_000 10_000_000 ⇒ 2
      ∷ regular 11 1 10_000_000 9_999_999 ⇒ 2
      ∷ regular 11 1 9_999_999 10_000_000 ⇒ 2
      ∷ regular 100_000 63 5 5 ⇒ 2
      ∷ regular 11 63 5 6 ⇒ 6
      ∷ regular 11 63 0 0 ⇒ 6
      ∷ [])
  -- "class 1 is declared by the firm alone"; 7 before 8 and 9, behind 2; not for classes 3 and 4, the code 2 (Quotas)
  pub regular-firm : After three (
      regular 1 0 2 5 ⇒ 0
      ∷ regular 2 0 2 5 ⇒ 7
      ∷ regular 0 0 2 5 ⇒ 7
      ∷ regular 2 0 2 4 ⇒ 7
      ∷ regular 2 0 0 0 ⇒ 7
      ∷ regular 2 0 2 10_000_000 ⇒ 2
      ∷ regular 1 1 5 5 ⇒ 0
      ∷ regular 2 1 5 5 ⇒ 0
      ∷ regular 1 2 5 5 ⇒ 0
      ∷ regular 2 2 5 5 ⇒ 0
      ∷ [])
  -- "the quota equals the asset base for classes 3 and 4" (Quotas)
  pub regular_base : After three (
      regular 11 1 5 4 ⇒ 8
      ∷ regular 11 1 5 5 ⇒ 0
      ∷ regular 11 1 5 6 ⇒ 8
      ∷ regular 11 1 5 13 ⇒ 8
      ∷ regular 11 2 5 4 ⇒ 8
      ∷ regular 11 2 5 5 ⇒ 0
      ∷ regular 11 2 5 6 ⇒ 8
      ∷ regular 11 2 5 13 ⇒ 8
      ∷ regular 11 2 100_001 100_001 ⇒ 0
      ∷ regular 11 2 100_001 100_000 ⇒ 8
      ∷ [])
  -- "base × 2.5 rounded half up for class 1": 2.5, 5, 12.5; 9,999,997.5 at the top of the range, and 10,000,000 above it (Quotas)
  pub regular_half : After three (
      regular 1 0 1 2 ⇒ 8
      ∷ regular 1 0 1 3 ⇒ 0
      ∷ regular 1 0 1 4 ⇒ 8
      ∷ regular 1 0 1 1 ⇒ 8
      ∷ regular 1 0 2 4 ⇒ 8
      ∷ regular 1 0 2 5 ⇒ 0
      ∷ regular 1 0 2 6 ⇒ 8
      ∷ regular 1 0 5 12 ⇒ 8
      ∷ regular 1 0 5 13 ⇒ 0
      ∷ regular 1 0 3_999_999 9_999_997 ⇒ 8
      ∷ regular 1 0 3_999_999 9_999_998 ⇒ 0
      ∷ regular 1 0 3_999_999 9_999_999 ⇒ 8
      ∷ regular 1 0 4_000_000 9_999_999 ⇒ 8
      ∷ regular 1 0 4_000_000 10_000_000 ⇒ 2
      ∷ regular 1 0 9_999_999 9_999_999 ⇒ 8
      ∷ [])
  -- "9: nothing to withdraw (call 4 with base 0 and no figure of that declarer standing ..)"; 8 before it (Refusal list)
  pub regular-nothing : After (three ++ (regular 11 1 5 5 ∷ [])) (
      regular 11 1 0 0 ⇒ 0
      ∷ regular 12 1 0 0 ⇒ 9
      ∷ regular 11 2 0 0 ⇒ 9
      ∷ regular 1 0 0 0 ⇒ 9
      ∷ regular 12 1 0 1 ⇒ 8
      ∷ regular 11 1 0 1 ⇒ 8
      ∷ regular 1 0 0 1 ⇒ 8
      ∷ [])
  -- a withdrawn figure is gone, over a close as well
  pub regular_withdrawn : Day (
      enrol 2 3 takes 0
      ∷ regular 11 0 5 5 ⇒ 0
      ∷ regular 11 0 0 0 ⇒ 0
      ∷ regular 11 0 0 0 ⇒ 9
      ∷ regular 11 0 6 6 ⇒ 0
      ∷ close ⇒ 0
      ∷ regular 11 0 0 0 ⇒ 0
      ∷ close ⇒ 0
      ∷ regular 11 0 0 0 ⇒ 9
      ∷ [])
  -- "at most eight declarers a group have a figure standing": an eighth (Quotas)
  pub regular_eighth : After (enrol 5 4 ∷ declarers 7) (
      regular 8 0 1 1 ⇒ 0
      ∷ regular 7 0 2 2 ⇒ 0
      ∷ [])
  -- "10: new declarer while eight stand"; 8 and 9 before it; another group has its own eight (Refusal list)
  pub regular_ninth : After (eight ++ (enrol 5 3 ∷ [])) (
      regular 9 0 1 1 ⇒ 10
      ∷ regular 0 0 1 1 ⇒ 10
      ∷ regular 9 0 1 2 ⇒ 8
      ∷ regular 9 0 0 0 ⇒ 9
      ∷ regular 8 0 2 2 ⇒ 0
      ∷ regular 1 0 2 2 ⇒ 0
      ∷ regular 5 0 0 0 ⇒ 0
      ∷ regular 9 1 1 1 ⇒ 0
      ∷ regular 9 0 10_000_000 10_000_000 ⇒ 2
      ∷ [])
  -- "a withdrawn place is used again", once (Quotas)
  pub regular-place_again : After (eight ++ (regular 5 0 0 0 ∷ [])) (
      regular 9 0 1 1 ⇒ 0
      ∷ regular 5 0 1 1 ⇒ 0
      ∷ regular 5 0 0 0 ⇒ 9
      ∷ [])
  -- and then none is left; a close frees none
  pub regular-place_taken : After (eight ++ (regular 5 0 0 0 ∷ regular 9 0 1 1 ∷ close ∷ [])) (
      regular 10 0 1 1 ⇒ 10
      ∷ regular 5 0 1 1 ⇒ 10
      ∷ regular 9 0 3 3 ⇒ 0
      ∷ regular 8 0 3 3 ⇒ 0
      ∷ [])
  -- call 5, emergency (declarer, group, quota, flag): 2, 6, 7, 11, 12, 13

  -- ranges; "2: .. emergency quota 0; flag above 1"; "6: group not enrolled", 13 behind it (Refusal list)
  pub raise_ranges : After three (
      raise 0 1 5 0 ⇒ 0
      ∷ raise 99_999 1 5 0 ⇒ 0
      ∷ raise 100_000 1 5 0 ⇒ 2
      ∷ raise 11 2 5 0 ⇒ 0
      ∷ raise 11 3 5 0 ⇒ 6
      ∷ raise 11 63 5 0 ⇒ 6
      ∷ raise 11 64 5 0 ⇒ 2
      ∷ raise 11 1 0 0 ⇒ 2
      ∷ raise 11 1 1 0 ⇒ 0
      ∷ raise 11 1 9_999_999 1 ⇒ 0
      ∷ raise 11 1 10_000_000 1 ⇒ 2
      ∷ raise 11 1 5 2 ⇒ 2
      ∷ raise 11 1 200_000 2 ⇒ 2
      ∷ raise 11 63 0 0 ⇒ 2
      ∷ raise 11 63 5 2 ⇒ 2
      ∷ raise 11 63 5 1 ⇒ 6
      ∷ [])
  -- "flag: 1 above the threshold, else 0"; "13: flag disagrees with the threshold", where the maximum is none (The eleven calls; Refusal list)
  pub raise_flag : After three (
      raise 11 1 5 1 ⇒ 13
      ∷ raise 11 1 99_999 1 ⇒ 13
      ∷ raise 11 1 100_000 0 ⇒ 0
      ∷ raise 11 1 100_000 1 ⇒ 13
      ∷ raise 11 1 100_001 0 ⇒ 13
      ∷ raise 11 1 100_001 1 ⇒ 0
      ∷ raise 11 1 9_999_999 0 ⇒ 13
      ∷ [])
  -- "7: class 1 and declarer isn't the code"; before 12 and 13 (Refusal list)
  pub raise-firm : After morning (
      raise 1 0 9 0 ⇒ 0
      ∷ raise 2 0 9 0 ⇒ 7
      ∷ raise 2 0 8 0 ⇒ 7
      ∷ raise 2 0 9 1 ⇒ 7
      ∷ raise 2 0 9 2 ⇒ 2
      ∷ raise 2 0 0 0 ⇒ 2
      ∷ raise 1 1 9 0 ⇒ 0
      ∷ raise 1 2 9 0 ⇒ 0
      ∷ [])
  -- "12: emergency quota not above the maximum in force (never where it is none)"; 13 behind it (Refusal list)
  pub raise-above : After morning (
      raise 11 1 6 0 ⇒ 12
      ∷ raise 11 1 7 0 ⇒ 12
      ∷ raise 11 1 8 0 ⇒ 0
      ∷ raise 11 1 7 1 ⇒ 12
      ∷ raise 11 1 8 1 ⇒ 13
      ∷ raise 1 0 8 0 ⇒ 12
      ∷ raise 1 0 9 0 ⇒ 0
      ∷ raise 11 2 1 0 ⇒ 0
      ∷ [])
  -- "11: emergency held by another declarer with no withdrawal filed"; before 12 and 13; the holder may raise further, above it (Refusal list)
  pub raise-held : After held (
      raise 12 1 21 0 ⇒ 11
      ∷ raise 2 1 21 0 ⇒ 11
      ∷ raise 12 1 20 0 ⇒ 11
      ∷ raise 12 1 21 1 ⇒ 11
      ∷ raise 12 1 21 2 ⇒ 2
      ∷ raise 11 1 21 0 ⇒ 0
      ∷ raise 11 1 20 0 ⇒ 12
      ∷ raise 11 1 19 0 ⇒ 12
      ∷ raise 11 1 21 1 ⇒ 13
      ∷ raise 12 2 1 0 ⇒ 0
      ∷ raise 1 0 9 0 ⇒ 0
      ∷ [])
  -- 7 before 11: the firm holds
  pub raise-firm-holds : After (morning ++ (raise 1 0 9 0 ∷ [])) (
      raise 2 0 10 0 ⇒ 7
      ∷ withdraw 2 0 ⇒ 7
      ∷ raise 1 0 10 0 ⇒ 0
      ∷ withdraw 1 0 ⇒ 0
      ∷ [])
  -- "After a filed withdrawal any declarer may raise again": above the maximum in force, which is still 20 (Quotas)
  pub raise-filed : After filed (
      raise 12 1 21 0 ⇒ 0
      ∷ raise 11 1 21 0 ⇒ 0
      ∷ raise 12 1 20 0 ⇒ 12
      ∷ raise 12 1 8 0 ⇒ 12
      ∷ raise 12 1 21 1 ⇒ 13
      ∷ [])
  -- held over the close by its declarer
  pub raise-held_over : After (held ++ (close ∷ [])) (
      raise 12 1 21 0 ⇒ 11
      ∷ withdraw 12 1 ⇒ 11
      ∷ withdraw 11 1 ⇒ 0
      ∷ raise 11 1 20 0 ⇒ 12
      ∷ raise 11 1 21 0 ⇒ 0
      ∷ [])
  -- "at the close, when nobody holds it any longer" (Quotas)
  pub raise_gone : After (filed ++ (close ∷ [])) (
      withdraw 11 1 ⇒ 9
      ∷ withdraw 12 1 ⇒ 9
      ∷ raise 12 1 7 0 ⇒ 12
      ∷ raise 12 1 8 0 ⇒ 0
      ∷ raise 11 1 8 0 ⇒ 0
      ∷ [])
  -- "which voids the filing": held by the new declarer (Quotas)
  pub raise_voids : After (filed ++ (raise 12 1 21 0 ∷ [])) (
      withdraw 11 1 ⇒ 11
      ∷ raise 11 1 22 0 ⇒ 11
      ∷ withdraw 12 1 ⇒ 0
      ∷ raise 12 1 22 0 ⇒ 0
      ∷ [])
  -- call 6, withdraw emergency (declarer, group): 2, 6, 7, 9, 11

  -- ranges; "6: group not enrolled" (Refusal list)
  pub withdraw_ranges : After (three ++ (raise 0 1 5 0 ∷ raise 99_999 2 5 0 ∷ [])) (
      withdraw 0 1 ⇒ 0
      ∷ withdraw 99_999 2 ⇒ 0
      ∷ withdraw 100_000 1 ⇒ 2
      ∷ withdraw 11 3 ⇒ 6
      ∷ withdraw 11 63 ⇒ 6
      ∷ withdraw 11 64 ⇒ 2
      ∷ withdraw 100_000 63 ⇒ 2
      ∷ [])
  -- "9: nothing to withdraw (.. call 6 with no emergency held)"; 7 before it (Refusal list)
  pub withdraw-nothing : After morning (
      withdraw 11 1 ⇒ 9
      ∷ withdraw 12 1 ⇒ 9
      ∷ withdraw 1 0 ⇒ 9
      ∷ withdraw 2 0 ⇒ 7
      ∷ withdraw 11 2 ⇒ 9
      ∷ [])
  -- "Its withdrawal is filed by that declarer"; "11: .. held by another declarer with no withdrawal filed" (Quotas; Refusal list)
  pub withdraw-held : After held (
      withdraw 11 1 ⇒ 0
      ∷ withdraw 12 1 ⇒ 11
      ∷ withdraw 2 1 ⇒ 11
      ∷ withdraw 11 2 ⇒ 9
      ∷ [])
  -- "9: .. withdrawal already filed (call 6)", by whomever (Refusal list)
  pub withdraw-filed : After filed (
      withdraw 11 1 ⇒ 9
      ∷ withdraw 12 1 ⇒ 9
      ∷ [])
  -- call 7, own quota (group, quota): 2, 6, 14, 15

  -- ranges; "6: group not enrolled"; "14: own quota above the maximum", at it, below it, 0; "15: maximum is none", and then never 14 (Refusal list)
  pub own_quota_lem : After morning (
      own_quota 3 0 ⇒ 6
      ∷ own_quota 63 0 ⇒ 6
      ∷ own_quota 64 0 ⇒ 2
      ∷ own_quota 63 10_000_000 ⇒ 2
      ∷ own_quota 0 10_000_000 ⇒ 2
      ∷ own_quota 0 9_999_999 ⇒ 14
      ∷ own_quota 0 9 ⇒ 14
      ∷ own_quota 0 8 ⇒ 0
      ∷ own_quota 0 7 ⇒ 0
      ∷ own_quota 0 0 ⇒ 0
      ∷ own_quota 1 8 ⇒ 14
      ∷ own_quota 1 7 ⇒ 0
      ∷ own_quota 2 0 ⇒ 15
      ∷ own_quota 2 9_999_999 ⇒ 15
      ∷ own_quota 2 10_000_000 ⇒ 2
      ∷ [])
  -- the top of the range under an emergency of as much
  pub own_quota_top : After (three ++ (raise 11 1 9_999_999 1 ∷ [])) (
      own_quota 1 9_999_999 ⇒ 0
      ∷ own_quota 1 10_000_000 ⇒ 2
      ∷ [])
  -- a declaration alone is no maximum before the close
  pub own_quota_early : After (three ++ (regular 11 1 7 7 ∷ [])) (
      own_quota 1 0 ⇒ 15
      ∷ order 20_002 1 1 1 ⇒ 15
      ∷ [])

pub declarations_answered : DeclarationsAnswered
unfolding asked expected calls names enrols attaches declarers answers answer after next number_given refusals accept is_taken find put without when sum_over filled_money open_in bought_in sold_in money_in net_of shanghai stops mils_of is_buy price_rule worse_fill quota_by closed_quota enrol_rules attach_rules detach_rules regular_rules raise_rules withdraw_rules own_quota_rules order_rules fill_rules cancel_rules
declarations_answered = record {
  regular_ranges = refl;
  regular-firm = refl;
  regular_base = refl;
  regular_half = refl;
  regular-nothing = refl;
  regular_withdrawn = refl;
  regular_eighth = refl;
  regular_ninth = refl;
  regular-place_again = refl;
  regular-place_taken = refl;
  raise_ranges = refl;
  raise_flag = refl;
  raise-firm = refl;
  raise-above = refl;
  raise-held = refl;
  raise-firm-holds = refl;
  raise-filed = refl;
  raise-held_over = refl;
  raise_gone = refl;
  raise_voids = refl;
  withdraw_ranges = refl;
  withdraw-nothing = refl;
  withdraw-held = refl;
  withdraw-filed = refl;
  own_quota_lem = refl;
  own_quota_top = refl;
  own_quota_early = refl;
}
