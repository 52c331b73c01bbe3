-- The laws of refusal lists, for the history's answers: the smallest that applies is given, each by its own condition, and never 1. Assumes nothing.
-- Here, and not in specs/, so that a wrong definition is refused by the first theorem that it breaks, and not by those that rest on it.
use Rattle.std.specs.Prelude.{ℕ, ◌≤◌, ◌<◌, ◌≡◌, true, ◌≢◌, ltb, length}
use Rattle.rules.specs.Orders.{Rule}
use Rattle.rules.specs.Laws.{Applies, rising, rank, smallest, given, never-one, enrol_rises, attach_rises, detach_rises, regular_rises, raise_rises, withdraw_rises, own_quota_rises, order_rises, fill_rises, cancel_rises, close_rises, load_rises}
use Rattle.rules.specs.Loads.{load_rules}
use Rattle.rules.specs.declared.calls.Call.{Call}
use Rattle.rules.specs.declared.calls.Call.TheVariants.{Enrol, Attach, Detach, Regular, Raise, Withdraw, OwnQuota, Order, Fill, Cancel, Close}
use Rattle.history.specs.Past.{History}
use Rattle.history.specs.Answers.{is_attached, enrol_reads, attach_reads, group_reads, figure_reads, order_reads, place_reads, refusals, refusal_of}
use Rattle.history.specs.Runs.{Entry, Called, Loaded, load_refusal, entry_refusal}

module _ (N : ℕ) (rule : Rule) (h : History) where
  pub rises : (c : Call) → rising 1 (refusals N rule h c) ≡ true
  unfolding refusals
  rises (Enrol code class) = enrol_rises code class (enrol_reads h code class)
  rises (Attach unit group) = attach_rises unit group (attach_reads h unit group)
  rises (Detach unit) = detach_rises unit (is_attached h unit)
  rises (Regular declarer group base quota) = regular_rises h.ratios declarer group base quota (group_reads h group) (figure_reads h group declarer)
  rises (Raise declarer group quota flag) = raise_rises declarer group quota flag (group_reads h group)
  rises (Withdraw declarer group) = withdraw_rises declarer group (group_reads h group)
  rises (OwnQuota group quota) = own_quota_rises group quota (group_reads h group)
  rises (Order unit kind price quantity) = order_rises rule unit kind price quantity (order_reads N h unit)
  rises (Fill order price quantity) = fill_rises order price quantity (place_reads h order)
  rises (Cancel order) = cancel_rises order (place_reads h order)
  rises Close = close_rises

  -- "Of several that apply the smallest is returned." (Refusal list)
  pub smallest_given : (c : Call) (n : ℕ) → Applies n (refusals N rule h c) → rank (refusal_of N rule h c) ≤ rank n
  smallest_given c n a = smallest 1 n (refusals N rule h c) (rises c) a

  -- "Each is returned whenever its condition holds and no smaller one does." (Refusal list)
  pub each_given : (c : Call) (n : ℕ) → Applies n (refusals N rule h c) → ((k : ℕ) → rank k < rank n → Applies k (refusals N rule h c) → ⊥) → refusal_of N rule h c ≡ n
  each_given c n a none = given 1 n (refusals N rule h c) (rises c) a none

  -- "1 left aside" (The history)
  pub never_unsound : (c : Call) → refusal_of N rule h c ≢ 1
  never_unsound c = never-one (refusals N rule h c) (rises c)

  -- of an entry
  pub never_unsound_entry : (e : Entry) → entry_refusal N rule h e ≢ 1
  unfolding entry_refusal load_refusal
  never_unsound_entry (Called c) = never_unsound c
  never_unsound_entry (Loaded f) = never-one (load_rules f (ltb 0 (length h.groups))) (load_rises f (ltb 0 (length h.groups)))
