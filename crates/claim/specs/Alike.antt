-- Two gates that stand for one history are the same memory, word for word, but for words that stand for nothing. The history fixes every word
-- of the book, and every place up to the last number given. What it does not know is a premise: the places above, and in the register the
-- words of what is not enrolled, attached or standing (`UnusedAlike`): a unit that was detached or a figure that was withdrawn may have left
-- something there. Calls 8 to 10 leave the register alone, and fills and cancels those places too, so that lists of them need no premise
-- (`reports_alike`; the theorems are in proofs/Alike.antt). Of any market: a gate stands for a history whatever the rule of acceptance is. Assumes nothing.
use Rattle.std.specs.Prelude.{ℕ, ◌*◌, ◌≤◌, ◌<◌, ◌≡◌, refl, Bool, true, false, ◌&&◌, List, [], ◌∷◌, length, get_or}
use Rattle.rules.specs.Orders.{Rule}
use Rattle.rules.specs.declared.money.Mils.{Mils}
use Rattle.rules.specs.declared.calls.Call.{Call}
use Rattle.rules.specs.declared.calls.Call.TheVariants.{Enrol, Attach, Detach, Regular, Raise, Withdraw, OwnQuota, Order, Fill, Cancel, Close}
use Rattle.history.specs.Past.{History}
use Rattle.book.specs.Layout.{accepted_of, place_at, place_words}
use Rattle.claim.specs.Step.{Memory, step}

-- ---- gates that stand for one history

-- the places above the last number given are the same
abbrev pub SameUnused : ℕ → History → Memory → Memory → Type 0
SameUnused N h m n = (k : ℕ) → length h.orders < k → k ≤ N → place_at m.places k ≡ place_at n.places k

-- ---- what calls 8 to 10 leave alone, in every memory

pub record RegisterKept (rule : Rule) (m : Memory) : Type 0 where
  pub order : (unit kind : ℕ) (price : Mils) (quantity : ℕ) → (step rule m (Order unit kind price quantity)).memory.register ≡ m.register
  pub fill : (number : ℕ) (price : Mils) (quantity : ℕ) → (step rule m (Fill number price quantity)).memory.register ≡ m.register
  pub cancel : (number : ℕ) → (step rule m (Cancel number)).memory.register ≡ m.register

pub register_kept : (rule : Rule) (m : Memory) → RegisterKept rule m
unfolding step
register_kept rule m = record { order = λ unit kind price quantity. refl; fill = λ number price quantity. refl; cancel = λ number. refl }

-- ---- lists of fills and cancels

abbrev pub is_report : Call → Bool
is_report (Enrol code class) = false
is_report (Attach unit group) = false
is_report (Detach unit) = false
is_report (Regular declarer group base quota) = false
is_report (Raise declarer group quota flag) = false
is_report (Withdraw declarer group) = false
is_report (OwnQuota group quota) = false
is_report (Order unit kind price quantity) = false
is_report (Fill order price quantity) = true
is_report (Cancel order) = true
is_report Close = false

abbrev pub all_reports : List Call → Bool
all_reports [] = true
all_reports (c ∷ cs) = is_report c && all_reports cs

-- the register, the numbers given and the places above them are as they were
pub record UnusedKept (before after : Memory) : Type 0 where
  pub register : after.register ≡ before.register
  pub accepted : accepted_of after.book ≡ accepted_of before.book
  pub words : (i : ℕ) → place_words * accepted_of before.book ≤ i → get_or after.places i 0 ≡ get_or before.places i 0
