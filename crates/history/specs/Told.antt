-- How the table of answers is written: the calls with plain numbers for their fields, the forms of a line, and the days that lines stand after.
-- Nothing here is a rule: a field more of a call changes one line.
use Rattle.std.specs.Prelude.{ℕ, zero, suc, ◌≡◌, List, [], ◌∷◌, ◌++◌, ℤ, pos, Some, None}
use Rattle.rules.specs.Money.{mils, millions, Limit}
use Rattle.rules.specs.Quotas.{in_force}
use Rattle.rules.specs.Orders.{shanghai}
use Rattle.rules.specs.declared.kinds.Money.{Money}
use Rattle.rules.specs.declared.calls.Call.{Call}
use Rattle.rules.specs.declared.calls.Call.TheVariants.{Enrol, Attach, Detach, Regular, Raise, Withdraw, OwnQuota, Order, Fill, Cancel, Close}
use Rattle.rules.specs.declared.calls.Answer.{Answer}
use Rattle.history.specs.Past.{Group, History, at_opening, group_at, money_of, net_in}
use Rattle.history.specs.Answers.{answer}
use Rattle.history.specs.Runs.{after, answers}

-- ---- the calls, with plain numbers for their fields: a field more changes one line each

abbrev pub enrol : ℕ → ℕ → Call
enrol code class = Enrol code class

abbrev pub attach : ℕ → ℕ → Call
attach unit group = Attach unit group

abbrev pub detach : ℕ → Call
detach unit = Detach unit

abbrev pub regular : ℕ → ℕ → ℕ → ℕ → Call
regular declarer group base quota = Regular declarer group (millions base) (millions quota)

abbrev pub raise : ℕ → ℕ → ℕ → ℕ → Call
raise declarer group quota flag = Raise declarer group (millions quota) flag

abbrev pub withdraw : ℕ → ℕ → Call
withdraw declarer group = Withdraw declarer group

abbrev pub own_quota : ℕ → ℕ → Call
own_quota group quota = OwnQuota group (millions quota)

abbrev pub order : ℕ → ℕ → ℕ → ℕ → Call
order unit kind price quantity = Order unit kind (mils price) quantity

abbrev pub fill : ℕ → ℕ → ℕ → Call
fill number price quantity = Fill number (mils price) quantity

abbrev pub cancel : ℕ → Call
cancel number = Cancel number

abbrev pub close : Call
close = Close

-- ---- the forms of a line

-- a call and its answer: "A refusal returns its number alone", or 0 (Refusal list)
infix 80 ◌⇒◌
abbrev pub ◌⇒◌ : Call → ℕ → Call × Answer
call ⇒ n = (call, record { refusal = n; number = 0 })

-- accepted, "with the next number at calls 1 and 8" (The history)
infix 80 ◌takes◌
abbrev pub ◌takes◌ : Call → ℕ → Call × Answer
call takes n = (call, record { refusal = 0; number = n })

-- the history of N places after a list of calls
abbrev pub past_of : ℕ → List Call → History
past_of N cs = after N shanghai at_opening cs

unfoldable pub asked : ℕ → History → List (Call × Answer) → List Answer
asked N h [] = []
asked N h ((call, told) ∷ l) = answer N shanghai h call ∷ asked N h l

unfoldable pub expected : List (Call × Answer) → List Answer
expected [] = []
expected ((call, told) ∷ l) = told ∷ expected l

unfoldable pub calls : List (Call × Answer) → List Call
calls [] = []
calls ((call, told) ∷ l) = call ∷ calls l

-- each line by itself after the calls: of N places, and of 4
abbrev pub Of : ℕ → List Call → List (Call × Answer) → Type 0
Of N before lines = asked N (past_of N before) lines ≡ expected lines

abbrev pub After : List Call → List (Call × Answer) → Type 0
After before lines = Of 4 before lines

-- the lines one after the other, from the opening: of N places, and of 4
abbrev pub DayOf : ℕ → List (Call × Answer) → Type 0
DayOf N lines = answers N shanghai at_opening (calls lines) ≡ expected lines

abbrev pub Day : List (Call × Answer) → Type 0
Day lines = DayOf 4 lines

-- what a listing shows of a group after the calls: maximum and own quota, "-" for none; net, open buys, bought, sold
abbrev pub dash : Limit
dash = None

abbrev pub at : ℕ → Limit
at n = Some (millions n)

pub record Shown : Type 0 where
  pub maximum : Limit
  pub own : Limit
  pub net : ℤ
  pub money : Money

abbrev pub row : Limit → Limit → ℤ → ℕ → ℕ → ℕ → Shown
row maximum own net openBuys bought sold = record { maximum = maximum; own = own; net = net; money = record { «open» = mils openBuys; bought = mils bought; sold = mils sold } }

abbrev pub quiet : Limit → Limit → Shown
quiet maximum own = row maximum own (pos 0) 0 0 0

abbrev pub shown : History → ℕ → Shown
shown h g = record { maximum = (group_at h g).quota.maximum; own = in_force (group_at h g).quota; net = net_in h g; money = money_of h g }

-- code and class of each group, in enrolment order
unfoldable pub names : List Group → List (ℕ × ℕ)
names [] = []
names (g ∷ l) = (g.code, g.class) ∷ names l

abbrev pub Named : List Call → List (ℕ × ℕ) → Type 0
Named cs told = names (past_of 4 cs).groups ≡ told

abbrev pub Shows : List Call → ℕ → Shown → Type 0
Shows cs g told = shown (past_of 4 cs) g ≡ told

-- ---- days

-- n groups of class 4, codes n − 1 to 0; n units of group 0, n − 1 to 0; n declarers of group 0, n to 1, with a figure of 1 each
unfoldable pub enrols : ℕ → List Call
enrols zero = []
enrols (suc n) = enrol n 4 ∷ enrols n

unfoldable pub attaches : ℕ → List Call
attaches zero = []
attaches (suc n) = attach n 0 ∷ attaches n

unfoldable pub declarers : ℕ → List Call
declarers zero = []
declarers (suc n) = regular (suc n) 0 1 1 ∷ declarers n

-- three groups: 0 the firm 1, class 1; 1 and 2 of the code 2, classes 3 and 4; nothing declared; a unit each
abbrev pub three : List Call
three = enrol 1 1 ∷ enrol 2 3 ∷ enrol 2 4 ∷ attach 20_001 0 ∷ attach 20_002 1 ∷ attach 20_003 2 ∷ []

-- the same with maximum 8 for group 0, 7 for group 1, none for group 2
abbrev pub morning : List Call
morning = three ++ (regular 1 0 3 8 ∷ regular 11 1 7 7 ∷ close ∷ [])

-- group 1's emergency of 20, held by 11; its withdrawal filed
abbrev pub held : List Call
held = morning ++ (raise 11 1 20 0 ∷ [])

abbrev pub filed : List Call
filed = held ++ (withdraw 11 1 ∷ [])

-- group 0, class 4, with eight declarers
abbrev pub eight : List Call
eight = enrol 5 4 ∷ declarers 8
