-- "Edges to prove (E1 to E8)", proved together: a list of cases, and one theorem over it, `edges_hold` of proofs/Edges.antt, about the gate opened over lent
-- memory of any content with N = 4. Each case is carried over from the history by the third demand, and computed there.
use Rattle.std.specs.Prelude.{ℕ, ◌≡◌, refl, List, [], ◌∷◌, ◌++◌, ℤ, pos, negsuc, replicate, Some}
use Rattle.rules.specs.Money.{mils, millions, Limit}
use Rattle.rules.specs.Orders.{net_of, shanghai}
use Rattle.rules.specs.Calls.{accepted, refused}
use Rattle.rules.specs.declared.kinds.Money.{Money}
use Rattle.rules.specs.declared.calls.Call.{Call}
use Rattle.rules.specs.declared.calls.Call.TheVariants.{Enrol, Attach, Regular, Raise, OwnQuota, Order, Fill, Close}
use Rattle.rules.specs.declared.calls.Answer.{Answer}
use Rattle.register.specs.Layout.{group_at, register_length}
use Rattle.quota.specs.Asks.{own_in_force}
use Rattle.book.specs.Layout.{money_at, book_length}
use Rattle.claim.specs.Step.{Memory, memory}
use Rattle.claim.specs.Opening.{places_lent, open_refusal}
use Rattle.claim.specs.Demand.{run, answers_of}

-- what a case says of a list of calls: all its answers; or, of a group after it, the maximum, the own quota in force, the money, the net
pub data Case : Type 0 where
  Answered : List Call → List Answer → Case
  MaximumIs : List Call → ℕ → Limit → Case
  OwnIs : List Call → ℕ → Limit → Case
  MoneyIs : List Call → ℕ → Money → Case
  NetIs : List Call → ℕ → ℤ → Case

-- a case of a gate's memory m, by Shanghai's rule
abbrev pub Holds : Memory → Case → Type 0
Holds m (Answered cs as-told) = answers_of shanghai m cs ≡ as-told
Holds m (MaximumIs cs g limit) = (group_at (run shanghai m cs).register g).quota.maximum ≡ limit
Holds m (OwnIs cs g limit) = own_in_force (run shanghai m cs).register g ≡ limit
Holds m (MoneyIs cs g money) = money_at (run shanghai m cs).book g ≡ money
Holds m (NetIs cs g net) = net_of (money_at (run shanghai m cs).book g) ≡ net

-- the lists of calls

-- E1: class 1, base 3
abbrev pub declaring : ℕ → List Call
declaring quota = Enrol 1 1 ∷ Regular 1 0 (millions 3) (millions quota) ∷ []

-- E2: two figures and a close
abbrev pub summing : ℕ → ℕ → List Call
summing a b = Enrol 1 3 ∷ Regular 11 0 (millions a) (millions a) ∷ Regular 12 0 (millions b) (millions b) ∷ Close ∷ []

-- E3, E4: maximum 99,999, and an emergency raise
abbrev pub below : List Call
below = Enrol 1 3 ∷ Regular 11 0 (millions 99_999) (millions 99_999) ∷ Close ∷ []

abbrev pub raising : ℕ → ℕ → List Call
raising quota flag = below ++ (Raise 11 0 (millions quota) flag ∷ [])

-- E5, E6, E8: one firm with maximum 8 and an own quota
abbrev pub morning : ℕ → List Call
morning own = Enrol 1 1 ∷ Attach 20_001 0 ∷ Regular 1 0 (millions 3) (millions 8) ∷ Close ∷ OwnQuota 0 (millions own) ∷ []

-- E5: 4,999,999 × 1,000 and 999 × 1 mils bought; then 1 mil more
abbrev pub bought : List Call
bought = morning 5 ++ (Order 20_001 1 (mils 4_999_999) 1_000 ∷ Order 20_001 1 (mils 999) 1 ∷ [])

abbrev pub bought_all : List Call
bought_all = bought ++ (Order 20_001 1 (mils 1) 1 ∷ [])

-- E6: a sell of 1 at 1 mil, filled
abbrev pub sold : List Call
sold = morning 0 ++ (Order 20_001 4 (mils 1) 1 ∷ Fill 1 (mils 1) 1 ∷ [])

-- E7: own quota 5 under maximum 8, then closes
abbrev pub lowered : List Call
lowered = Enrol 1 3 ∷ Regular 11 0 (millions 8) (millions 8) ∷ Close ∷ OwnQuota 0 (millions 5) ∷ Regular 11 0 (millions 4) (millions 4) ∷ Close ∷ []

abbrev pub risen : List Call
risen = lowered ++ (Regular 11 0 (millions 9) (millions 9) ∷ Close ∷ [])

-- E8: 10 units lent
abbrev pub lending : List Call
lending = morning 5 ++ (Order 20_001 3 (mils 100_000) 10 ∷ [])

abbrev pub edges : List Case
edges =
    -- E1: "class 1, base 3: quota 8 passes, 7 gets 8" (Edges to prove)
    Answered (declaring 8) (accepted 0 ∷ accepted 0 ∷ [])
    ∷ Answered (declaring 7) (accepted 0 ∷ refused 8 ∷ [])
    -- E2: "figures summing to 100,000 give 100,000; to 100,001 give 100,000" (Edges to prove)
    ∷ Answered (summing 60_000 40_000) (accepted 0 ∷ accepted 0 ∷ accepted 0 ∷ accepted 0 ∷ [])
    ∷ MaximumIs (summing 60_000 40_000) 0 (Some (millions 100_000))
    ∷ Answered (summing 60_000 40_001) (accepted 0 ∷ accepted 0 ∷ accepted 0 ∷ accepted 0 ∷ [])
    ∷ MaximumIs (summing 60_000 40_001) 0 (Some (millions 100_000))
    -- E3: "maximum 99,999, emergency 100,000: flag 0 passes, flag 1 gets 13" (Edges to prove)
    ∷ MaximumIs below 0 (Some (millions 99_999))
    ∷ Answered (raising 100_000 0) (accepted 0 ∷ accepted 0 ∷ accepted 0 ∷ accepted 0 ∷ [])
    ∷ Answered (raising 100_000 1) (accepted 0 ∷ accepted 0 ∷ accepted 0 ∷ refused 13 ∷ [])
    -- E4: "same maximum, emergency 100,001, flag 0: 13" (Edges to prove)
    ∷ Answered (raising 100_001 0) (accepted 0 ∷ accepted 0 ∷ accepted 0 ∷ refused 13 ∷ [])
    -- E5: "own 5: net 4,999,999,999 lets a buy in, 5,000,000,000 gets 16" (Edges to prove)
    ∷ OwnIs bought 0 (Some (millions 5))
    ∷ NetIs bought 0 (pos 4_999_999_999)
    ∷ Answered bought_all (accepted 0 ∷ accepted 0 ∷ accepted 0 ∷ accepted 0 ∷ accepted 0 ∷ accepted 1 ∷ accepted 2 ∷ accepted 3 ∷ [])
    ∷ OwnIs bought_all 0 (Some (millions 5))
    ∷ NetIs bought_all 0 (pos 5_000_000_000)
    ∷ Answered (bought_all ++ (Order 20_001 1 (mils 1) 1 ∷ [])) (accepted 0 ∷ accepted 0 ∷ accepted 0 ∷ accepted 0 ∷ accepted 0 ∷ accepted 1 ∷ accepted 2 ∷ accepted 3 ∷ refused 16 ∷ [])
    -- E6: "own 0: net 0 gets 16, net −1 passes" (Edges to prove)
    ∷ OwnIs (morning 0) 0 (Some (millions 0))
    ∷ NetIs (morning 0) 0 (pos 0)
    ∷ Answered (morning 0 ++ (Order 20_001 1 (mils 1) 1 ∷ [])) (accepted 0 ∷ accepted 0 ∷ accepted 0 ∷ accepted 0 ∷ accepted 0 ∷ refused 16 ∷ [])
    ∷ OwnIs sold 0 (Some (millions 0))
    ∷ NetIs sold 0 (negsuc 0)
    ∷ Answered (sold ++ (Order 20_001 1 (mils 1) 1 ∷ [])) (accepted 0 ∷ accepted 0 ∷ accepted 0 ∷ accepted 0 ∷ accepted 0 ∷ accepted 1 ∷ accepted 0 ∷ accepted 2 ∷ [])
    -- E7: "own 5, closes bring maximum 4, then 9: own stays 4" (Edges to prove)
    ∷ Answered risen (accepted 0 ∷ accepted 0 ∷ accepted 0 ∷ accepted 0 ∷ accepted 0 ∷ accepted 0 ∷ accepted 0 ∷ accepted 0 ∷ [])
    ∷ MaximumIs lowered 0 (Some (millions 4))
    ∷ OwnIs lowered 0 (Some (millions 4))
    ∷ MaximumIs risen 0 (Some (millions 9))
    ∷ OwnIs risen 0 (Some (millions 4))
    -- E8: "lending 10 units adds 1,000,000 mils" (Edges to prove)
    ∷ MoneyIs (morning 5) 0 (record { «open» = mils 0; bought = mils 0; sold = mils 0 })
    ∷ Answered lending (accepted 0 ∷ accepted 0 ∷ accepted 0 ∷ accepted 0 ∷ accepted 0 ∷ accepted 1 ∷ [])
    ∷ MoneyIs lending 0 (record { «open» = mils 1_000_000; bought = mils 0; sold = mils 0 })
    ∷ []

-- ---- the proof

-- such memory can be lent, as of words 7: the opening of it is proper, and N is 4
pub four_lent : (open_refusal (memory (replicate register_length 7) (replicate book_length 7) (replicate 16 7)) ≡ 0) × (places_lent (memory (replicate register_length 7) (replicate book_length 7) (replicate 16 7)) ≡ 4)
unfolding open_refusal
four_lent = (refl, refl)
