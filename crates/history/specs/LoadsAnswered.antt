-- The table of answers, loads of ratios and what follows from them (2026-01). Expected values are worked out from document 02, request 2026-01, and from
-- document 01 alone. What a file's bytes say is in ratiofile/specs: here a file is its nine numbers, or not of its form.
use Rattle.std.specs.Prelude.{ℕ, zero, suc, ◌≡◌, refl, true, false, List, [], ◌∷◌, ◌++◌, negsuc}
use Rattle.rules.specs.Money.{mils_of}
use Rattle.rules.specs.Quotas.{quota_by, closed_quota}
use Rattle.rules.specs.Orders.{is_buy, price_rule, worse_fill, net_of, shanghai, stops}
use Rattle.rules.specs.Lists.{enrol_rules, attach_rules, detach_rules, regular_rules, raise_rules, withdraw_rules, own_quota_rules, order_rules, fill_rules, cancel_rules}
use Rattle.rules.specs.Loads.{load_rules}
use Rattle.rules.specs.Keyed.{find, put, without}
use Rattle.rules.specs.Sums.{when, sum_over}
use Rattle.rules.specs.declared.loads.RatioLine.{RatioLine}
use Rattle.rules.specs.declared.calls.Answer.{Answer}
use Rattle.history.specs.Past.{History, at_opening, filled_money, open_in, bought_in, sold_in, money_in}
use Rattle.history.specs.Answers.{is_taken, refusals, number_given, answer}
use Rattle.history.specs.Runs.{Entry, Called, Loaded, load_refusal, accept, next, next_entry, answer_entry, after_all}
use Rattle.history.specs.Told.{enrol, attach, regular, raise, own_quota, order, fill, close, dash, at, Shown, row, quiet, shown}

-- ---- the forms of a line

abbrev line : ℕ → ℕ → ℕ → RatioLine
line class numerator denominator = record { class = class; numerator = numerator; denominator = denominator }

-- three lines as they are written
abbrev lines : RatioLine → RatioLine → RatioLine → Entry
lines a b c = Loaded (record { formed = true; first = a; second = b; third = c })

-- the ratios of classes 1, 3 and 4
abbrev table : ℕ → ℕ → ℕ → ℕ → ℕ → ℕ → Entry
table a b c d e f = lines (line 1 a b) (line 3 c d) (line 4 e f)

-- a text that is not of the form, whatever numbers are in it
abbrev formless : ℕ → Entry
formless n = Loaded (record { formed = false; first = line 1 n n; second = line 3 n n; third = line 4 n n })

-- an entry and its answer; an order's with its number
infix 80 ◌⇒◌
abbrev ◌⇒◌ : Entry → ℕ → Entry × Answer
e ⇒ n = (e, record { refusal = n; number = 0 })

infix 80 ◌takes◌
abbrev ◌takes◌ : Entry → ℕ → Entry × Answer
e takes n = (e, record { refusal = 0; number = n })

-- the history of 4 places after a list of entries
abbrev past : List Entry → History
past es = after_all 4 shanghai at_opening es

unfoldable pub asked : History → List (Entry × Answer) → List Answer
asked h [] = []
asked h ((e, told) ∷ l) = answer_entry 4 shanghai h e ∷ asked h l

unfoldable pub expected : List (Entry × Answer) → List Answer
expected [] = []
expected ((e, told) ∷ l) = told ∷ expected l

-- each line by itself after the entries
abbrev After : List Entry → List (Entry × Answer) → Type 0
After before told = asked (past before) told ≡ expected told

abbrev Shows : List Entry → ℕ → Shown → Type 0
Shows es g told = shown (past es) g ≡ told

-- ---- days

-- class 1 under code 1, class 3 under code 2, class 4 under code 3: groups 0, 1 and 2
abbrev three : List Entry
three = Called (enrol 1 1) ∷ Called (enrol 2 3) ∷ Called (enrol 3 4) ∷ []

-- 7/3, 7/2 and 1/100
abbrev ratios : Entry
ratios = table 7 3 7 2 1 100

abbrev loaded : List Entry
loaded = ratios ∷ three

-- n declarers of group 2, n to 1, with a base of 1 each: figures of 0
unfoldable pub nils : ℕ → List Entry
nils zero = []
nils (suc n) = Called (regular (suc n) 2 1 0) ∷ nils n

-- group 2 with a maximum of 0, and unit 20,001 in it
abbrev nil : List Entry
nil = loaded ++ (Called (attach 20_001 2) ∷ Called (regular 11 2 49 0) ∷ Called close ∷ [])

pub record LoadsAnswered : Type 0 where
  -- "numerator and denominator (both 1 to 100)": both ends of each number, one outside: 2
  pub numerators : After [] (
      table 1 1 1 1 1 1 ⇒ 0
      ∷ table 100 100 100 100 100 100 ⇒ 0
      ∷ table 0 1 1 1 1 1 ⇒ 2
      ∷ table 101 1 1 1 1 1 ⇒ 2
      ∷ table 1 1 0 1 1 1 ⇒ 2
      ∷ table 1 1 101 1 1 1 ⇒ 2
      ∷ table 1 1 1 1 0 1 ⇒ 2
      ∷ table 1 1 1 1 101 1 ⇒ 2
      ∷ table 9_999 1 1 1 1 1 ⇒ 2
      ∷ [])
  pub denominators : After [] (
      table 1 0 1 1 1 1 ⇒ 2
      ∷ table 1 101 1 1 1 1 ⇒ 2
      ∷ table 1 1 1 0 1 1 ⇒ 2
      ∷ table 1 1 1 101 1 1 ⇒ 2
      ∷ table 1 1 1 1 1 0 ⇒ 2
      ∷ table 1 1 1 1 1 101 ⇒ 2
      ∷ [])
  -- "control class 1 to 4" (Money and names): outside it 2; "for classes 1, 3 and 4 in that order": any other 23
  pub classes : After [] (
      lines (line 0 1 1) (line 3 1 1) (line 4 1 1) ⇒ 2
      ∷ lines (line 5 1 1) (line 3 1 1) (line 4 1 1) ⇒ 2
      ∷ lines (line 1 1 1) (line 9 1 1) (line 4 1 1) ⇒ 2
      ∷ lines (line 1 1 1) (line 3 1 1) (line 99 1 1) ⇒ 2
      ∷ lines (line 2 1 1) (line 3 1 1) (line 4 1 1) ⇒ 23
      ∷ lines (line 1 1 1) (line 2 1 1) (line 4 1 1) ⇒ 23
      ∷ lines (line 1 1 1) (line 3 1 1) (line 2 1 1) ⇒ 23
      ∷ lines (line 1 1 1) (line 4 1 1) (line 3 1 1) ⇒ 23
      ∷ lines (line 3 1 1) (line 1 1 1) (line 4 1 1) ⇒ 23
      ∷ lines (line 1 1 1) (line 3 1 1) (line 3 1 1) ⇒ 23
      ∷ lines (line 1 1 1) (line 1 1 1) (line 1 1 1) ⇒ 23
      ∷ [])
  -- "23, and not 21, when the file isn't of this form"; a text that is not has no field, so never 2; "after 2": 2 before 23
  pub form : After [] (
      formless 1 ⇒ 23
      ∷ formless 0 ⇒ 23
      ∷ formless 101 ⇒ 23
      ∷ lines (line 4 1 1) (line 3 0 1) (line 1 1 1) ⇒ 2
      ∷ lines (line 2 1 101) (line 3 1 1) (line 4 1 1) ⇒ 2
      ∷ [])
  -- "or a group is already enrolled": an accepted enrolment alone; a refused one, a close or another load leaves the door open
  pub enrolled : After (Called (enrol 1 3) ∷ []) (
      ratios ⇒ 23
      ∷ formless 1 ⇒ 23
      ∷ table 0 1 1 1 1 1 ⇒ 2
      ∷ [])
  pub enrolled-closed : After (Called (enrol 1 3) ∷ Called close ∷ []) (ratios ⇒ 23 ∷ [])
  pub not_enrolled : After (Called (enrol 1 2) ∷ Called (enrol 1 5) ∷ Called close ∷ ratios ∷ []) (ratios ⇒ 0 ∷ table 5 2 1 1 1 1 ⇒ 0 ∷ [])
  -- "base × numerator ÷ denominator, rounded half up", class 1 by the first line: 7/3 of 1, 2, 3 are 2.33, 4.67, 7
  pub thirds : After loaded (
      Called (regular 1 0 1 2) ⇒ 0
      ∷ Called (regular 1 0 1 3) ⇒ 8
      ∷ Called (regular 1 0 2 5) ⇒ 0
      ∷ Called (regular 1 0 2 4) ⇒ 8
      ∷ Called (regular 1 0 3 7) ⇒ 0
      ∷ Called (regular 1 0 3 8) ⇒ 8
      ∷ [])
  -- class 3 by the second: 7/2 of 1, 2, 3 are 3.5, 7, 10.5: a half goes up
  pub halves : After loaded (
      Called (regular 11 1 1 4) ⇒ 0
      ∷ Called (regular 11 1 1 3) ⇒ 8
      ∷ Called (regular 11 1 2 7) ⇒ 0
      ∷ Called (regular 11 1 2 8) ⇒ 8
      ∷ Called (regular 11 1 3 11) ⇒ 0
      ∷ Called (regular 11 1 3 10) ⇒ 8
      ∷ [])
  -- class 4 by the third: 1/100 of 49, 50, 51, 149 and 150 are 0.49, 0.50, 0.51, 1.49 and 1.50
  pub hundredths : After loaded (
      Called (regular 11 2 49 0) ⇒ 0
      ∷ Called (regular 11 2 49 1) ⇒ 8
      ∷ Called (regular 11 2 50 1) ⇒ 0
      ∷ Called (regular 11 2 50 0) ⇒ 8
      ∷ Called (regular 11 2 51 1) ⇒ 0
      ∷ Called (regular 11 2 149 1) ⇒ 0
      ∷ Called (regular 11 2 149 2) ⇒ 8
      ∷ Called (regular 11 2 150 2) ⇒ 0
      ∷ Called (regular 11 2 9_999_999 100_000) ⇒ 0
      ∷ [])
  -- by 100/1: 99,999 gives 9,999,900; 100,000 gives 10,000,000, which is no quota in range: 2 for it, 8 for every other
  pub top : After (table 100 1 100 1 100 1 ∷ three) (
      Called (regular 11 1 99_999 9_999_900) ⇒ 0
      ∷ Called (regular 11 1 100_000 10_000_000) ⇒ 2
      ∷ Called (regular 11 1 100_000 9_999_999) ⇒ 8
      ∷ Called (regular 11 1 9_999_999 9_999_999) ⇒ 8
      ∷ [])
  -- "by the old ratios before any"; a refused load leaves them; the same ratios loaded give the same
  pub old : After three (Called (regular 1 0 3 8) ⇒ 0 ∷ Called (regular 1 0 3 7) ⇒ 8 ∷ Called (regular 11 1 7 7) ⇒ 0 ∷ Called (regular 11 2 7 7) ⇒ 0 ∷ Called (regular 11 2 7 6) ⇒ 8 ∷ [])
  pub old-refused : After (formless 1 ∷ table 7 101 1 1 1 1 ∷ lines (line 2 7 3) (line 3 7 3) (line 4 7 3) ∷ three) (Called (regular 1 0 3 8) ⇒ 0 ∷ Called (regular 11 1 7 7) ⇒ 0 ∷ [])
  pub old-loaded : After (ratios ∷ table 5 2 1 1 1 1 ∷ three) (Called (regular 1 0 3 8) ⇒ 0 ∷ Called (regular 1 0 3 7) ⇒ 8 ∷ Called (regular 11 1 7 7) ⇒ 0 ∷ Called (regular 11 2 7 7) ⇒ 0 ∷ [])
  -- "by the table loaded last": not the first, not a refused one after it; it lasts over closes
  pub last : After (table 100 1 100 1 100 1 ∷ loaded ++ (table 9 1 9 1 9 1 ∷ Called close ∷ Called close ∷ [])) (
      Called (regular 1 0 1 2) ⇒ 0
      ∷ Called (regular 1 0 1 100) ⇒ 8
      ∷ Called (regular 1 0 1 9) ⇒ 8
      ∷ [])
  -- "A quota that rounds to 0 from a base above 0 is a standing figure of 0": it can be withdrawn, once; quota 0 alone withdraws nothing
  pub standing : After (loaded ++ (Called (regular 11 2 1 0) ∷ [])) (Called (regular 11 2 0 0) ⇒ 0 ∷ Called (regular 11 2 2 0) ⇒ 0 ∷ Called (regular 12 2 0 0) ⇒ 9 ∷ [])
  pub withdrawn : After (loaded ++ (Called (regular 11 2 1 0) ∷ Called (regular 11 2 0 0) ∷ [])) (Called (regular 11 2 0 0) ⇒ 9 ∷ [])
  -- it takes one of the eight places
  pub eight : After (loaded ++ nils 8) (Called (regular 9 2 1 0) ⇒ 10 ∷ Called (regular 9 2 100 1) ⇒ 10 ∷ Called (regular 8 2 1 0) ⇒ 0 ∷ Called (regular 9 2 0 0) ⇒ 9 ∷ [])
  pub seven : After (loaded ++ nils 7) (Called (regular 9 2 1 0) ⇒ 0 ∷ [])
  pub freed : After (loaded ++ nils 8 ++ (Called (regular 3 2 0 0) ∷ [])) (Called (regular 9 2 1 0) ⇒ 0 ∷ [])
  -- alone it gives maximum 0, and not none; beside others it adds nothing; withdrawn it gives none
  pub maximum_zero : Shows nil 2 (quiet (at 0) (at 0))
  pub zero_and_one : Shows (nil ++ (Called (regular 12 2 100 1) ∷ Called close ∷ [])) 2 (quiet (at 1) (at 1))
  pub zero_withdrawn : Shows (nil ++ (Called (regular 11 2 0 0) ∷ Called close ∷ [])) 2 (quiet dash dash)
  pub zero_stands : Shows (nil ++ (Called close ∷ [])) 2 (quiet (at 0) (at 0))
  -- under maximum 0: own quota 0 and no more (14, not 15); a buy with net 0 gets 16, not 15; a raise to 1 passes, to 0 is 2 as ever
  pub under_zero : After nil (
      Called (own_quota 2 0) ⇒ 0
      ∷ Called (own_quota 2 1) ⇒ 14
      ∷ Called (order 20_001 1 500 10) ⇒ 16
      ∷ Called (order 20_001 4 500 10) takes 1
      ∷ Called (raise 11 2 1 0) ⇒ 0
      ∷ Called (raise 11 2 0 0) ⇒ 2
      ∷ [])
  -- with net below 0 a buy passes
  pub below-zero : After (nil ++ (Called (order 20_001 4 500 10) ∷ Called (fill 1 500 1) ∷ [])) (Called (order 20_001 1 500 10) takes 2 ∷ [])
  pub below_zero_row : Shows (nil ++ (Called (order 20_001 4 500 10) ∷ Called (fill 1 500 1) ∷ [])) 2 (row (at 0) (at 0) (negsuc 499) 0 0 500)
  -- "When the close brings a maximum below a declared own quota, the own quota is set to that maximum" (Quotas): to 0, and it stays there
  pub own_to_zero : Shows (loaded ++ (Called (regular 11 2 500 5) ∷ Called close ∷ Called (own_quota 2 3) ∷ Called (regular 11 2 1 0) ∷ Called close ∷ [])) 2 (quiet (at 0) (at 0))
  pub own_stays : Shows (loaded ++ (Called (regular 11 2 500 5) ∷ Called close ∷ Called (own_quota 2 3) ∷ Called (regular 11 2 1 0) ∷ Called close ∷ Called (raise 11 2 4 0) ∷ [])) 2 (quiet (at 4) (at 0))

pub loads_answered : LoadsAnswered
unfolding asked expected nils load_refusal load_rules next_entry answer_entry after_all answer next number_given refusals accept is_taken find put without when sum_over
    filled_money open_in bought_in sold_in money_in net_of shanghai stops mils_of is_buy price_rule worse_fill quota_by closed_quota enrol_rules attach_rules detach_rules regular_rules
    raise_rules withdraw_rules own_quota_rules order_rules fill_rules cancel_rules
loads_answered = record {
  numerators = refl;
  denominators = refl;
  classes = refl;
  form = refl;
  enrolled = refl;
  enrolled-closed = refl;
  not_enrolled = refl;
  thirds = refl;
  halves = refl;
  hundredths = refl;
  top = refl;
  old = refl;
  old-refused = refl;
  old-loaded = refl;
  last = refl;
  standing = refl;
  withdrawn = refl;
  eight = refl;
  seven = refl;
  freed = refl;
  maximum_zero = refl;
  zero_and_one = refl;
  zero_withdrawn = refl;
  zero_stands = refl;
  under_zero = refl;
  below-zero = refl;
  below_zero_row = refl;
  own_to_zero = refl;
  own_stays = refl;
}
