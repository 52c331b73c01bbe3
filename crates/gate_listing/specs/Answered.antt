-- The table of answers, the listing's part: "22: listing buffer shorter than 108 bytes a group; a longer one keeps its tail", over every lent
-- memory after a proper opening. Expected values are worked out from document 01; the rooms are carried over from the history. (Refusal list)
use Rattle.std.specs.Prelude.{ℕ, zero, suc, ◌≡◌, true, List, [], ◌∷◌, ◌++◌, replicate}
use Rattle.std.proofs.Common.{arith}
use Rattle.rules.specs.Money.{millions}
use Rattle.rules.specs.Quotas.{quota_by, closed_quota}
use Rattle.rules.specs.Orders.{shanghai, net_of}
use Rattle.rules.specs.Lists.{enrol_rules, regular_rules, own_quota_rules}
use Rattle.rules.specs.Loads.{load_rules}
use Rattle.rules.specs.Keyed.{find, put, without}
use Rattle.rules.specs.Sums.{sum_over}
use Rattle.rules.specs.declared.calls.Call.{Call}
use Rattle.rules.specs.declared.calls.Call.TheVariants.{Enrol, Regular, OwnQuota, Close}
use Rattle.history.specs.Past.{open_in, bought_in, sold_in, money_in}
use Rattle.history.specs.Answers.{is_taken, refusals}
use Rattle.history.specs.Runs.{Entry, Called, Loaded, load_refusal, accept, next, after, next_entry, after_all}
use Rattle.claim.specs.Opening.{open_refusal}
use Rattle.claim.specs.Demand.{run, run_all, opened}
use Rattle.columns.specs.Column.{byte_at, marked, number, digits}
use Rattle.columns.specs.Texts.{bytes}
use Rattle.rows.specs.Row.{signed_net}
use Rattle.listing.specs.Text.{row_text, listing_text}
use Rattle.gate_listing.specs.Listed.{list_refusal, listed}
use Rattle.gate_listing.specs.Claim.{history_row, history_rows_on, history_rows}
use Rattle.gate_listing.specs.Claimed.{listing_demand, listed-calls}
use Rattle.claim.specs.Step.{Memory}

-- n groups of class 4
unfoldable pub enrols : ℕ → List Call
enrols zero = []
enrols (suc n) = Enrol n 4 ∷ enrols n

-- a group with maximum 8 and own quota 5
abbrev morning : List Call
morning = Enrol 1 1 ∷ Regular 1 0 (millions 3) (millions 8) ∷ Close ∷ OwnQuota 0 (millions 5) ∷ []

-- 2026-01: 1/100 for class 4, and a figure of 0.49, rounded 0, that alone stands
abbrev hundredth : Entry
hundredth = Loaded (record { formed = true; first = record { class = 1; numerator = 5; denominator = 2 }; second = record { class = 3; numerator = 1; denominator = 1 }; third = record { class = 4; numerator = 1; denominator = 100 } })

abbrev nil : List Entry
nil = hundredth ∷ Called (Enrol 1 4) ∷ Called (Regular 11 0 (millions 49) (millions 0)) ∷ Called Close ∷ []

module _ (lent : Memory) where
  -- after the calls, the listing into so many bytes is refused by n
  abbrev pub Lists : List Call → ℕ → ℕ → Type 0
  Lists cs room n = list_refusal (run shanghai (opened lent) cs) room ≡ n

  -- the buffer after it
  abbrev pub Leaves : List Call → List ℕ → List ℕ → Type 0
  Leaves cs buffer told = listed (run shanghai (opened lent) cs) buffer ≡ told

  pub record Answered : Type 0 where
    -- no group
    pub none : (Lists [] 0 0)
        × (Lists [] 1 0)
    -- one
    pub one : (Lists (Enrol 1 1 ∷ []) 0 22)
        × (Lists (Enrol 1 1 ∷ []) 107 22)
        × (Lists (Enrol 1 1 ∷ []) 108 0)
        × (Lists (Enrol 1 1 ∷ []) 109 0)
    -- two; a refused one is none
    pub two : (Lists (Enrol 1 1 ∷ Enrol 1 1 ∷ Enrol 1 3 ∷ []) 108 22)
        × (Lists (Enrol 1 1 ∷ Enrol 1 1 ∷ Enrol 1 3 ∷ []) 215 22)
        × (Lists (Enrol 1 1 ∷ Enrol 1 1 ∷ Enrol 1 3 ∷ []) 216 0)
        × (Lists (Enrol 1 1 ∷ Enrol 1 1 ∷ Enrol 1 3 ∷ []) 217 0)
    -- 64
    pub all : (Lists (enrols 64) 6_911 22)
        × (Lists (enrols 64) 6_912 0)
    -- "a longer one keeps its tail" (Refusal list)
    pub tail : Leaves morning (replicate 111 7) (bytes "    1 1       8       5                    0                    0                    0                    0\n" ++ (7 ∷ 7 ∷ 7 ∷ []))
    -- "listing rows, written or read, may show maximum 0 from now on" (2026-01)
    pub zero_shown : (list_refusal (run_all shanghai (opened lent) nil) 108 ≡ 0)
        × (listed (run_all shanghai (opened lent) nil) (replicate 108 7) ≡ bytes "    1 4       0       0                    0                    0                    0                    0\n")

  module _ (o : open_refusal lent ≡ 0) where
    pub answered : Answered
    unfolding enrols after_all next_entry load_refusal load_rules after next refusals accept is_taken find put without sum_over open_in bought_in sold_in money_in net_of quota_by closed_quota enrol_rules regular_rules own_quota_rules byte_at marked number digits signed_net row_text listing_text history_row history_rows_on history_rows
    answered = record {
      none = ((listed-calls lent o []).refusal 0, (listed-calls lent o []).refusal 1);
      one = ((listed-calls lent o (Enrol 1 1 ∷ [])).refusal 0, (listed-calls lent o (Enrol 1 1 ∷ [])).refusal 107, (listed-calls lent o (Enrol 1 1 ∷ [])).refusal 108, (listed-calls lent o (Enrol 1 1 ∷ [])).refusal 109);
      two = ((listed-calls lent o (Enrol 1 1 ∷ Enrol 1 1 ∷ Enrol 1 3 ∷ [])).refusal 108, (listed-calls lent o (Enrol 1 1 ∷ Enrol 1 1 ∷ Enrol 1 3 ∷ [])).refusal 215, (listed-calls lent o (Enrol 1 1 ∷ Enrol 1 1 ∷ Enrol 1 3 ∷ [])).refusal 216, (listed-calls lent o (Enrol 1 1 ∷ Enrol 1 1 ∷ Enrol 1 3 ∷ [])).refusal 217);
      all = ((listed-calls lent o (enrols 64)).refusal 6_911, (listed-calls lent o (enrols 64)).refusal 6_912);
      tail = (listed-calls lent o morning).text (replicate 111 7) (omega arith);
      zero_shown = ((listing_demand lent o nil).refusal 108, (listing_demand lent o nil).text (replicate 108 7) (omega arith));
    }
