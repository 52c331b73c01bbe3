-- Examples by computation: rooms of rows, the room after document 01's day, rows read from texts. Expected values are worked out from document 01 by
-- hand. LineExamples.antt has the call lines. Assumes nothing.
use Rattle.std.specs.Prelude.{ℕ, ◌≤◌, ◌<◌, ◌≡◌, refl, Bool, true, false, List, [], ◌∷◌, ◌++◌, length, replicate, Some, None}
use Rattle.std.proofs.Math.Path.{ap}
use Rattle.std.proofs.Common.{◌∙◌, arith, le-ltb}
use Rattle.rules.specs.Money.{mils, millions, mils_of}
use Rattle.rules.specs.Quotas.{quota_by, closed_quota}
use Rattle.rules.specs.Orders.{is_buy, price_rule, worse_fill, net_of, shanghai, stops}
use Rattle.rules.specs.Lists.{enrol_rules, attach_rules, regular_rules, own_quota_rules, order_rules, fill_rules, cancel_rules}
use Rattle.rules.specs.Keyed.{find, put, without}
use Rattle.rules.specs.Sums.{when, sum_over}
use Rattle.history.specs.Past.{at_opening, filled_money, open_in, bought_in, sold_in, money_in}
use Rattle.history.specs.Answers.{is_taken, refusals, number_given, answer}
use Rattle.history.specs.Examples.{input}
use Rattle.history.specs.Runs.{accept, next, calls, next_entry, after_all}
use Rattle.words.specs.Words.{splice}
use Rattle.columns.specs.Texts.{bytes}
use Rattle.claim.specs.Step.{Memory}
use Rattle.claim.specs.Opening.{places_lent, open_refusal}
use Rattle.claim.specs.Demand.{run_all, opened}
use Rattle.rows.specs.Row.{signed_net, row_obeys, row_kept, refused_row}
use Rattle.rows.specs.Kept.{money_fits}
use Rattle.rows.specs.Room.{difference, room_under, room_of}
use Rattle.rows.specs.declared.Row.{Row}
use Rattle.rows.specs.Room.{Room}
use Rattle.rows.specs.Row.{RowRead}
use Rattle.listing.specs.Text.{listing_text, fresh, rows_kept, listing_kept, is_listing, refusal_of_text}
use Rattle.listing.specs.Laws.{listing_read}
use Rattle.listing.specs.Examples.{paper_line, none_line, below_line, paper_row, none_row, below_row}
use Rattle.listing.specs.Examples as listings
use Rattle.gate_listing.specs.Claim.{history_row}
use Rattle.router.specs.Handed.{dash, row_words}
use Rattle.router.specs.Rooms.{left_refusal, left_put, read_refusal, read_room, room_refusal, room_put}
use Rattle.router.specs.RoomLaws.{room_demand}
use Rattle.router.specs.Texts.{found_refusal, found_row}
use Rattle.router.specs.TextLaws.{found_decides, found_words, found_malformed}

-- ---- rooms

abbrev read_of : Row → RowRead
read_of r = record { refusal = 0; row = r }

-- own quota 5, and this net
abbrev five : ℕ → Row
five net =
    record { code = 1; class = 1; maximum = Some (millions 8); own = Some (millions 5); money = record { «open» = mils net; bought = mils 0; sold = mils 0 }; below = false; net = mils net }

-- the answer, and the lent words afterwards
abbrev Told : RowRead → List ℕ → ℕ → List ℕ → Type 0
Told read out q words = (read_refusal read (length out) ≡ q) × (read_room read out ≡ words)

pub record Rooms : Type 0 where
  -- document 01's row: own quota 5,000,000,000 − net 3,740,000,000; the third word stays
  pub paper : Told (read_of paper_row) (7 ∷ 7 ∷ 7 ∷ []) 0 (0 ∷ 1_260_000_000 ∷ 7 ∷ [])
  -- a "-" row: 15, also where no word is lent
  pub none : Told (read_of none_row) (7 ∷ 7 ∷ 7 ∷ []) 15 (7 ∷ 7 ∷ 7 ∷ [])
  pub none_short : Told (read_of none_row) [] 15 []
  -- "E6 own 0: .. net −1 passes": there is room for one mil (Edges to prove)
  pub net_below : Told (read_of below_row) (7 ∷ 7 ∷ []) 0 (0 ∷ 1 ∷ [])
  -- "E5 own 5: net 4,999,999,999 lets a buy in, 5,000,000,000 gets 16"; and a net above the own quota has a room below 0 (Edges to prove)
  pub last_mil : Told (read_of (five 4_999_999_999)) (7 ∷ 7 ∷ []) 0 (0 ∷ 1 ∷ [])
  pub reached : Told (read_of (five 5_000_000_000)) (7 ∷ 7 ∷ []) 0 (0 ∷ 0 ∷ [])
  pub above : Told (read_of (five 5_000_000_001)) (7 ∷ 7 ∷ []) 0 (1 ∷ 1 ∷ [])
  pub far_above : Told (read_of (five 13_000_000_000)) (7 ∷ 7 ∷ []) 0 (1 ∷ 8_000_000_000 ∷ [])
  -- fewer than 2 words
  pub short : Told (read_of paper_row) (7 ∷ []) 22 (7 ∷ [])
  -- the row's refusals come first
  pub unsound : Told (refused_row 1) [] 1 []
  pub out_of_range : Told (refused_row 2) (7 ∷ 7 ∷ []) 2 (7 ∷ 7 ∷ [])
  pub not_there : Told (refused_row 6) (7 ∷ []) 6 (7 ∷ [])

pub rooms : Rooms
unfolding splice room_of room_under difference mils_of
rooms =
    record {
      paper = (refl, refl);
      none = (refl, refl);
      none_short = (refl, refl);
      net_below = (refl, refl);
      last_mil = (refl, refl);
      reached = (refl, refl);
      above = (refl, refl);
      far_above = (refl, refl);
      short = (refl, refl);
      unsound = (refl, refl);
      out_of_range = (refl, refl);
      not_there = (refl, refl);
    }

-- ---- after document 01's day ("Lines and columns"), in every gate of 2,048 places: 1,260,000,000 mils

abbrev days_room : Room
days_room = record { given = true; left = record { below = false; size = mils 1_260_000_000 } }

-- by the history
day_left : (length (after_all 2_048 shanghai at_opening (calls input)).groups ≡ 1) × (room_of (history_row (after_all 2_048 shanghai at_opening (calls input)) 0) ≡ days_room)
unfolding after_all next_entry calls answer next number_given refusals accept is_taken find put without when sum_over filled_money open_in bought_in sold_in money_in net_of shanghai stops mils_of is_buy price_rule worse_fill quota_by closed_quota enrol_rules attach_rules regular_rules own_quota_rules order_rules fill_rules cancel_rules history_row signed_net room_of room_under difference
day_left = (refl, refl)

module _ (lent : Memory) (o : open_refusal lent ≡ 0) (n : places_lent lent ≡ 2_048) where
  enrolled : 0 < length (after_all (places_lent lent) shanghai at_opening (calls input)).groups
  enrolled =
      let one : length (after_all (places_lent lent) shanghai at_opening (calls input)).groups ≡ 1 = ap (λ (N : ℕ). length (after_all N shanghai at_opening (calls input)).groups) n ∙ day_left.0 in
      omega arith

  left : room_of (history_row (after_all (places_lent lent) shanghai at_opening (calls input)) 0) ≡ days_room
  left = ap (λ (N : ℕ). room_of (history_row (after_all N shanghai at_opening (calls input)) 0)) n ∙ day_left.1

  pub day-refusal : (words : ℕ) → 2 ≤ words → room_refusal (run_all shanghai (opened lent) (calls input)) 0 words ≡ 0
  day-refusal words h = (room_demand lent o (calls input) 0 enrolled).refusal words ∙ ap (λ (r : Room). left_refusal r words) left ∙ rw (le-ltb words 2 h)

  pub day-room : room_put (run_all shanghai (opened lent) (calls input)) 0 (7 ∷ 7 ∷ 7 ∷ []) ≡ 0 ∷ 1_260_000_000 ∷ 7 ∷ []
  unfolding splice
  day-room =
      (room_demand lent o (calls input) 0 enrolled).room (7 ∷ 7 ∷ 7 ∷ [])
      ∙ ap (λ (r : Room). left_put r (7 ∷ 7 ∷ 7 ∷ [])) left

-- ---- rows of texts

-- row k of the text: the answer, and the lent words afterwards
abbrev Found : List ℕ → ℕ → List ℕ → ℕ → List ℕ → Type 0
Found t k out q words = (found_refusal t k (length out) ≡ q) × (found_row t k out ≡ words)

abbrev nine : List ℕ
nine = replicate 9 7

-- a second group, without a maximum
abbrev second : Row
second = record { code = 2; class = 3; maximum = None; own = None; money = record { «open» = mils 0; bought = mils 0; sold = mils 0 }; below = false; net = mils 0 }

abbrev two : List ℕ
two = listing_text (paper_row ∷ second ∷ [])

pub record Texts : Type 0 where
  -- document 01's listing; the tenth word stays
  pub paper : Found (bytes paper_line) 0 (replicate 10 7) 0 (1 ∷ 1 ∷ 8 ∷ 5 ∷ 0 ∷ 3_740_000_000 ∷ 2_500_000_000 ∷ 1_240_000_000 ∷ 0 ∷ 7 ∷ [])
  -- "-" is 2⁶⁴ − 1; a net below 0 has its sign
  pub none : Found (bytes none_line) 0 nine 0 (1 ∷ 1 ∷ dash ∷ dash ∷ 0 ∷ 0 ∷ 0 ∷ 0 ∷ 0 ∷ [])
  pub below : Found (bytes below_line) 0 nine 0 (1 ∷ 1 ∷ 8 ∷ 0 ∷ 1 ∷ 1 ∷ 0 ∷ 0 ∷ 1 ∷ [])
  -- rows are counted from 0
  pub last : Found two 1 nine 0 (2 ∷ 3 ∷ dash ∷ dash ∷ 0 ∷ 0 ∷ 0 ∷ 0 ∷ 0 ∷ [])
  pub behind : Found two 2 nine 6 nine
  pub far : Found two 18_446_744_073_709_551_615 nine 6 nine
  -- "no groups, no bytes" is a listing (Lines and columns)
  pub empty : Found [] 0 nine 6 nine
  -- eight words; 6 comes first
  pub short : Found (bytes paper_line) 0 (replicate 8 7) 22 (replicate 8 7)
  pub behind_short : Found (bytes paper_line) 1 [] 6 []

pub texts : Texts
unfolding splice row_words money_fits row_obeys row_kept signed_net fresh rows_kept listing_kept listing_text
texts =
    let p = (listings.examples).paper.1 in
    let q = (listings.examples).none.1 in
    let r = (listings.examples).below.1 in
    let s = listing_read (paper_row ∷ second ∷ []) refl in
    let e = listing_read [] refl in
    record {
      paper = (found_decides (bytes paper_line) (paper_row ∷ []) p.0 p.1 0 10, found_words (bytes paper_line) (paper_row ∷ []) p.0 p.1 0 (replicate 10 7));
      none = (found_decides (bytes none_line) (none_row ∷ []) q.0 q.1 0 9, found_words (bytes none_line) (none_row ∷ []) q.0 q.1 0 nine);
      below = (found_decides (bytes below_line) (below_row ∷ []) r.0 r.1 0 9, found_words (bytes below_line) (below_row ∷ []) r.0 r.1 0 nine);
      last = (found_decides two (paper_row ∷ second ∷ []) s.0 s.1 1 9, found_words two (paper_row ∷ second ∷ []) s.0 s.1 1 nine);
      behind = (found_decides two (paper_row ∷ second ∷ []) s.0 s.1 2 9, found_words two (paper_row ∷ second ∷ []) s.0 s.1 2 nine);
      far = (
        found_decides two (paper_row ∷ second ∷ []) s.0 s.1 18_446_744_073_709_551_615 9,
        found_words two (paper_row ∷ second ∷ []) s.0 s.1 18_446_744_073_709_551_615 nine,
      );
      empty = (found_decides [] [] e.0 e.1 0 9, found_words [] [] e.0 e.1 0 nine);
      short = (found_decides (bytes paper_line) (paper_row ∷ []) p.0 p.1 0 8, found_words (bytes paper_line) (paper_row ∷ []) p.0 p.1 0 (replicate 8 7));
      behind_short = (found_decides (bytes paper_line) (paper_row ∷ []) p.0 p.1 1 0, found_words (bytes paper_line) (paper_row ∷ []) p.0 p.1 1 []);
    }

-- no listing: 21, also where neither the row nor a word is there; the line without its line feed, and code with class repeated
no_listing : (t : List ℕ) → refusal_of_text t ≡ 21 → is_listing t ≡ false
no_listing t e = go (is_listing t) refl
  where
    go : (b : Bool) → is_listing t ≡ b → is_listing t ≡ false
    go true b = let z : ◌≡◌ {A = ℕ} 0 21 = rw b at e in absurd (omega (arith, z))
    go false b = b

pub no_feed : (k lent : ℕ) → found_refusal (bytes "    1 1       8       5           3740000000           2500000000           1240000000                    0") k lent ≡ 21
no_feed = found_malformed _ (no_listing _ (listings.examples).no_feed)

pub repeated : (k lent : ℕ) → found_refusal (bytes paper_line ++ bytes below_line) k lent ≡ 21
repeated = found_malformed _ (no_listing _ (listings.examples).repeated)
