-- The table of answers, the host's part: the openings that are proper, and refusal 1 for every figure of the gate and of a named place, below,
-- at and above the ends of its range. Expected values are worked out from document 01. Cancelling order 0 is refused by 2 where the memory is
-- sound, and by 1, which is smaller, where it is not.
use Rattle.std.specs.Prelude.{ℕ, ◌+◌, ◌-◌, ◌≡◌, refl, true, List, [], ◌∷◌, replicate, set}
use Rattle.rules.specs.Money.{mils, millions, mils_of}
use Rattle.rules.specs.Quotas.{quota_by, closed_quota}
use Rattle.rules.specs.Orders.{is_buy, price_rule, worse_fill, net_of, shanghai, stops}
use Rattle.rules.specs.Lists.{enrol_rules, attach_rules, detach_rules, regular_rules, raise_rules, withdraw_rules, own_quota_rules, order_rules, fill_rules, cancel_rules}
use Rattle.rules.specs.Keyed.{find}
use Rattle.rules.specs.Sums.{when, sum_over}
use Rattle.rules.specs.declared.calls.Call.{Call}
use Rattle.rules.specs.declared.calls.Call.TheVariants.{Enrol, Attach, Detach, Regular, Raise, Withdraw, OwnQuota, Order, Fill, Cancel, Close}
use Rattle.figures.specs.Places.{place_in, pairs}
use Rattle.figures.specs.Figures.{standing_of, place_of, sum_of, declared_figures, withdrawn_figures}
use Rattle.words.specs.Words.{splice}
use Rattle.words.specs.Words as words
use Rattle.words.specs.Each.{all_below}
use Rattle.register.specs.Layout.{at_code, at_class, at_maximum, at_own, at_holder, at_figure, at_standing, at_declarers, at_quotas, first_unit, first_unit_group, figures_of, group_of, words_of, record_at, put_record, add_group, is_taken, place, tab, put_words, register_length}
use Rattle.register.specs.Check.{record_ok, register_ok}
use Rattle.quota.specs.Asks.{is_sound, groups_enrolled}
use Rattle.quota.specs.Groups.{declared_group, raised_group, filed_group, own_group, closed_group}
use Rattle.quota.specs.Calls.{enrol_refusal, enrol_answer, enrol_after, attach_refusal, attach_after, detach_refusal, detach_after, regular_refusal, regular_after, raise_refusal, raise_after, withdraw_refusal, withdraw_after, own_quota_refusal, own_quota_after, closed_at, closed_below, close_refusal, close_after, load_refusal, load_after}
use Rattle.rules.specs.Loads.{load_rules, FileRead}
use Rattle.rules.specs.declared.loads.RatioLine.{RatioLine}
use Rattle.history.specs.Runs.{Loaded}
use Rattle.book.specs.Layout.{money_base, place_base, put_accepted, money_at, put_money, place_at, put_place, put_open, book_length}
use Rattle.book.specs.Check.{book_ok, place_ok}
use Rattle.orders.specs.Host.{host_ok, named_ok}
use Rattle.orders.specs.Booking.{money_fits, booked_order, booked_fill, booked_cancel}
use Rattle.orders.specs.Calls.{order_refusal, order_answer, order_book, order_places, fill_refusal, fill_book, fill_places, cancel_refusal, cancel_book, cancel_places, closed_book}
use Rattle.claim.specs.Step.{Memory, memory, book_sound, step, step_entry}
use Rattle.claim.specs.Opening.{open_refusal, open_register, open_book}
use Rattle.claim.specs.Demand.{run, opened}

-- ---- the calls

abbrev fill : ℕ → ℕ → ℕ → Call
fill number price quantity = Fill number (mils price) quantity

abbrev cancel : ℕ → Call
cancel number = Cancel number

-- one of each of the eleven
abbrev eleven : List Call
eleven =
    Enrol 3 3 ∷ Attach 7 0 ∷ Detach 20_001 ∷ Regular 1 0 (millions 2) (millions 5) ∷ Raise 1 0 (millions 30) 0 ∷ Withdraw 11 1 ∷ OwnQuota 0 (millions 3)
    ∷ Order 20_001 1 (mils 500) 10 ∷ Fill 1 (mils 500) 1 ∷ Cancel 1 ∷ Close ∷ []

-- ---- memory

-- N = 4. Two groups: 0 the firm 1 with a figure of 8; 1 of class 3 with an emergency of 20, held by 11. A unit of group 0. Two orders of
-- group 0: a limit buy of 10 at 500, and a limit sell of 10 at 500; open buys of 5,000.
abbrev begun : Memory
begun = run shanghai (opened (memory (replicate register_length 7) (replicate book_length 7) (replicate 16 7))) (Enrol 1 1 ∷ Enrol 2 3 ∷ Regular 1 0 (millions 3) (millions 8) ∷ Raise 11 1 (millions 20) 0 ∷ Close ∷ [])

-- word k of group g in the register; a unit's two words; a total of group g in the book; word k of the place of an order
abbrev word_of : ℕ → ℕ → ℕ
word_of g k = place g k

abbrev unit_of : ℕ → ℕ
unit_of u = first_unit + u

abbrev group_of_unit : ℕ → ℕ
group_of_unit u = first_unit_group + u

abbrev total_of : ℕ → ℕ → ℕ
total_of g k = money_base g + k

abbrev place_word : ℕ → ℕ → ℕ
place_word order k = place_base order + k

abbrev register : List ℕ
register = set (set (set begun.register 1 1) (unit_of 0) 20_001) (group_of_unit 0) 0

abbrev book : List ℕ
book = set (set begun.book 1 2) (total_of 0 0) 5_000

abbrev places : List ℕ
places = 0 ∷ 1 ∷ 500 ∷ 10 ∷ 0 ∷ 4 ∷ 500 ∷ 10 ∷ replicate 8 7

-- what a call is answered
abbrev answer_of : List ℕ → List ℕ → List ℕ → Call → ℕ
answer_of rs bs ps call = (step shanghai (memory rs bs ps) call).answer.refusal

-- ---- the forms of a line

-- a word of the memory, its value, and what a call is then answered
infix 80 ◌holds◌⇒◌
abbrev ◌holds◌⇒◌ : ℕ → ℕ → ℕ → ℕ × ℕ × ℕ
word holds value ⇒ n = (word, value, n)

unfoldable pub expected : List (ℕ × ℕ × ℕ) → List ℕ
expected [] = []
expected ((word, value, n) ∷ l) = n ∷ expected l

unfoldable pub register_asked : List ℕ → List (ℕ × ℕ × ℕ) → List ℕ
register_asked rs [] = []
register_asked rs ((word, value, n) ∷ l) = answer_of (set rs word value) book places (cancel 0) ∷ register_asked rs l

unfoldable pub book_asked : Call → List (ℕ × ℕ × ℕ) → List ℕ
book_asked call [] = []
book_asked call ((word, value, n) ∷ l) = answer_of register (set book word value) places call ∷ book_asked call l

unfoldable pub places_asked : Call → List (ℕ × ℕ × ℕ) → List ℕ
places_asked call [] = []
places_asked call ((word, value, n) ∷ l) = answer_of register book (set places word value) call ∷ places_asked call l

abbrev InRegister : List (ℕ × ℕ × ℕ) → Type 0
InRegister lines = register_asked register lines ≡ expected lines

abbrev InBook : Call → List (ℕ × ℕ × ℕ) → Type 0
InBook call lines = book_asked call lines ≡ expected lines

abbrev InPlaces : Call → List (ℕ × ℕ × ℕ) → Type 0
InPlaces call lines = places_asked call lines ≡ expected lines

-- all eleven calls are answered n, each by itself
unfoldable pub eleven_asked : List ℕ → List ℕ → List Call → List ℕ
eleven_asked rs bs [] = []
eleven_asked rs bs (c ∷ cs) = answer_of rs bs places c ∷ eleven_asked rs bs cs

abbrev AllAre : ℕ → List ℕ → List ℕ → Type 0
AllAre n rs bs = eleven_asked rs bs eleven ≡ replicate 11 n

-- lent memory of these lengths, and the opening's answer
abbrev Opens : ℕ → ℕ → ℕ → ℕ → Type 0
Opens r b p n = open_refusal (memory (replicate r 7) (replicate b 7) (replicate p 7)) ≡ n

-- ---- the table

-- what a load answers in such a memory: a table in range, and one with a numerator of 101
abbrev ratio_line : ℕ → ℕ → RatioLine
ratio_line class numerator = record { class = class; numerator = numerator; denominator = 1 }

abbrev good : FileRead
good = record { formed = true; first = ratio_line 1 7; second = ratio_line 3 7; third = ratio_line 4 7 }

abbrev bad : FileRead
bad = record { formed = true; first = ratio_line 1 7; second = ratio_line 3 7; third = ratio_line 4 101 }

abbrev loaded_into : List ℕ → List ℕ → FileRead → ℕ
loaded_into rs bs f = (step_entry shanghai (memory rs bs places) (Loaded f)).answer.refusal

pub record Answered : Type 0 where
  -- "The host lends N order places, 1 to 65,536", four words each (Money and names)
  pub openings : Opens register_length book_length 0 1 × Opens register_length book_length 4 0 × Opens register_length book_length 8_192 0
  -- not so many words, or a register or book of another length
  pub no_openings : Opens register_length book_length 3 1 × Opens register_length book_length 5 1 × Opens (register_length - 1) book_length 16 1 × Opens (register_length + 1) book_length 16 1 × Opens register_length (book_length - 1) 16 1 × Opens register_length (book_length + 1) 16 1
  -- N = 65,536, and one more
  pub top_opening : Opens register_length book_length 262_144 0 × Opens register_length book_length 262_148 1
  -- sound as it is: the word of group 0's code bears 1
  pub sound : InRegister (
      word_of 0 at_code holds 1 ⇒ 2
      ∷ [])
  -- "institution code .. 0 to 99,999"; "control class 1 to 4", of either group (Money and names)
  pub register-names : InRegister (
      word_of 0 at_code holds 0 ⇒ 2
      ∷ word_of 0 at_code holds 99_999 ⇒ 2
      ∷ word_of 0 at_code holds 100_000 ⇒ 1
      ∷ word_of 1 at_code holds 99_999 ⇒ 2
      ∷ word_of 1 at_code holds 100_000 ⇒ 1
      ∷ word_of 0 at_class holds 0 ⇒ 1
      ∷ word_of 0 at_class holds 1 ⇒ 2
      ∷ word_of 0 at_class holds 4 ⇒ 2
      ∷ word_of 0 at_class holds 5 ⇒ 1
      ∷ word_of 1 at_class holds 0 ⇒ 1
      ∷ word_of 1 at_class holds 4 ⇒ 2
      ∷ word_of 1 at_class holds 5 ⇒ 1
      ∷ word_of 2 at_class holds 5 ⇒ 2
      ∷ [])
  -- "quota 0 to 9,999,999 millions"; 10,000,000 is the word for none (Money and names)
  pub register_limits : InRegister (
      word_of 1 at_maximum holds 9_999_999 ⇒ 2
      ∷ word_of 1 at_maximum holds 10_000_000 ⇒ 2
      ∷ word_of 1 at_maximum holds 10_000_001 ⇒ 1
      ∷ word_of 1 at_own holds 9_999_999 ⇒ 2
      ∷ word_of 1 at_own holds 10_000_000 ⇒ 2
      ∷ word_of 1 at_own holds 10_000_001 ⇒ 1
      ∷ word_of 1 at_figure holds 9_999_999 ⇒ 2
      ∷ word_of 1 at_figure holds 10_000_000 ⇒ 1
      ∷ [])
  -- "declarer 0 to 99,999": as a holder, as one that has filed (100,000 more), and 200,000 for nobody, who has no figure (Money and names)
  pub register_holder : InRegister (
      word_of 1 at_holder holds 0 ⇒ 2
      ∷ word_of 1 at_holder holds 99_999 ⇒ 2
      ∷ word_of 1 at_holder holds 199_999 ⇒ 2
      ∷ word_of 1 at_holder holds 200_001 ⇒ 1
      ∷ word_of 0 at_holder holds 200_000 ⇒ 2
      ∷ word_of 0 at_holder holds 200_001 ⇒ 1
      ∷ [])
  -- "at most eight declarers", each in its range, with a quota in its range (Quotas)
  pub register_figures : InRegister (
      word_of 0 at_standing holds 8 ⇒ 2
      ∷ word_of 0 at_standing holds 9 ⇒ 1
      ∷ word_of 0 at_declarers holds 99_999 ⇒ 2
      ∷ word_of 0 at_declarers holds 100_000 ⇒ 1
      ∷ word_of 0 (at_declarers + 7) holds 99_999 ⇒ 2
      ∷ word_of 0 (at_declarers + 7) holds 100_000 ⇒ 1
      ∷ word_of 0 at_quotas holds 9_999_999 ⇒ 2
      ∷ word_of 0 at_quotas holds 10_000_000 ⇒ 1
      ∷ word_of 0 (at_quotas + 7) holds 9_999_999 ⇒ 2
      ∷ word_of 0 (at_quotas + 7) holds 10_000_000 ⇒ 1
      ∷ [])
  -- "at most 64 groups and 256 attached units"; "trading unit .. 0 to 99,999"; its group is one (Money and names)
  pub register_units : InRegister (
      0 holds 65 ⇒ 1
      ∷ 1 holds 257 ⇒ 1
      ∷ unit_of 0 holds 0 ⇒ 2
      ∷ unit_of 0 holds 99_999 ⇒ 2
      ∷ unit_of 0 holds 100_000 ⇒ 1
      ∷ group_of_unit 0 holds 1 ⇒ 2
      ∷ group_of_unit 0 holds 64 ⇒ 1
      ∷ unit_of 1 holds 100_000 ⇒ 2
      ∷ [])
  -- "numerator and denominator (both 1 to 100)" (2026-01): each of the six words of the ratios, though no call reads it; the eight words behind are free
  pub register-ratios : InRegister (
      2 holds 0 ⇒ 1
      ∷ 2 holds 1 ⇒ 2
      ∷ 2 holds 100 ⇒ 2
      ∷ 2 holds 101 ⇒ 1
      ∷ 3 holds 0 ⇒ 1
      ∷ 3 holds 101 ⇒ 1
      ∷ 4 holds 0 ⇒ 1
      ∷ 4 holds 101 ⇒ 1
      ∷ 5 holds 0 ⇒ 1
      ∷ 5 holds 101 ⇒ 1
      ∷ 6 holds 0 ⇒ 1
      ∷ 6 holds 101 ⇒ 1
      ∷ 7 holds 0 ⇒ 1
      ∷ 7 holds 1 ⇒ 2
      ∷ 7 holds 100 ⇒ 2
      ∷ 7 holds 101 ⇒ 1
      ∷ 8 holds 101 ⇒ 2
      ∷ 15 holds 101 ⇒ 2
      ∷ [])
  -- a load: 1 before 2 and 23, for a figure of the register, of the book and for N; a sound gate with groups enrolled answers 23, or 2 for a number out of range
  pub loads : (loaded_into register book good ≡ 23) × (loaded_into register book bad ≡ 2)
      × (loaded_into (set register (word_of 1 at_class) 5) book good ≡ 1) × (loaded_into (set register 2 0) book bad ≡ 1)
      × (loaded_into register (set book 1 5) good ≡ 1) × (loaded_into register (set book 0 3) bad ≡ 1)
  -- "N .. other than at opening"; "orders accepted 0 to N" (Refusal list; Money and names)
  pub book_numbers : InBook (cancel 0) (
      0 holds 0 ⇒ 1
      ∷ 0 holds 3 ⇒ 1
      ∷ 0 holds 4 ⇒ 2
      ∷ 0 holds 5 ⇒ 1
      ∷ 1 holds 0 ⇒ 2
      ∷ 1 holds 4 ⇒ 2
      ∷ 1 holds 5 ⇒ 1
      ∷ [])
  -- "L is 6,553,599,344,640,000,000 mils: no group's total passes it" (Money and names)
  pub book_totals : InBook (cancel 0) (
      total_of 0 0 holds 6_553_599_344_640_000_000 ⇒ 2
      ∷ total_of 0 0 holds 6_553_599_344_640_000_001 ⇒ 1
      ∷ total_of 0 1 holds 6_553_599_344_640_000_000 ⇒ 2
      ∷ total_of 0 1 holds 6_553_599_344_640_000_001 ⇒ 1
      ∷ total_of 0 2 holds 6_553_599_344_640_000_000 ⇒ 2
      ∷ total_of 0 2 holds 6_553_599_344_640_000_001 ⇒ 1
      ∷ total_of 1 0 holds 6_553_599_344_640_000_000 ⇒ 2
      ∷ total_of 1 0 holds 6_553_599_344_640_000_001 ⇒ 1
      ∷ total_of 1 1 holds 6_553_599_344_640_000_000 ⇒ 2
      ∷ total_of 1 1 holds 6_553_599_344_640_000_001 ⇒ 1
      ∷ total_of 1 2 holds 6_553_599_344_640_000_000 ⇒ 2
      ∷ total_of 1 2 holds 6_553_599_344_640_000_001 ⇒ 1
      ∷ [])
  -- "or one in the place of the order named by the call, if that number was given since the close":
  -- group, kind, price, open quantity of order 1 (Refusal list)
  pub place_named : InPlaces (fill 1 500 1) (
      place_word 1 0 holds 0 ⇒ 0
      ∷ place_word 1 0 holds 64 ⇒ 1
      ∷ place_word 1 1 holds 0 ⇒ 1
      ∷ place_word 1 1 holds 2 ⇒ 0
      ∷ place_word 1 1 holds 7 ⇒ 1
      ∷ place_word 1 2 holds 0 ⇒ 1
      ∷ place_word 1 2 holds 500 ⇒ 0
      ∷ place_word 1 2 holds 501 ⇒ 0
      ∷ place_word 1 2 holds 10_000_000 ⇒ 1
      ∷ place_word 1 3 holds 0 ⇒ 19
      ∷ place_word 1 3 holds 1 ⇒ 0
      ∷ place_word 1 3 holds 10_000_000 ⇒ 0
      ∷ place_word 1 3 holds 10_000_001 ⇒ 1
      ∷ [])
  -- the price's range, by a sell, order 2
  pub place_price : InPlaces (fill 2 9_999_999 1) (
      place_word 2 2 holds 0 ⇒ 1
      ∷ place_word 2 2 holds 1 ⇒ 0
      ∷ place_word 2 2 holds 9_999_999 ⇒ 0
      ∷ place_word 2 2 holds 10_000_000 ⇒ 1
      ∷ [])
  -- the same by a cancel; 1 before 19
  pub place-cancelled : InPlaces (cancel 1) (
      place_word 1 0 holds 64 ⇒ 1
      ∷ place_word 1 1 holds 0 ⇒ 1
      ∷ place_word 1 1 holds 7 ⇒ 1
      ∷ place_word 1 2 holds 0 ⇒ 1
      ∷ place_word 1 2 holds 10_000_000 ⇒ 1
      ∷ place_word 1 3 holds 0 ⇒ 19
      ∷ place_word 1 3 holds 10 ⇒ 0
      ∷ place_word 1 3 holds 10_000_001 ⇒ 1
      ∷ [])
  -- a place not named, and places above the last number given, decide no answer
  pub place_not_named : InPlaces (fill 1 500 1) (
      place_word 2 1 holds 7 ⇒ 0
      ∷ place_word 2 3 holds 10_000_001 ⇒ 0
      ∷ place_word 3 1 holds 9 ⇒ 0
      ∷ [])
  pub place_not_given : InPlaces (cancel 3) (
      place_word 3 1 holds 9 ⇒ 18
      ∷ place_word 3 0 holds 64 ⇒ 18
      ∷ [])
  -- "in a call that no other number refuses, a group's total .. would leave 0 to L": 500 off the open buys, 5,000 off them;
  -- 20 and 19 before it (Refusal list)
  pub late_fill : InBook (fill 1 500 1) (
      total_of 0 0 holds 500 ⇒ 0
      ∷ total_of 0 0 holds 499 ⇒ 1
      ∷ [])
  pub late_cancel : InBook (cancel 1) (
      total_of 0 0 holds 5_000 ⇒ 0
      ∷ total_of 0 0 holds 4_999 ⇒ 1
      ∷ [])
  pub late_worse : InBook (fill 1 501 1) (
      total_of 0 0 holds 499 ⇒ 20
      ∷ [])
  pub late_above : InBook (fill 1 500 11) (
      total_of 0 0 holds 499 ⇒ 19
      ∷ [])
  -- "or its open + bought + sold": 5,000 open and 500 more sold come to L; one more (Refusal list)
  pub late_sum : InBook (fill 2 500 1) (
      total_of 0 2 holds 6_553_599_344_639_994_500 ⇒ 0
      ∷ total_of 0 2 holds 6_553_599_344_639_994_501 ⇒ 1
      ∷ [])
  -- bought counted in the sum
  pub late_bought : InBook (fill 2 500 1) (
      total_of 0 1 holds 6_553_599_344_639_994_500 ⇒ 0
      ∷ total_of 0 1 holds 6_553_599_344_639_994_501 ⇒ 1
      ∷ [])
  -- a figure out of its range in the register, in the book: every call is answered 1
  pub register_spoilt : AllAre 1 (set register (word_of 1 at_class) 5) book
  pub book_spoilt : AllAre 1 register (set book 1 5)

pub answered : Answered
unfolding expected register_asked book_asked places_asked eleven_asked step step_entry load_refusal load_after load_rules run open_refusal open_register open_book book_sound is_sound
    groups_enrolled host_ok named_ok book_ok place_ok record_ok register_ok all_below enrol_refusal enrol_answer enrol_after attach_refusal attach_after
    detach_refusal detach_after regular_refusal regular_after raise_refusal raise_after withdraw_refusal withdraw_after own_quota_refusal
    own_quota_after closed_at closed_below close_refusal close_after declared_group raised_group filed_group own_group closed_group figures_of group_of
    words_of place tab put_words record_at put_record add_group is_taken words.run splice standing_of place_of sum_of declared_figures
    withdrawn_figures place_in pairs sum_over when put_accepted money_at put_money place_at put_place put_open money_fits booked_order booked_fill
    booked_cancel order_refusal order_answer order_book order_places fill_refusal fill_book fill_places cancel_refusal cancel_book cancel_places
    closed_book mils_of is_buy price_rule worse_fill net_of shanghai stops quota_by closed_quota enrol_rules attach_rules detach_rules regular_rules
    raise_rules withdraw_rules own_quota_rules order_rules fill_rules cancel_rules find
answered = record {
  openings = (refl, refl, refl);
  no_openings = (refl, refl, refl, refl, refl, refl);
  top_opening = (refl, refl);
  sound = refl;
  register-names = refl;
  register_limits = refl;
  register_holder = refl;
  register_figures = refl;
  register_units = refl;
  register-ratios = refl;
  loads = (refl, refl, refl, refl, refl, refl);
  book_numbers = refl;
  book_totals = refl;
  place_named = refl;
  place_price = refl;
  place-cancelled = refl;
  place_not_named = refl;
  place_not_given = refl;
  late_fill = refl;
  late_cancel = refl;
  late_worse = refl;
  late_above = refl;
  late_sum = refl;
  late_bought = refl;
  register_spoilt = refl;
  book_spoilt = refl;
}
