-- An input that comes in pieces, any pieces, is answered as if it came whole (Whole.antt: `in_pieces`, `day`). Assumes nothing.
use Prim.Native.Nat.{ℕ, zero, suc, ◌+◌, ◌-◌, ◌/◌, ◌≤◌, ◌<◌}
use Rattle.std.specs.Prelude.{◌≡◌, Bool, true, ◌&&◌, leb, take}
use Rattle.std.proofs.Math.Path.{refl, sym, ap}
use Rattle.std.proofs.Common.{◌∙◌, add_assoc, zero-add, le-div_iff_mul-le, arith, ltb-true, le-leb, leb-true, leb-false, take_all, length-take-le}
use Rattle.std.proofs.Math.Bool.{false}
use mathlib.Core.List.{List, [], ◌∷◌, ◌++◌, append_assoc, append-nil}
use Rattle.std.proofs.Math.ListN.{length, drop, length-append, length-drop, drop_of_length-le}
use Rattle.std.proofs.Math.Seq.{drop-drop, drop-append-le}
use Rattle.rules.specs.Tests.{pick}
use Rattle.rules.specs.Calls.{refused}
use Rattle.rules.specs.Refusals.{malformed_number}
use Rattle.claim.specs.Step.{Memory, Stepped}
use Rattle.day.specs.Day.{line_step, printed, line_length, is_whole, first_line, behind_line, Told, none_told, before, told, rest_text}
use Rattle.day.specs.Laws.{told_used}
use Rattle.day.specs.Chunks.{joined, first_told, long_malformed, whole_later, first_later, behind_later, told_pieces, cut_alike, open_take}
use Rattle.day.specs.Whole.{told_all, behind_last, last_text, Printed, day, day_text, after, in_pieces, joined_up}
use Rattle.callfile.specs.Lines.{call_bytes}

-- ---- how many turns are enough

-- a line told takes a byte at least
lines_used : (n : ℕ) (m : Memory) (t : List ℕ) → (told n m t).lines ≤ (told n m t).used
unfolding told
lines_used zero m t = omega arith
lines_used (suc n) m t = go (is_whole t) (lines_used n (line_step m (first_line t)).memory (behind_line t))
  where
    rest : Told
    rest = told n (line_step m (first_line t)).memory (behind_line t)

    go : (b : Bool) → rest.lines ≤ rest.used → (pick b (before (line_step m (first_line t)) (line_length t) rest) (none_told m)).lines ≤ (pick b (before (line_step m (first_line t)) (line_length t) rest) (none_told m)).used
    go true ih = omega (arith, ih)
    go false ih = omega arith

-- no line is left where there are as many turns as bytes
none_left : (n : ℕ) (m : Memory) (t : List ℕ) → length t ≤ n → is_whole (drop (told n m t).used t) ≡ false
unfolding told line_length
none_left zero m [] h = refl
none_left zero m (x ∷ t) h = absurd (omega arith)
none_left (suc n) m t h = go (is_whole t) refl (none_left n (line_step m (first_line t)).memory (behind_line t))
  where
    rest : Told
    rest = told n (line_step m (first_line t)).memory (behind_line t)

    here : Bool → Told
    here b = pick b (before (line_step m (first_line t)) (line_length t) rest) (none_told m)

    go : (b : Bool) → is_whole t ≡ b → (length (behind_line t) ≤ n → is_whole (drop rest.used (behind_line t)) ≡ false) → is_whole (drop (here b).used t) ≡ false
    go true w ih =
        let l : length (behind_line t) ≤ n = omega (arith, length-drop (suc (line_length t)) t, ltb-true (line_length t) (length t) w) in
        ap is_whole (sym (drop-drop rest.used (suc (line_length t)) t)) ∙ ih l
    go false w ih = w

-- more turns change nothing where no line is left
pub told-done : (n k : ℕ) (m : Memory) (t : List ℕ) → is_whole (drop (told n m t).used t) ≡ false → told (n + k) m t ≡ told n m t
unfolding told
told-done zero k m t w = ap (λ (x : ℕ). told x m t) (zero-add k) ∙ none k
  where
    none : (j : ℕ) → told j m t ≡ none_told m
    none zero = refl
    none (suc j) = rw w
told-done (suc n) k m t w = ap (λ (x : ℕ). told x m t) e ∙ go (is_whole t) refl (told-done n k (line_step m (first_line t)).memory (behind_line t)) w
  where
    s : Stepped
    s = line_step m (first_line t)

    rest : Told
    rest = told n s.memory (behind_line t)

    here : Told → Bool → Told
    here r b = pick b (before s (line_length t) r) (none_told m)

    e : suc n + k ≡ suc (n + k)
    e = omega arith

    go : (b : Bool) → is_whole t ≡ b → (is_whole (drop rest.used (behind_line t)) ≡ false → told (n + k) s.memory (behind_line t) ≡ rest)
        → is_whole (drop (here rest b).used t) ≡ false → here (told (n + k) s.memory (behind_line t)) b ≡ here rest b
    go true q ih v = ap (before s (line_length t)) (ih (ap is_whole (drop-drop rest.used (suc (line_length t)) t) ∙ v))
    go false q ih v = refl

-- any number of turns that leaves no line, up to the number of bytes, tells all
told_all_lem : (n : ℕ) (m : Memory) (t : List ℕ) → n ≤ length t → is_whole (drop (told n m t).used t) ≡ false → told_all m t ≡ told n m t
told_all_lem n m t h w =
    let e : length t ≡ n + (length t - n) = omega arith in
    ap (λ (x : ℕ). told x m t) e ∙ told-done n (length t - n) m t w

told_enough : (n : ℕ) (m : Memory) (t : List ℕ) → length t ≤ n → told n m t ≡ told_all m t
told_enough n m t h =
    let e : n ≡ length t + (n - length t) = omega arith in
    ap (λ (x : ℕ). told x m t) e ∙ told-done (length t) (n - length t) m t (none_left (length t) m t (omega arith))

-- ---- a line that is too long, and what is left behind the last line feed

malformed : List ℕ
malformed = printed (refused malformed_number)

-- behind a beginning that is too long already, whatever it is
left_text : ℕ → Memory → List ℕ → List ℕ
left_text zero m b = malformed
left_text (suc k) m b = pick (is_whole b) (last_text (drop (told k m (behind_line b)).used (behind_line b))) malformed

long_last : (t : List ℕ) → 1 ≤ length t → last_text t ≡ malformed
unfolding malformed
long_last t h = rw (le-leb 1 (length t) h)

left_of : (k : ℕ) (m : Memory) (x b : List ℕ) → is_whole x ≡ false → call_bytes ≤ length x → last_text (drop (told k m (x ++ b)).used (x ++ b)) ≡ left_text k m b
unfolding told left_text
left_of zero m x b w h = long_last (x ++ b) (omega (arith, length-append x b))
left_of (suc k) m x b w h = go (is_whole b) refl
  where
    skipped : Stepped
    skipped = record { answer = refused malformed_number; memory = m }

    rest : Told
    rest = told k m (behind_line b)

    one : is_whole b ≡ true → told (suc k) m (x ++ b) ≡ before skipped (line_length (x ++ b)) rest
    one e =
        let s : line_step m (first_line (x ++ b)) ≡ skipped = long_malformed m (first_line (x ++ b)) (omega (arith, h, first_later x b w)) in
        first_told k m (x ++ b) (whole_later x b w ∙ e)
        ∙ ap (λ (z : Stepped). before z (line_length (x ++ b)) (told k z.memory (behind_line (x ++ b)))) s
        ∙ ap (λ (z : List ℕ). before skipped (line_length (x ++ b)) (told k m z)) (behind_later x b w)

    go : (t : Bool) → is_whole b ≡ t → last_text (drop (told (suc k) m (x ++ b)).used (x ++ b)) ≡ pick t (last_text (drop rest.used (behind_line b))) malformed
    go true e =
        ap (λ (r : Told). last_text (drop r.used (x ++ b))) (one e)
        ∙ ap last_text (sym (drop-drop rest.used (suc (line_length (x ++ b))) (x ++ b)))
        ∙ ap (λ (z : List ℕ). last_text (drop rest.used z)) (behind_later x b w)
    go false e =
        let n : told (suc k) m (x ++ b) ≡ none_told m = rw (whole_later x b w ∙ e) in
        ap (λ (r : Told). last_text (drop r.used (x ++ b))) n ∙ long_last (x ++ b) (omega (arith, length-append x b))

none_told_lem : (n : ℕ) (m : Memory) (t : List ℕ) → is_whole t ≡ false → told n m t ≡ none_told m
unfolding told
none_told_lem zero m t w = refl
none_told_lem (suc n) m t w = rw w

-- ---- thirty-nine bytes are as good as all

abbrev day_of : List ℕ → Told → Printed
day_of t r = record { text = r.text ++ last_text (drop r.used t); memory = r.memory }

same-printed : (a a' b b' : List ℕ) (m m' : Memory) → a ≡ a' → b ≡ b' → m ≡ m' → ◌≡◌ {A = Printed} (record { text = a ++ b; memory = m }) (record { text = a' ++ b'; memory = m' })
same-printed a a' b b' m m' e f g = rw (e, f, g) refl

day_cut : (m : Memory) (t c : List ℕ) → is_whole t ≡ false → day m (take call_bytes t ++ c) ≡ day m (t ++ c)
day_cut m t c w = go (leb call_bytes (length t)) refl
  where
    go : (b : Bool) → leb call_bytes (length t) ≡ b → day m (take call_bytes t ++ c) ≡ day m (t ++ c)
    go true e =
        let h : call_bytes ≤ length t = leb-true call_bytes (length t) e in
        let l : length (take call_bytes t) ≡ call_bytes = length-take-le call_bytes t h in
        let n : ℕ = length (t ++ c) in
        let s = cut_alike n m t c w h in
        let f : told n m (take call_bytes t ++ c) ≡ told_all m (take call_bytes t ++ c) = told_enough n m (take call_bytes t ++ c) (omega (arith, length-append (take call_bytes t) c, length-append t c)) in
        let p : last_text (drop (told n m (take call_bytes t ++ c)).used (take call_bytes t ++ c)) ≡ last_text (drop (told n m (t ++ c)).used (t ++ c)) =
        left_of n m (take call_bytes t) c (open_take call_bytes t h w) (omega (arith, l)) ∙ sym (left_of n m t c w h) in
        ap (day_of (take call_bytes t ++ c)) (sym f)
        ∙ same-printed (told n m (take call_bytes t ++ c)).text (told n m (t ++ c)).text (last_text (drop (told n m (take call_bytes t ++ c)).used (take call_bytes t ++ c))) (last_text (drop (told n m (t ++ c)).used (t ++ c))) (told n m (take call_bytes t ++ c)).memory (told n m (t ++ c)).memory (sym s.text) p (sym s.memory)
    go false e = let h : length t ≤ call_bytes = omega (arith, leb-false call_bytes (length t) e) in ap (λ (z : List ℕ). day m (z ++ c)) (take_all call_bytes t h)

-- ---- some lines of a text, those left of it, and what comes behind it

module _ (n : ℕ) (m : Memory) (x c : List ℕ) where
  first : Told
  first = told n m x

  left : List ℕ
  left = drop first.used x

  next : Told
  next = told_all first.memory (left ++ c)

  dropped : drop first.used (x ++ c) ≡ left ++ c
  unfolding first left
  dropped = drop-append-le first.used x c (told_used n m x)

  still : drop (first.used + next.used) (x ++ c) ≡ drop next.used (left ++ c)
  still = sym (drop-drop next.used first.used (x ++ c)) ∙ ap (drop next.used) dropped

  both_told : told_all m (x ++ c) ≡ joined first next
  unfolding first left next
  both_told =
      let k : ℕ = first.lines + length (left ++ c) in
      let p : told k m (x ++ c) ≡ joined first next = told_pieces n m x c (length (left ++ c)) in
      let w : is_whole (drop (told k m (x ++ c)).used (x ++ c)) ≡ false =
      ap (λ (r : Told). is_whole (drop r.used (x ++ c))) p ∙ ap is_whole still ∙ none_left (length (left ++ c)) first.memory (left ++ c) (omega arith) in
      let h : k ≤ length (x ++ c) = omega (arith, lines_used n m x, told_used n m x, length-drop first.used x, length-append left c, length-append x c) in
      told_all_lem k m (x ++ c) h w ∙ p

  day-joined : day m (x ++ c) ≡ after first (day first.memory (left ++ c))
  unfolding first left next
  day-joined =
      ap (day_of (x ++ c)) both_told
      ∙ same-printed (first.text ++ next.text) (first.text ++ next.text) (last_text (drop (first.used + next.used) (x ++ c))) (last_text (drop next.used (left ++ c))) next.memory next.memory refl (ap last_text still) refl
      ∙ ap (λ (z : List ℕ). record { text = z; memory = next.memory }) (append_assoc first.text next.text (last_text (drop next.used (left ++ c))))

-- ---- all pieces

kept_open : (t : List ℕ) → is_whole t ≡ false → is_whole (take call_bytes t) ≡ false
kept_open t w = go (leb call_bytes (length t)) refl
  where
    go : (b : Bool) → leb call_bytes (length t) ≡ b → is_whole (take call_bytes t) ≡ false
    go true e = open_take call_bytes t (leb-true call_bytes (length t) e) w
    go false e = let h : length t ≤ call_bytes = omega (arith, leb-false call_bytes (length t) e) in ap is_whole (take_all call_bytes t h) ∙ w

pieces_behind : (ps : List (List ℕ)) (m : Memory) (kept : List ℕ) → is_whole kept ≡ false → in_pieces m kept ps ≡ day m (kept ++ joined_up ps)
unfolding in_pieces joined_up first left
pieces_behind [] m kept w = sym (ap (day m) (append-nil kept) ∙ ap (day_of kept) (none_told_lem (length kept) m kept w))
pieces_behind (p ∷ ps) m kept w =
    let r : Told = told_all m (kept ++ p) in
    let rest : List ℕ = behind_last m (kept ++ p) in
    let v : is_whole rest ≡ false = none_left (length (kept ++ p)) m (kept ++ p) (omega arith) in
    ap (after r) (pieces_behind ps r.memory (take call_bytes rest) (kept_open rest v) ∙ day_cut r.memory rest (joined_up ps) v)
    ∙ sym (day-joined (length (kept ++ p)) m (kept ++ p) (joined_up ps))
    ∙ ap (day m) (append_assoc kept p (joined_up ps))

-- THE LAW: an input read in any pieces is answered as the whole
pub pieces : (ps : List (List ℕ)) (m : Memory) → in_pieces m [] ps ≡ day m (joined_up ps)
unfolding line_length
pieces ps m = pieces_behind ps m [] refl

-- and so is all that is printed, whatever the listing
pub printed_pieces : (listing : Memory → List ℕ) (ps : List (List ℕ)) (m : Memory) → (in_pieces m [] ps).text ++ listing (in_pieces m [] ps).memory ≡ day_text listing m (joined_up ps)
printed_pieces listing ps m = ap (λ (p : Printed). p.text ++ listing p.memory) (pieces ps m)

-- where no byte is used there is no line
unmoved : (n : ℕ) (m : Memory) (t : List ℕ) → 1 ≤ n → (told n m t).used ≤ 0 → is_whole t ≡ false
unfolding told
unmoved zero m t h l = absurd (omega arith)
unmoved (suc n) m t h l = go (is_whole t) refl l
  where
    rest : Told
    rest = told n (line_step m (first_line t)).memory (behind_line t)

    go : (b : Bool) → is_whole t ≡ b → (pick b (before (line_step m (first_line t)) (line_length t) rest) (none_told m)).used ≤ 0 → is_whole t ≡ false
    go true w q = absurd (omega (arith, q))
    go false w q = w

-- ---- the lines of one piece, some at a time

-- of all lines of a text those before a place are told, and m is the memory after them
pub record Begun (t : List ℕ) (start : Memory) (from : ℕ) (m : Memory) : Type 0 where
  pub used : (told_all start t).used ≡ from + (told_all m (drop from t)).used
  pub memory : (told_all start t).memory ≡ (told_all m (drop from t)).memory

-- all lines of a text are told
pub record Done (t : List ℕ) (start : Memory) (took : ℕ) (m : Memory) : Type 0 where
  pub used : took ≡ (told_all start t).used
  pub memory : m ≡ (told_all start t).memory

pub begin : (t : List ℕ) (m : Memory) → Begun t m 0 m
begin t m = record { used = sym (zero-add (told_all m t).used); memory = refl }

module _ (t : List ℕ) (start : Memory) (from : ℕ) (m : Memory) (b : Begun t start from m) where
  -- n lines more
  pub begun_more : (n used : ℕ) (m' : Memory) → used ≡ (told n m (drop from t)).used → m' ≡ (told n m (drop from t)).memory → Begun t start (from + used) m'
  unfolding first left next
  begun_more n used m' eu em =
      let x : List ℕ = drop from t in
      let r : Told = told n m x in
      let e : drop r.used x ++ [] ≡ drop (from + r.used) t = append-nil (drop r.used x) ∙ drop-drop r.used from t in
      let o : Told = told_all r.memory (drop (from + r.used) t) in
      let p : told_all m x ≡ joined r o =
      ap (told_all m) (sym (append-nil x)) ∙ both_told n m x [] ∙ ap (λ (z : List ℕ). joined r (told_all r.memory z)) e in
      let u : (told_all start t).used ≡ from + r.used + o.used = b.used ∙ ap (λ (z : Told). from + z.used) p ∙ sym (add_assoc from r.used o.used) in
      let v : (told_all start t).memory ≡ o.memory = b.memory ∙ ap (λ (z : Told). z.memory) p in
      record { used = rw (eu, em) u; memory = rw (eu, em) v }

  done_none : told_all m (drop from t) ≡ none_told m → Done t start from m
  done_none e =
      let z : from + 0 ≡ from = omega arith in
      record { used = sym (b.used ∙ ap (λ (r : Told). from + r.used) e ∙ z); memory = sym (b.memory ∙ ap (λ (r : Told). r.memory) e) }

  -- none is left where none was told
  pub begun-stops : (n used : ℕ) (m' : Memory) → 1 ≤ n → used ≡ (told n m (drop from t)).used → m' ≡ (told n m (drop from t)).memory → used < 1 → Done t start from m'
  begun-stops n used m' h eu em l =
      let w : is_whole (drop from t) ≡ false = unmoved n m (drop from t) h (omega (arith, eu, l)) in
      let e : m' ≡ m = em ∙ ap (λ (r : Told). r.memory) (none_told_lem n m (drop from t) w) in
      rw e (done_none (none_told_lem (length (drop from t)) m (drop from t) w))

  -- none is left at the end
  pub begun_ends : length t ≤ from → Done t start from m
  unfolding line_length
  begun_ends h =
      let e : drop from t ≡ [] = drop_of_length-le t h in
      done_none (ap (told_all m) e ∙ none_told_lem 0 m [] refl)

-- ten bytes of room are room for an answer
pub room_for_one : (n : ℕ) → 10 ≤ n → 1 ≤ n / 10
room_for_one n h = (le-div_iff_mul-le {k = 10} {x = 1} {y = n} (omega arith)).1 (omega arith)

-- the lines told from a place on stand in the text
pub told_inside : (n : ℕ) (m : Memory) (t : List ℕ) (from : ℕ) → from ≤ length t → from + (told n m (drop from t)).used ≤ length t
told_inside n m t from h = omega (arith, told_used n m (drop from t), length-drop from t)

-- what is cut out from a place to the end is all that stands behind it
pub cut_all : (t : List ℕ) (from : ℕ) → take (length t - from) (drop from t) ≡ drop from t
cut_all t from = take_all (length t - from) (drop from t) (omega (arith, length-drop from t))

-- the bytes that are left over at the input's end are answered as the whole input's rule says, where the buffer has room for an answer
pub rest_is_last : (rest out : List ℕ) → 10 ≤ length out → rest_text (length rest) out ≡ last_text rest
unfolding rest_text
rest_is_last rest out h = rw (le-leb 10 (length out) h) (go (leb 1 (length rest)))
  where
    go : (b : Bool) → pick (b && true) (printed (refused malformed_number)) [] ≡ pick b (printed (refused malformed_number)) []
    go true = refl
    go false = refl
