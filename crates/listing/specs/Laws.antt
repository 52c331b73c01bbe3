-- The laws of a listing, over lists of rows. `listing_read`: reading what was written gives exactly the rows. `listing_only`: a text is accepted
-- only if it is the text written for the rows read, which keep the rules. `hands_out`, `ends`: the rows are handed out in order, then the end.
-- Assumes nothing.
use Rattle.std.specs.Prelude.{ℕ, zero, suc, ◌+◌, ◌*◌, ◌-◌, ◌/◌, ◌%◌, ◌≤◌, ◌<◌, ◌≡◌, refl, Bool, true, false, ◌&&◌, List, [], ◌∷◌, ◌++◌, eqb, leb, get_or, length, take, drop}
use Rattle.std.proofs.Common.{ap, sym, ◌∙◌, mod-lt, arith, eqb-true, le-leb, leb-true, leb-false, length-append, length-drop, take-append-drop, take_at, drop_at, drop-drop}
use Rattle.std.proofs.Math.Nat.{mul-div_cancel_left, mul-mod_right, div-add-mod}
use Rattle.std.proofs.lemmas.Bool.{lt-leb}
use Rattle.rules.specs.Tests.{both}
use Rattle.rules.specs.Limits.{most_groups}
use Rattle.rows.specs.Row.{row_kept}
use Rattle.rows.specs.declared.Row.{Row}
use Rattle.listing.specs.Text.{row_text, row_in, row_good, listing_text, fresh, rows_kept, listing_kept, rows_from, rows_good, is_listing, rows_in, step_at, step_in, step_of, next_at, number_of, row_bytes}
use Rattle.listing.specs.RowLaws.{length-row, row_back, row-good, good_text, good_kept}
use Rattle.listing.specs.declared.texts.Step.TheVariants.{Next, Broken, End}

pub length_listing : (rs : List Row) → length (listing_text rs) ≡ row_bytes * length rs
unfolding listing_text
length_listing [] = refl
length_listing (r ∷ rs) = rw (length-append (row_text r) (listing_text rs), length-row r, length_listing rs) (omega arith)

-- what the rules of a list say of its first row and of the others
pub record FirstKept (r : Row) (rs : List Row) : Type 0 where
  pub kept : row_kept r ≡ true
  pub alone : fresh r rs ≡ true
  pub others : rows_kept rs ≡ true

first-kept : (r : Row) (rs : List Row) → rows_kept (r ∷ rs) ≡ true → FirstKept r rs
unfolding rows_kept
first-kept r rs h =
    let a = both (row_kept r) (fresh r rs && rows_kept rs) h in
    let b = both (fresh r rs) (rows_kept rs) a.1 in
    record { kept = a.0; alone = b.0; others = b.1 }

pub record FirstGood (n : ℕ) (t : List ℕ) : Type 0 where
  pub good : row_good (take row_bytes t) ≡ true
  pub alone : fresh (row_in (take row_bytes t)) (rows_from n (drop row_bytes t)) ≡ true
  pub others : rows_good n (drop row_bytes t) ≡ true

first_good : (n : ℕ) (t : List ℕ) → rows_good (suc n) t ≡ true → FirstGood n t
unfolding rows_good
first_good n t h =
    let a = both (row_good (take row_bytes t)) (fresh (row_in (take row_bytes t)) (rows_from n (drop row_bytes t)) && rows_good n (drop row_bytes t)) h in
    let b = both (fresh (row_in (take row_bytes t)) (rows_from n (drop row_bytes t))) (rows_good n (drop row_bytes t)) a.1 in
    record { good = a.0; alone = b.0; others = b.1 }

-- ---- reading what was written

module _ (r : Row) (rs : List Row) where
  first_line_lem : take row_bytes (row_text r ++ listing_text rs) ≡ row_text r
  first_line_lem = take_at (row_text r) (listing_text rs) row_bytes (length-row r)

  other_lines : drop row_bytes (row_text r ++ listing_text rs) ≡ listing_text rs
  other_lines = drop_at (row_text r) (listing_text rs) row_bytes (length-row r)

rows_back : (rs : List Row) → rows_kept rs ≡ true → rows_from (length rs) (listing_text rs) ≡ rs
unfolding listing_text rows_from
rows_back [] h = refl
rows_back (r ∷ rs) h =
    let k : FirstKept r rs = first-kept r rs h in
    rw (first_line_lem r rs, other_lines r rs, row_back r k.kept, rows_back rs k.others)

rows_good_lem : (rs : List Row) → rows_kept rs ≡ true → rows_good (length rs) (listing_text rs) ≡ true
unfolding listing_text rows_good
rows_good_lem [] h = refl
rows_good_lem (r ∷ rs) h =
    let k : FirstKept r rs = first-kept r rs h in
    rw (first_line_lem r rs, other_lines r rs, row-good r k.kept, row_back r k.kept, rows_back rs k.others, k.alone) (rows_good_lem rs k.others)

count : (rs : List Row) → length (listing_text rs) / row_bytes ≡ length rs
count rs = rw (length_listing rs) (mul-div_cancel_left (length rs) {n = row_bytes} (omega arith))

pub listing_read : (rs : List Row) → listing_kept rs ≡ true → (is_listing (listing_text rs) ≡ true) × (rows_in (listing_text rs) ≡ rs)
unfolding is_listing rows_in listing_kept
listing_read rs h =
    let b = both (leb (length rs) most_groups) (rows_kept rs) h in
    (rw (count rs, length_listing rs, mul-mod_right row_bytes (length rs), b.0) (rows_good_lem rs b.1), rw (count rs) (rows_back rs b.1))

-- ---- no other text is accepted

pub length-rows : (n : ℕ) (t : List ℕ) → length (rows_from n t) ≡ n
unfolding rows_from
length-rows zero t = refl
length-rows (suc n) t = ap suc (length-rows n (drop row_bytes t))

only : (n : ℕ) (t : List ℕ) → length t ≡ row_bytes * n → rows_good n t ≡ true → (t ≡ listing_text (rows_from n t)) × (rows_kept (rows_from n t) ≡ true)
unfolding listing_text rows_kept rows_from
only zero [] l h = (refl, refl)
only zero (x ∷ t) l h = absurd (omega arith)
only (suc n) t l h =
    let g : FirstGood n t = first_good n t h in
    let rec = only n (drop row_bytes t) (rw (length-drop row_bytes t) (omega arith)) g.others in (
      sym (take-append-drop row_bytes t) ∙ ap (λ (x : List ℕ). x ++ drop row_bytes t) (good_text (take row_bytes t) g.good) ∙ ap (λ (x : List ℕ). row_text (row_in (take row_bytes t)) ++ x) rec.0,
      rw (good_kept (take row_bytes t) g.good, g.alone) rec.1,
    )

-- what is known of an accepted text
pub record Accepted (t : List ℕ) : Type 0 where
  pub whole : length t ≡ row_bytes * (length t / row_bytes)
  pub few : leb (length t / row_bytes) most_groups ≡ true
  pub good : rows_good (length t / row_bytes) t ≡ true

accepted : (t : List ℕ) → is_listing t ≡ true → Accepted t
unfolding is_listing
accepted t h =
    let a = both (eqb (length t % row_bytes) 0) (leb (length t / row_bytes) most_groups && rows_good (length t / row_bytes) t) h in
    let b = both (leb (length t / row_bytes) most_groups) (rows_good (length t / row_bytes) t) a.1 in
    let e : length t % row_bytes ≡ 0 = eqb-true (length t % row_bytes) 0 a.0 in
    record { whole = omega (arith, div-add-mod (length t) row_bytes); few = b.0; good = b.1 }

pub listing_only : (t : List ℕ) → is_listing t ≡ true → (t ≡ listing_text (rows_in t)) × (listing_kept (rows_in t) ≡ true)
unfolding rows_in listing_kept
listing_only t h =
    let a : Accepted t = accepted t h in
    let o = only (length t / row_bytes) t a.whole a.good in
    (o.0, rw (length-rows (length t / row_bytes) t, a.few) o.1)

-- ---- the rows handed out one after the other

-- what stands at a place is what stands there in the rest of the text
shift : (t : List ℕ) (at : ℕ) → row_bytes ≤ length t → step_at t (row_bytes + at) ≡ step_at (drop row_bytes t) at
unfolding step_at
shift t at h = go (leb (row_bytes + at + row_bytes) (length t)) refl
  where
    p : drop at (drop row_bytes t) ≡ drop (row_bytes + at) t
    p = drop-drop at row_bytes t

    ld : length (drop row_bytes t) ≡ length t - row_bytes
    ld = length-drop row_bytes t

    go : (b : Bool) → leb (row_bytes + at + row_bytes) (length t) ≡ b → step_at t (row_bytes + at) ≡ step_at (drop row_bytes t) at
    go true e =
        let f : row_bytes + at + row_bytes ≤ length t = leb-true (row_bytes + at + row_bytes) (length t) e in
        rw (e, p, le-leb (at + row_bytes) (length (drop row_bytes t)) (omega (arith, ld)))
    go false e =
        let f : length t < row_bytes + at + row_bytes = leb-false (row_bytes + at + row_bytes) (length t) e in
        rw (e, lt-leb (at + row_bytes) (length (drop row_bytes t)) (omega (arith, ld)))

rows_at : (n : ℕ) (t : List ℕ) (i : ℕ) (d : Row) → i < n → rows_good n t ≡ true → length t ≡ row_bytes * n → step_at t (row_bytes * i) ≡ Next (get_or (rows_from n t) i d)
unfolding rows_from step_at
rows_at zero t i d h g l = absurd (omega arith)
rows_at (suc n) t zero d h g l = rw (le-leb row_bytes (length t) (omega arith), (first_good n t g).good)
rows_at (suc n) t (suc i) d h g l =
    let e : row_bytes * suc i ≡ row_bytes + row_bytes * i = omega arith in
    let s : step_at t (row_bytes + row_bytes * i) ≡ step_at (drop row_bytes t) (row_bytes * i) = shift t (row_bytes * i) (omega arith) in
    ap (step_at t) e ∙ s ∙ rows_at n (drop row_bytes t) i d (omega arith) (first_good n t g).others (rw (length-drop row_bytes t) (omega arith))

-- a checked text hands out its rows in order
pub hands_out : (t : List ℕ) (i : ℕ) (d : Row) → is_listing t ≡ true → i < length (rows_in t) → step_at t (row_bytes * i) ≡ Next (get_or (rows_in t) i d)
unfolding rows_in
hands_out t i d h l =
    let a : Accepted t = accepted t h in
    rows_at (length t / row_bytes) t i d (omega (arith, length-rows (length t / row_bytes) t)) a.good a.whole

-- and then ends
pub ends : (t : List ℕ) (i : ℕ) → length (rows_in t) ≤ i → step_at t (row_bytes * i) ≡ End
unfolding step_at rows_in
ends t i h =
    rw (lt-leb (row_bytes * i + row_bytes) (length t) (omega (arith, length-rows (length t / row_bytes) t, div-add-mod (length t) row_bytes, mod-lt (length t) {m = row_bytes} (omega arith))))

-- a listing that was written is handed out row by row
pub written_handed_out : (rs : List Row) (i : ℕ) (d : Row) → listing_kept rs ≡ true → i < length rs → step_at (listing_text rs) (row_bytes * i) ≡ Next (get_or rs i d)
written_handed_out rs i d h l =
    let b = listing_read rs h in
    hands_out (listing_text rs) i d b.0 (rw b.1 l) ∙ ap (λ (xs : List Row). Next (get_or xs i d)) b.1

-- by a reader, which checks the whole text first: a listing's rows in order, then the end
pub hands_out_checked : (t : List ℕ) (i : ℕ) (d : Row) → is_listing t ≡ true → i < length (rows_in t) → step_of t (row_bytes * i) ≡ Next (get_or (rows_in t) i d)
unfolding step_in
hands_out_checked t i d h l = rw h (hands_out t i d h l)

pub ends_checked : (t : List ℕ) (i : ℕ) → is_listing t ≡ true → length (rows_in t) ≤ i → step_of t (row_bytes * i) ≡ End
unfolding step_in
ends_checked t i h l = rw h (ends t i l)

-- and of any other text nothing, at any place, but the number 21
pub hands_nothing : (t : List ℕ) (at : ℕ) → is_listing t ≡ false → step_of t at ≡ Broken
unfolding step_in
hands_nothing t at h = rw h

pub nothing_is_21 : (t : List ℕ) (at : ℕ) → is_listing t ≡ false → number_of (step_of t at) ≡ 21
nothing_is_21 t at h = rw (hands_nothing t at h)

-- a reader that is at one of a listing's rows moves on to the next place: from 0 it is at 0, 108, 216, ..
pub moves_on : (t : List ℕ) (i : ℕ) → is_listing t ≡ true → i < length (rows_in t) → next_at t (row_bytes * i) ≡ row_bytes * i + row_bytes
unfolding next_at rows_in
moves_on t i h l =
    let a : Accepted t = accepted t h in
    rw (le-leb (row_bytes * i + row_bytes) (length t) (omega (arith, a.whole, length-rows (length t / row_bytes) t, l)))
