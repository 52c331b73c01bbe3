-- The gate's rows: read one after the other, and written. Assumes nothing.
use Prim.Native.Nat.{ℕ, zero, suc, ◌+◌, ◌-◌, ◌*◌, ◌≤◌, ◌<◌}
use mathlib.Core.Path.{◌≡◌, refl, sym, ap, ◌∙◌}
use mathlib.Core.Bool.{Bool, true, false, not, ◌&&◌}
use mathlib.Core.List.{List, [], ◌∷◌, ◌++◌, append_assoc, append-nil}
use native.Mathlib.Nat.{zero-add}
use native.Mathlib.Numerals.{add-one}
use native.Mathlib.Omega.{arith}
use borrow.Author.Tests.{le-leb}
use lib.Dec.{leb, ltb}
use lib.ListN.{length}
use lib.Seq.{paste, length-paste}
use Rattle.rules.specs.Tests.{pick, both}
use Rattle.rules.specs.Refusals.{unsound_number, short_buffer_number, refusal}
use Rattle.columns.specs.Pastes.{chain_on}
use Rattle.quota.specs.Asks.{is_sound, groups_enrolled}
use Rattle.quota.specs.Promises.{groups_most}
use Rattle.orders.specs.Host.{host_ok}
use Rattle.std.specs.Prelude.{map, min}
use Rattle.std.specs.List.{list_all}
use Rattle.std.proofs.lemmas.List.{map-append}
use Rattle.listing.specs.Keys.{keys_differ, key_number, among}
use Rattle.rows.specs.Row.{no_row, row_obeys, row_kept, row_at, row-at_kept}
use Rattle.rows.specs.declared.Row.{Row}
use Rattle.listing.proofs.Keyed.{kept_by_keys, code_held, class_held, kept_by_number, key_held, crossed, new_behind, differ_new}
use Rattle.listing.specs.Text.{row_text, row_put, listing_text, key_of, fresh, rows_kept, listing_kept, row_bytes}
use Rattle.listing.specs.Laws.{length_listing}
use Rattle.gate_listing.specs.Listed.{rows_on, gate_rows, list_refusal}
use Rattle.claim.specs.Step.{memory}

module _ (rs bs : List ℕ) where
  -- one row more at the end
  rows_last : (i n : ℕ) → rows_on rs bs i (suc n) ≡ rows_on rs bs i n ++ ((row_at rs bs (i + n)).row ∷ [])
  unfolding rows_on
  rows_last i zero =
      let e : i ≡ i + 0 = omega arith in
      ap (λ (k : ℕ). (row_at rs bs k).row ∷ []) e
  rows_last i (suc n) =
      let e : suc i + n ≡ i + suc n = omega arith in
      ap (λ (l : List Row). (row_at rs bs i).row ∷ l) (rows_last (suc i) n ∙ ap (λ (k : ℕ). rows_on rs bs (suc i) n ++ ((row_at rs bs k).row ∷ [])) e)

  pub length-rows : (i n : ℕ) → length (rows_on rs bs i n) ≡ n
  unfolding rows_on
  length-rows i zero = refl
  length-rows i (suc n) = ap suc (length-rows (suc i) n)

  -- ---- rows read one after the other

  rows_first : (i n : ℕ) → i < n → rows_on rs bs i (n - i) ≡ (row_at rs bs i).row ∷ rows_on rs bs (i + 1) (n - (i + 1))
  unfolding rows_on
  rows_first i n h =
      let e : n - i ≡ suc (n - (i + 1)) = omega arith in
      let s : suc i ≡ i + 1 = omega arith in
      ap (rows_on rs bs i) e ∙ ap (λ (k : ℕ). (row_at rs bs i).row ∷ rows_on rs bs k (n - (i + 1))) s

  pub none_on : rows_on rs bs 0 0 ≡ []
  unfolding rows_on
  none_on = refl

  made_more : {A : Type 0} (f : Row → A) (i : ℕ) → map f (rows_on rs bs 0 (i + 1)) ≡ map f (rows_on rs bs 0 i) ++ (f (row_at rs bs i).row ∷ [])
  made_more f i =
      ap (λ (k : ℕ). map f (rows_on rs bs 0 k)) (add-one i)
      ∙ ap (map f) (rows_last 0 i ∙ ap (λ (k : ℕ). rows_on rs bs 0 i ++ ((row_at rs bs k).row ∷ [])) (zero-add i))
      ∙ map-append f (rows_on rs bs 0 i) ((row_at rs bs i).row ∷ [])

  pub keys_more : (i : ℕ) → map key_of (rows_on rs bs 0 (i + 1)) ≡ map key_of (rows_on rs bs 0 i) ++ (key_of (row_at rs bs i).row ∷ [])
  keys_more = made_more key_of

  pub numbers_more : (i : ℕ) → map key_number (rows_on rs bs 0 (i + 1)) ≡ map key_number (rows_on rs bs 0 i) ++ (key_number (row_at rs bs i).row ∷ [])
  numbers_more = made_more key_number

  -- whether those from i on keep the rules, each alone
  unfoldable pub rest_kept : ℕ → ℕ → Bool
  rest_kept i n = list_all row_kept (rows_on rs bs i (n - i))

  pub rest_more : (i n : ℕ) → i < n → rest_kept i n ≡ (row_kept (row_at rs bs i).row && rest_kept (i + 1) n)
  unfolding rest_kept
  rest_more i n h = ap (list_all row_kept) (rows_first i n h)

  pub rest_goes : (i n : ℕ) → i < n → row_kept (row_at rs bs i).row ≡ true → rest_kept i n ≡ rest_kept (i + 1) n
  rest_goes i n h k = rest_more i n h ∙ ap (λ (b : Bool). b && rest_kept (i + 1) n) k

  pub rest_none : (n : ℕ) → rest_kept n n ≡ true
  unfolding rest_kept rows_on
  rest_none n =
      let e : n - n ≡ 0 = omega arith in
      ap (λ (k : ℕ). list_all row_kept (rows_on rs bs n k)) e

  pub rest_all : (n : ℕ) → rows_kept (rows_on rs bs 0 n) ≡ (rest_kept 0 n && keys_differ (map key_of (rows_on rs bs 0 n)))
  unfolding rest_kept
  rest_all n =
      let e : n ≡ n - 0 = omega arith in
      kept_by_keys (rows_on rs bs 0 n) ∙ ap (λ (k : ℕ). list_all row_kept (rows_on rs bs 0 k) && keys_differ (map key_of (rows_on rs bs 0 n))) e

  -- whether those from i on keep the rules, and none of them has the key of an earlier one
  unfoldable pub rest_new : ℕ → ℕ → Bool
  rest_new i n = list_all row_kept (rows_on rs bs i (n - i)) && new_behind (map key_number (rows_on rs bs 0 i)) (map key_number (rows_on rs bs i (n - i)))

  pub rest_new_more : (i n : ℕ) → i < n
      → rest_new i n ≡ ((row_kept (row_at rs bs i).row && not (among (key_number (row_at rs bs i).row) (map key_number (rows_on rs bs 0 i)))) && rest_new (i + 1) n)
  unfolding rest_new new_behind
  rest_new_more i n h =
      let r : Row = (row_at rs bs i).row in
      let later : List Row = rows_on rs bs (i + 1) (n - (i + 1)) in
      let seen : List ℕ = map key_number (rows_on rs bs 0 i) in
      rw (rows_first i n h, numbers_more i) (crossed (row_kept r) (list_all row_kept later) (not (among (key_number r) seen)) (new_behind (seen ++ (key_number r ∷ [])) (map key_number later)))

  pub rest_new_none : (i n : ℕ) → n ≤ i → rest_new i n ≡ true
  unfolding rest_new new_behind rows_on
  rest_new_none i n h =
      let e : n - i ≡ 0 = omega arith in
      rw e refl

  pub rest_new_all : (n : ℕ) → rows_kept (rows_on rs bs 0 n) ≡ rest_new 0 n
  unfolding rest_new rows_on
  rest_new_all n =
      let e : n ≡ n - 0 = omega arith in
      kept_by_number (rows_on rs bs 0 n)
      ∙ ap (λ (b : Bool). list_all row_kept (rows_on rs bs 0 n) && b) (differ_new (map key_number (rows_on rs bs 0 n)))
      ∙ ap (λ (k : ℕ). list_all row_kept (rows_on rs bs 0 k) && new_behind [] (map key_number (rows_on rs bs 0 k))) e

  -- a row read keeps the rules
  pub kept_where : (i : ℕ) → (row_at rs bs i).refusal ≡ 0 → row_kept (row_at rs bs i).row ≡ true
  kept_where = row-at_kept rs bs

  -- the numbers of its key are held as they are
  module _ (i : ℕ) (h : (row_at rs bs i).refusal ≡ 0) where
    pub code_at : min (row_at rs bs i).row.code 4_294_967_295 ≡ (row_at rs bs i).row.code
    code_at = code_held (row_at rs bs i).row (row-at_kept rs bs i h)

    pub class_at : min (row_at rs bs i).row.class 4_294_967_295 ≡ (row_at rs bs i).row.class
    class_at = class_held (row_at rs bs i).row (row-at_kept rs bs i h)

  -- and so is its key as one number
  pub key_at : (i : ℕ) → (row_at rs bs i).refusal ≡ 0 → min (key_number (row_at rs bs i).row) 4_294_967_295 ≡ key_number (row_at rs bs i).row
  key_at i h = key_held (row_at rs bs i).row (row-at_kept rs bs i h)

  pub kept_first : (i n : ℕ) → i < n → rows_kept (rows_on rs bs i (n - i)) ≡ (row_kept (row_at rs bs i).row && (fresh (row_at rs bs i).row (rows_on rs bs (i + 1) (n - (i + 1))) && rows_kept (rows_on rs bs (i + 1) (n - (i + 1)))))
  unfolding rows_kept
  kept_first i n h = ap rows_kept (rows_first i n h)

  -- ---- written one behind the other

  listing_append : (a b : List Row) → listing_text (a ++ b) ≡ listing_text a ++ listing_text b
  unfolding listing_text
  listing_append [] b = refl
  listing_append (r ∷ a) b = ap (λ (t : List ℕ). row_text r ++ t) (listing_append a b) ∙ sym (append_assoc (row_text r) (listing_text a) (listing_text b))

  text_last : (i : ℕ) → listing_text (rows_on rs bs 0 (i + 1)) ≡ listing_text (rows_on rs bs 0 i) ++ row_text (row_at rs bs i).row
  unfolding listing_text
  text_last i =
      let one : listing_text ((row_at rs bs i).row ∷ []) ≡ row_text (row_at rs bs i).row = append-nil (row_text (row_at rs bs i).row) in
      ap (λ (k : ℕ). listing_text (rows_on rs bs 0 k)) (add-one i)
      ∙ ap listing_text (rows_last 0 i ∙ ap (λ (k : ℕ). rows_on rs bs 0 i ++ ((row_at rs bs k).row ∷ [])) (zero-add i))
      ∙ listing_append (rows_on rs bs 0 i) ((row_at rs bs i).row ∷ [])
      ∙ ap (λ (t : List ℕ). listing_text (rows_on rs bs 0 i) ++ t) one

  pub put_step : (d : List ℕ) (i : ℕ) → row_kept (row_at rs bs i).row ≡ true → row_bytes * i + row_bytes ≤ length d
      → row_put (paste d 0 (listing_text (rows_on rs bs 0 i)) (row_bytes * i)) (row_bytes * i) (row_at rs bs i).row ≡ paste d 0 (listing_text (rows_on rs bs 0 (i + 1))) (row_bytes * (i + 1))
  unfolding row_put
  put_step d i k h =
      let b : List ℕ = paste d 0 (listing_text (rows_on rs bs 0 i)) (row_bytes * i) in
      let lt : length (listing_text (rows_on rs bs 0 i)) ≡ row_bytes * i = length_listing (rows_on rs bs 0 i) ∙ ap (λ (x : ℕ). row_bytes * x) (length-rows 0 i) in
      let lb : length b ≡ length d = length-paste d 0 (listing_text (rows_on rs bs 0 i)) (row_bytes * i) (omega arith) (omega arith) in
      let at : leb (row_bytes * i + row_bytes) (length b) ≡ true = le-leb (row_bytes * i + row_bytes) (length b) (omega arith) in
      let s : row_bytes * i + row_bytes ≡ row_bytes * (i + 1) = omega arith in
      let p : row_put b (row_bytes * i) (row_at rs bs i).row ≡ paste b (row_bytes * i) (row_text (row_at rs bs i).row) row_bytes = rw (k, at) refl in
      p ∙ chain_on d (listing_text (rows_on rs bs 0 i)) (row_text (row_at rs bs i).row) (row_bytes * i) row_bytes (omega arith) lt
      ∙ ap (λ (x : ℕ). paste d 0 (listing_text (rows_on rs bs 0 i) ++ row_text (row_at rs bs i).row) x) s
      ∙ ap (λ (x : List ℕ). paste d 0 x (row_bytes * (i + 1))) (sym (text_last i))

-- ---- the refusal

module _ (rs bs ps : List ℕ) (room : ℕ) where
  module _ (e : host_ok rs bs ps ≡ true) where
    pub enrolled_most : groups_enrolled rs ≤ 64
    unfolding host_ok
    enrolled_most = groups_most rs (both (is_sound rs) _ e).0

    -- sixty-four rows at most
    rows_are : (k : Bool) → k ≡ rows_kept (rows_on rs bs 0 (groups_enrolled rs)) → (host_ok rs bs ps && listing_kept (gate_rows rs bs)) ≡ k
    unfolding listing_kept gate_rows
    rows_are k i =
        let l : leb (length (rows_on rs bs 0 (groups_enrolled rs))) 64 ≡ true = ap (λ (x : ℕ). leb x 64) (length-rows rs bs 0 (groups_enrolled rs)) ∙ le-leb (groups_enrolled rs) 64 enrolled_most in
        rw (e, l) (sym i)

  -- the refusal, by the tests that the code makes one after the other
  pub list_is : list_refusal (memory rs bs ps) room
      ≡ refusal (
      (unsound_number, not (host_ok rs bs ps)) ∷ (unsound_number, not (rows_kept (rows_on rs bs 0 (groups_enrolled rs)))) ∷ (short_buffer_number, ltb room (row_bytes * groups_enrolled rs)) ∷ []
      )
  unfolding list_refusal
  list_is = go (host_ok rs bs ps) refl
    where
      short : ℕ
      short = pick (ltb room (row_bytes * groups_enrolled rs)) short_buffer_number 0

      go : (b : Bool) → host_ok rs bs ps ≡ b → pick (not (b && listing_kept (gate_rows rs bs))) unsound_number short ≡ pick (not b) unsound_number (pick (not (rows_kept (rows_on rs bs 0 (groups_enrolled rs)))) unsound_number short)
      go true e = ap (λ (k : Bool). pick (not k) unsound_number short) (sym (ap (λ (h : Bool). h && listing_kept (gate_rows rs bs)) e) ∙ rows_are e (rows_kept (rows_on rs bs 0 (groups_enrolled rs))) refl)
      go false e = refl

-- no group's row keeps no rules
pub none_kept : row_kept no_row ≡ false
unfolding row_kept row_obeys
none_kept = refl
