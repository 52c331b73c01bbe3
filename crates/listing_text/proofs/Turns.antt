-- What is read of a line that is a row, and the lines read one after the other. Assumes nothing.
use Rattle.std.proofs.Common.{◌≡◌, refl, ap, ◌∙◌, arith, ℕ, suc, ◌+◌, ◌<◌, ◌≤◌, Bool, true, not, ◌&&◌, List, [], ◌∷◌, ◌++◌, length, take, drop, get_or, map, min, drop-cons, drop_of_length-le}
use Rattle.std.proofs.lemmas.List.{take_more, map-append}
use Rattle.std.proofs.lemmas.List.Folds.{list_all_more}
use Rattle.std.specs.List.{list_all}
use Rattle.listing.specs.RowLaws.{good_kept}
use Rattle.listing.specs.Text.{row_in, row_good}
use Rattle.listing.proofs.Keyed.{code_held, class_held, key_held, crossed, new_behind, differ_new}
use Rattle.listing.specs.Keys.{line_key, among, line_key_number, lines_kept_by_number}

-- the numbers of a line's key are held as they are
module _ (l : List ℕ) (g : row_good l ≡ true) where
  pub code_in : min (row_in l).code 4_294_967_295 ≡ (row_in l).code
  code_in = code_held (row_in l) (good_kept l g)

  pub class_in : min (row_in l).class 4_294_967_295 ≡ (row_in l).class
  class_in = class_held (row_in l) (good_kept l g)

-- and so is its key as one number
pub key_in : (l : List ℕ) → row_good l ≡ true → min (line_key_number l) 4_294_967_295 ≡ line_key_number l
key_in l g = key_held (row_in l) (good_kept l g)

-- whether the lines from i on are rows, and none of them has the key of an earlier one
unfoldable pub rest_kept : ℕ → List (List ℕ) → Bool
rest_kept i ls = list_all row_good (drop i ls) && new_behind (map line_key_number (take i ls)) (map line_key_number (drop i ls))

pub kept_rest : (ls : List (List ℕ)) → lines_kept_by_number ls ≡ rest_kept 0 ls
unfolding rest_kept new_behind
kept_rest ls = ap (λ (b : Bool). list_all row_good ls && b) (differ_new (map line_key_number ls))

pub rest_none : (ls : List (List ℕ)) (i : ℕ) → length ls ≤ i → rest_kept i ls ≡ true
unfolding rest_kept new_behind
rest_none ls i h = rw (drop_of_length-le ls h) refl

-- one line more
module _ (ls : List (List ℕ)) (i : ℕ) (h : i < length ls) where
  pub good_more : list_all row_good (take (i + 1) ls) ≡ (list_all row_good (take i ls) && row_good (get_or ls i []))
  good_more = list_all_more row_good ls i [] h

  made_more : {A : Type 0} (f : List ℕ → A) → map f (take (i + 1) ls) ≡ map f (take i ls) ++ (f (get_or ls i []) ∷ [])
  made_more f = ap (map f) (take_more ls i [] h) ∙ map-append f (take i ls) (get_or ls i [] ∷ [])

  pub keys_more : map line_key (take (i + 1) ls) ≡ map line_key (take i ls) ++ (line_key (get_or ls i []) ∷ [])
  keys_more = made_more line_key

  pub numbers_more : map line_key_number (take (i + 1) ls) ≡ map line_key_number (take i ls) ++ (line_key_number (get_or ls i []) ∷ [])
  numbers_more = made_more line_key_number

  pub rest_more : rest_kept i ls ≡ ((row_good (get_or ls i []) && not (among (line_key_number (get_or ls i [])) (map line_key_number (take i ls)))) && rest_kept (i + 1) ls)
  unfolding rest_kept new_behind
  rest_more =
      let s : suc i ≡ i + 1 = omega arith in
      let e : drop i ls ≡ get_or ls i [] ∷ drop (i + 1) ls = drop-cons ls i [] h ∙ ap (λ (k : ℕ). get_or ls i [] ∷ drop k ls) s in
      rw (e, numbers_more) (crossed (row_good (get_or ls i [])) (list_all row_good (drop (i + 1) ls)) (not (among (line_key_number (get_or ls i [])) (map line_key_number (take i ls)))) (new_behind (map line_key_number (take i ls) ++ (line_key_number (get_or ls i []) ∷ [])) (map line_key_number (drop (i + 1) ls))))
