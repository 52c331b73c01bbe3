-- Rows by their keys: the rules of a list of rows are those of each row, and that no key stands twice; then the same of keys as numbers. Assumes nothing.
use Rattle.std.specs.Prelude.{zero, suc, take, drop, ◌≡◌, refl, Bool, true, false, not, ◌&&◌, ◌||◌, List, [], ◌∷◌, ℕ, ◌+◌, ◌*◌, ◌≤◌, eqb, min, map}
use Rattle.std.proofs.Common.{arith, sym, ap, ◌∙◌, ◌++◌, eqb-true, eq-eqb, ne_eqb, append_assoc, append-nil}
use Rattle.std.proofs.lemmas.Bool.{false≢true}
use Rattle.std.specs.List.{list_any, list_all}
use Rattle.std.specs.Simd.{first_chunks}
use Rattle.rules.specs.Tests.{both}
use Rattle.rows.specs.Row.{row_kept}
use Rattle.rows.specs.Kept.{Ruled, ruled}
use Rattle.rows.specs.declared.Row.{Row}
use Rattle.listing.specs.declared.keys.Key.{Key}
use Rattle.listing.specs.Text.{key_of, same_key, fresh, rows_kept, row_in, row_good, rows_from, rows_good, row_bytes}
use Rattle.listing.specs.RowLaws.{good_kept}
use Rattle.listing.specs.Keys.{equal, keys_differ, line_key, lines_kept, key_number, among, numbers_differ, line_key_number, lines_kept_by_number}

-- a row that keeps its rules has no number above 32 bits: what is held is its key
module _ (r : Row) (h : row_kept r ≡ true) where
  pub code_held : min r.code 4_294_967_295 ≡ r.code
  code_held = let k : Ruled r = ruled r h in omega (arith, k.code)

  pub class_held : min r.class 4_294_967_295 ≡ r.class
  class_held = let k : Ruled r = ruled r h in omega (arith, k.class)

either : (a b : ℕ) → eqb a b ≡ eqb b a
either a b = go (eqb b a) refl
  where
    go : (t : Bool) → eqb b a ≡ t → eqb a b ≡ t
    go true e = eq-eqb a b (sym (eqb-true b a e))
    go false e = ne_eqb a b (λ p. false≢true (sym e ∙ eq-eqb b a (sym p)))

fresh_on : (b f a : Bool) → f ≡ not a → (not b && f) ≡ not (b || a)
fresh_on true f a e = refl
fresh_on false f a e = e

fresh_is : (r : Row) (rs : List Row) → fresh r rs ≡ not (list_any (λ k. equal k (key_of r)) (map key_of rs))
unfolding fresh
fresh_is r [] = refl
fresh_is r (s ∷ rs) = rw (either s.code r.code, either s.class r.class) (fresh_on (same_key r s) (fresh r rs) (list_any (λ k. equal k (key_of r)) (map key_of rs)) (fresh_is r rs))

swapped : (a b c d : Bool) → (a && (b && (c && d))) ≡ ((a && c) && (b && d))
swapped true true c d = refl
swapped true false true d = refl
swapped true false false d = refl
swapped false b c d = refl

-- a list of rows keeps the rules where each row does and no key stands twice
pub kept_by_keys : (rs : List Row) → rows_kept rs ≡ (list_all row_kept rs && keys_differ (map key_of rs))
unfolding rows_kept
kept_by_keys [] = refl
kept_by_keys (r ∷ rs) = rw (fresh_is r rs, kept_by_keys rs) (swapped (row_kept r) (not (list_any (λ k. equal k (key_of r)) (map key_of rs))) (list_all row_kept rs) (keys_differ (map key_of rs)))

keys_of_lines : (n : ℕ) (t : List ℕ) → map key_of (rows_from n t) ≡ map line_key (first_chunks row_bytes n t)
unfolding rows_from
keys_of_lines zero t = refl
keys_of_lines (suc n) t = ap (λ (ks : List Key). line_key (take row_bytes t) ∷ ks) (keys_of_lines n (drop row_bytes t))

-- the rows of a text, by its lines
pub good_by_keys : (n : ℕ) (t : List ℕ) → rows_good n t ≡ lines_kept (first_chunks row_bytes n t)
unfolding rows_good
good_by_keys zero t = refl
good_by_keys (suc n) t =
    let ls : List (List ℕ) = first_chunks row_bytes n (drop row_bytes t) in
    rw (fresh_is (row_in (take row_bytes t)) (rows_from n (drop row_bytes t)), keys_of_lines n (drop row_bytes t), good_by_keys n (drop row_bytes t))
    (swapped (row_good (take row_bytes t)) (not (list_any (λ k. equal k (line_key (take row_bytes t))) (map line_key ls))) (list_all row_good ls) (keys_differ (map line_key ls)))

-- ---- keys as numbers, of rows that keep their rules

-- a row that keeps its rules has no key number above 32 bits, and a class of one digit
module _ (r : Row) (h : row_kept r ≡ true) where
  pub key_held : min (key_number r) 4_294_967_295 ≡ key_number r
  key_held =
      let k : Ruled r = ruled r h in
      let c = k.code in
      let l = k.class in
      omega arith

  one_digit : r.class ≤ 9
  one_digit = let k : Ruled r = ruled r h in omega (arith, k.class)

-- the same code with the same class is the same number
packed : (c k d l : ℕ) → k ≤ 9 → l ≤ 9 → (eqb c d && eqb k l) ≡ eqb (10 * d + l) (10 * c + k)
packed c k d l hk hl = go (eqb c d) refl (eqb k l) refl
  where
    go : (a : Bool) → eqb c d ≡ a → (b : Bool) → eqb k l ≡ b → (a && b) ≡ eqb (10 * d + l) (10 * c + k)
    go true p true q =
        let e : c ≡ d = eqb-true c d p in
        let f : k ≡ l = eqb-true k l q in
        sym (eq-eqb (10 * d + l) (10 * c + k) (omega arith))
    go true p false q = sym (ne_eqb (10 * d + l) (10 * c + k) (λ r. false≢true (sym q ∙ eq-eqb k l (omega (arith, eqb-true c d p)))))
    go false p b q = sym (ne_eqb (10 * d + l) (10 * c + k) (λ r. false≢true (sym p ∙ eq-eqb c d (omega arith))))

fresh_by_number : (r : Row) (rs : List Row) → row_kept r ≡ true → list_all row_kept rs ≡ true → fresh r rs ≡ not (among (key_number r) (map key_number rs))
unfolding fresh among
fresh_by_number r [] h a = refl
fresh_by_number r (s ∷ rs) h a =
    let b = both (row_kept s) (list_all row_kept rs) a in
    rw (packed r.code r.class s.code s.class (one_digit r h) (one_digit s b.0)) (fresh_on (eqb (key_number s) (key_number r)) (fresh r rs) (among (key_number r) (map key_number rs)) (fresh_by_number r rs h b.1))

none_follows : (b : Bool) → (b && false) ≡ false
none_follows true = refl
none_follows false = refl

-- a list of rows keeps the rules where each row does and no number stands twice
pub kept_by_number : (rs : List Row) → rows_kept rs ≡ (list_all row_kept rs && numbers_differ (map key_number rs))
unfolding rows_kept
kept_by_number [] = refl
kept_by_number (r ∷ rs) = rw (kept_by_number rs) (go (row_kept r) refl (list_all row_kept rs) refl)
  where
    go : (k : Bool) → row_kept r ≡ k → (a : Bool) → list_all row_kept rs ≡ a
        → (k && (fresh r rs && (a && numbers_differ (map key_number rs)))) ≡ ((k && a) && (not (among (key_number r) (map key_number rs)) && numbers_differ (map key_number rs)))
    go true h true e = ap (λ (b : Bool). b && numbers_differ (map key_number rs)) (fresh_by_number r rs h e)
    go true h false e = none_follows (fresh r rs)
    go false h a e = refl

numbers_of_lines : (n : ℕ) (t : List ℕ) → map key_number (rows_from n t) ≡ map line_key_number (first_chunks row_bytes n t)
unfolding rows_from
numbers_of_lines zero t = refl
numbers_of_lines (suc n) t = ap (λ (ks : List ℕ). line_key_number (take row_bytes t) ∷ ks) (numbers_of_lines n (drop row_bytes t))

lines_rows : (n : ℕ) (t : List ℕ) → list_all row_good (first_chunks row_bytes n t) ≡ true → list_all row_kept (rows_from n t) ≡ true
unfolding rows_from
lines_rows zero t h = refl
lines_rows (suc n) t h =
    let b = both (row_good (take row_bytes t)) (list_all row_good (first_chunks row_bytes n (drop row_bytes t))) h in
    rw (good_kept (take row_bytes t) b.0) (lines_rows n (drop row_bytes t) b.1)

-- the rows of a text, by its lines
pub good_by_number : (n : ℕ) (t : List ℕ) → rows_good n t ≡ lines_kept_by_number (first_chunks row_bytes n t)
unfolding rows_good
good_by_number zero t = refl
good_by_number (suc n) t = rw (good_by_number n (drop row_bytes t)) (go (row_good (take row_bytes t)) refl (list_all row_good (first_chunks row_bytes n (drop row_bytes t))) refl)
  where
    line : List ℕ
    line = take row_bytes t

    later : List (List ℕ)
    later = first_chunks row_bytes n (drop row_bytes t)

    go : (k : Bool) → row_good line ≡ k → (a : Bool) → list_all row_good later ≡ a
        → (k && (fresh (row_in line) (rows_from n (drop row_bytes t)) && (a && numbers_differ (map line_key_number later))))
        ≡ ((k && a) && (not (among (line_key_number line) (map line_key_number later)) && numbers_differ (map line_key_number later)))
    go true h true e =
        let f : fresh (row_in line) (rows_from n (drop row_bytes t)) ≡ not (among (line_key_number line) (map line_key_number later))
        = fresh_by_number (row_in line) (rows_from n (drop row_bytes t)) (good_kept line h) (lines_rows n (drop row_bytes t) e)
        ∙ ap (λ (ks : List ℕ). not (among (line_key_number line) ks)) (numbers_of_lines n (drop row_bytes t)) in
        ap (λ (b : Bool). b && numbers_differ (map line_key_number later)) f
    go true h false e = none_follows (fresh (row_in line) (rows_from n (drop row_bytes t)))
    go false h a e = refl

-- ---- lines kept by their keys are those kept by their numbers

same_number : (r s : Row) → row_kept r ≡ true → row_kept s ≡ true → equal (key_of s) (key_of r) ≡ eqb (key_number s) (key_number r)
same_number r s h g = rw (either s.code r.code, either s.class r.class) (packed r.code r.class s.code s.class (one_digit r h) (one_digit s g))

any_same : (l : List ℕ) (ls : List (List ℕ)) → row_good l ≡ true → list_all row_good ls ≡ true
    → list_any (λ k. equal k (line_key l)) (map line_key ls) ≡ among (line_key_number l) (map line_key_number ls)
unfolding among
any_same l [] h a = refl
any_same l (x ∷ ls) h a =
    let b = both (row_good x) (list_all row_good ls) a in
    rw (same_number (row_in l) (row_in x) (good_kept l h) (good_kept x b.0), any_same l ls h b.1) refl

differ_same : (ls : List (List ℕ)) → list_all row_good ls ≡ true → keys_differ (map line_key ls) ≡ numbers_differ (map line_key_number ls)
differ_same [] a = refl
differ_same (l ∷ ls) a =
    let b = both (row_good l) (list_all row_good ls) a in
    rw (any_same l ls b.0 b.1, differ_same ls b.1) refl

pub kept_same : (ls : List (List ℕ)) → lines_kept ls ≡ lines_kept_by_number ls
kept_same ls = go (list_all row_good ls) refl
  where
    go : (a : Bool) → list_all row_good ls ≡ a → (a && keys_differ (map line_key ls)) ≡ (a && numbers_differ (map line_key_number ls))
    go true e = differ_same ls e
    go false e = refl

-- ---- numbers looked at one after the other, each against those before it

any_last : (k : ℕ) (ks : List ℕ) (l : ℕ) → among k (ks ++ (l ∷ [])) ≡ (among k ks || eqb l k)
unfolding among
any_last k [] l = go (eqb l k)
  where
    go : (b : Bool) → (b || false) ≡ b
    go true = refl
    go false = refl
any_last k (x ∷ ks) l = rw (any_last k ks l) (go (eqb x k) (among k ks) (eqb l k))
  where
    go : (a b c : Bool) → (a || (b || c)) ≡ ((a || b) || c)
    go true b c = refl
    go false b c = refl

moved : (a d x y : Bool) → (not (a || x) && (d && not y)) ≡ ((not a && d) && not (x || y))
moved true d x y = refl
moved false true true y = refl
moved false true false y = refl
moved false false true y = refl
moved false false false y = refl

differ_last : (ks : List ℕ) (l : ℕ) → numbers_differ (ks ++ (l ∷ [])) ≡ (numbers_differ ks && not (among l ks))
unfolding among
differ_last [] l = refl
differ_last (k ∷ ks) l = rw (any_last k ks l, differ_last ks l, either l k) (moved (among k ks) (numbers_differ ks) (eqb k l) (among l ks))

pub crossed : (a b c d : Bool) → ((a && b) && (c && d)) ≡ ((a && c) && (b && d))
crossed true true c d = refl
crossed true false true d = refl
crossed true false false d = refl
crossed false b c d = refl

-- none of the numbers to come is one of those seen, or of those that come before it
unfoldable pub new_behind : List ℕ → List ℕ → Bool
new_behind seen [] = true
new_behind seen (k ∷ ks) = not (among k seen) && new_behind (seen ++ (k ∷ [])) ks

differ_behind : (seen ks : List ℕ) → numbers_differ (seen ++ ks) ≡ (numbers_differ seen && new_behind seen ks)
unfolding new_behind
differ_behind seen [] = rw (append-nil seen) (go (numbers_differ seen))
  where
    go : (b : Bool) → b ≡ (b && true)
    go true = refl
    go false = refl
differ_behind seen (k ∷ ks) =
    sym (ap numbers_differ (append_assoc seen (k ∷ []) ks)) ∙ differ_behind (seen ++ (k ∷ [])) ks
    ∙ rw (differ_last seen k) (go (numbers_differ seen) (not (among k seen)) (new_behind (seen ++ (k ∷ [])) ks))
  where
    go : (a b c : Bool) → ((a && b) && c) ≡ (a && (b && c))
    go true b c = refl
    go false b c = refl

pub differ_new : (ks : List ℕ) → numbers_differ ks ≡ new_behind [] ks
differ_new ks = differ_behind [] ks
