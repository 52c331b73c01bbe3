-- Rows by their keys: the rules of a list of rows are those of each row, and that no key stands twice.
use Rattle.std.specs.Prelude.{Bool, true, not, ◌&&◌, List, [], ◌∷◌, ℕ, ◌+◌, ◌*◌, eqb, min, map}
use Rattle.std.specs.List.{list_any, list_all}
use Rattle.rows.specs.declared.Row.{Row}
use Rattle.listing.specs.declared.keys.Key.{Key}
use Rattle.listing.specs.Text.{key_of, row_in, row_good}

-- a row's key in words of 32 bits: a number above them counts as the greatest
abbrev pub held_key : Row → Key
held_key r = record { code = min r.code 4_294_967_295; class = min r.class 4_294_967_295 }

abbrev pub equal : Key → Key → Bool
equal k j = eqb k.code j.code && eqb k.class j.class

-- no key stands twice
abbrev pub keys_differ : List Key → Bool
keys_differ [] = true
keys_differ (k ∷ ks) = not (list_any (λ j. equal j k) ks) && keys_differ ks

-- each line is a row, and no key stands twice
abbrev pub line_key : List ℕ → Key
line_key l = key_of (row_in l)

abbrev pub lines_kept : List (List ℕ) → Bool
lines_kept ls = list_all row_good ls && keys_differ (map line_key ls)

-- ---- keys as numbers: for rows that keep their rules the same (`listing/proofs/Keyed.antt: kept_same`)

-- code and class, a class having one digit
abbrev pub key_number : Row → ℕ
key_number r = 10 * r.code + r.class

-- a number is one of these
unfoldable pub among : ℕ → List ℕ → Bool
among k ks = list_any (λ j. eqb j k) ks

-- no number stands twice
abbrev pub numbers_differ : List ℕ → Bool
numbers_differ [] = true
numbers_differ (k ∷ ks) = not (among k ks) && numbers_differ ks

-- each line is a row, and no number stands twice
abbrev pub line_key_number : List ℕ → ℕ
line_key_number l = key_number (row_in l)

abbrev pub lines_kept_by_number : List (List ℕ) → Bool
lines_kept_by_number ls = list_all row_good ls && numbers_differ (map line_key_number ls)
