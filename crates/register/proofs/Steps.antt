-- Steps of the codec's proofs: what a record's part of the register is, and what storing it makes of the register. Assumes nothing.
use Prim.Native.Nat.{ℕ, ◌+◌, ◌-◌, ◌≤◌, ◌<◌, min}
use mathlib.Core.Path.{◌≡◌, refl, ap, sym, ◌∙◌}
use mathlib.Core.List.{List, [], ◌++◌, append_assoc}
use Rattle.std.specs.Prelude.{None, Some, position}
use native.Mathlib.Omega.{arith}
use borrow.Author.Tests.{leb-true, leb-false, eq-eqb, ne_eqb, le-leb, lt-ltb, le-ltb}
use borrow.Rule.Slice.PartMut.{put_mid}
use lib.Dec.{eqb, leb}
use mathlib.Core.Bool.{Bool, true, false}
use Rattle.std.proofs.Common.{length-take, length-drop}
use lib.ListN.{length, get_or, set, take, drop}
use native.Mathlib.Numerals.{add-one}
use lib.Seq.{take-take, take_all, get_or-set_same, get_or-set_other, ext_get_or, drop-drop}
use Rattle.rules.specs.Keyed.{find}
use Rattle.words.specs.Words.{run, splice, run_at, length-splice, splice-after}
use Rattle.pairs.specs.Pairs.{removed_word}
use Rattle.pairs.proofs.Search.{place_found, place_missing}
use Rattle.pairs.specs.Laws.{place-fits, place_value, place_none, length_removed, removed_front}
use Rattle.register.specs.Layout.{unit_count, unit_column, unit_group_column, units_of, unit_place, closed_units, remove_unit, words_of, place, held, record_at, put_words, put_record, put_group, first_unit, first_unit_group, record_words, register_length}
use Rattle.register.specs.Records.{here, length_record, record_word}
use Rattle.register.specs.Views.{units_is, length-column, as_long}
use Rattle.words.specs.Each.{same}
use Rattle.register.specs.declared.groups.Group.{Group}

-- putting: none, one more
pub puts_none : (ws : List ℕ) (i : ℕ) (r : List ℕ) → ws ≡ put_words ws i r 0
unfolding put_words
puts_none ws i r = refl

pub puts_turn : (ws : List ℕ) (i : ℕ) (r : List ℕ) (n : ℕ) (us : List ℕ) (p v : ℕ) → us ≡ put_words ws i r n → p ≡ place i n → v ≡ held (get_or r n 0)
    → set us p v ≡ put_words ws i r (n + 1)
unfolding put_words
puts_turn ws i r n us p v a b c = rw (add-one, a, b, c)

-- reading: the first k words of r are those of group i
unfoldable pub Gathered : List ℕ → ℕ → List ℕ → ℕ → Type 0
Gathered ws i r k = (j : ℕ) → j < k → get_or r j 0 ≡ get_or ws (place i j) 0

pub gathered_none : (ws : List ℕ) (i : ℕ) (r : List ℕ) → Gathered ws i r 0
unfolding Gathered
gathered_none ws i r j h = absurd (omega arith)

pub gathered_turn : (ws : List ℕ) (i : ℕ) (r : List ℕ) (k v : ℕ) → length r ≡ record_words → k < record_words → Gathered ws i r k → v ≡ get_or ws (place i k) 0 → Gathered ws i (set r k v) (k + 1)
unfolding Gathered
gathered_turn ws i r k v n h g e j l =
    same j k
    (λ q. ap (λ z. get_or (set r k v) z 0) q ∙ get_or-set_same r k v 0 (omega arith) ∙ e ∙ ap (λ z. get_or ws (place i z) 0) (sym q))
    (λ q. get_or-set_other r k j v 0 q ∙ g j (omega arith))

pub gathered_all : (ws : List ℕ) (i : ℕ) (r : List ℕ) (k : ℕ) → i < 64 → length ws ≡ register_length → length r ≡ record_words → record_words ≤ k → Gathered ws i r k → r ≡ record_at ws i
unfolding Gathered
gathered_all ws i r k h l n m g =
    ext_get_or 0 r (record_at ws i) (n ∙ sym (length_record ws i h l)) (λ j o. g j (omega arith) ∙ sym (record_word ws i j h l (omega arith)))

pub put_step : (ws : List ℕ) (i : ℕ) (g : Group) (us r : List ℕ) → i < 64 → length ws ≡ register_length → r ≡ words_of g → us ≡ put_words ws i r record_words → us ≡ put_group ws i g
unfolding put_record
put_step ws i g us r h n e f = rw (here ws i h n) (f ∙ ap (λ z. put_words ws i z record_words) e)

-- the units: a unit found, its group, none
pub no_units : (ws : List ℕ) → (length ws ≡ register_length → ⊥) → units_of ws ≡ []
unfolding units_of
no_units ws h = rw (ne_eqb (length ws) register_length h)

-- the attached units, of those that there is room for
pub first_units : (ws : List ℕ) (n m : ℕ) → n ≡ min m 256 → take n (drop first_unit ws) ≡ take m (unit_column ws)
unfolding run
first_units ws n m e = go (leb m 256) refl
  where
    go : (b : Bool) → leb m 256 ≡ b → take n (drop first_unit ws) ≡ take m (take 256 (drop first_unit ws))
    go true t =
        let l = leb-true m 256 t in
        let u : n ≡ m = omega arith in
        ap (λ z. take z (drop first_unit ws)) u ∙ sym (take-take m 256 (drop first_unit ws) l)
    go false t =
        let l = leb-false m 256 t in
        let u : n ≡ 256 = omega arith in
        ap (λ z. take z (drop first_unit ws)) u ∙ sym (take_all m (take 256 (drop first_unit ws)) (omega (arith, length-take 256 (drop first_unit ws))))

module _ (ws : List ℕ) (unit : ℕ) (l : length ws ≡ register_length) where
  -- the group of a unit that is found, and of one that is not
  pub found_step : (k : ℕ) → position (eqb unit) (take (unit_count ws) (unit_column ws)) ≡ Some k
      → (k < 256) × (find unit (units_of ws) ≡ Some (get_or ws (first_unit_group + k) 0))
  found_step k e =
      let q = place_found (unit_column ws) (unit_count ws) unit k e in
      let a = length-column ws l in
      let b : unit_place ws unit < length (unit_column ws) = place-fits (unit_column ws) (unit_count ws) unit (omega arith) in
      let h : k < 256 = omega arith in
      let f : get_or (unit_group_column ws) (unit_place ws unit) 0 ≡ get_or ws (first_unit_group + k) 0 = ap (λ z. get_or (unit_group_column ws) z 0) (sym q.1) ∙ run_at ws first_unit_group 256 k h in
      (h, ap (find unit) (units_is ws l) ∙ place_value (unit_column ws) (unit_group_column ws) (unit_count ws) unit (as_long ws l) (omega arith) ∙ ap Some f)

  pub missing_step : position (eqb unit) (take (unit_count ws) (unit_column ws)) ≡ None → find unit (units_of ws) ≡ None
  missing_step e =
      let q = place_missing (unit_column ws) (unit_count ws) unit e in
      ap (find unit) (units_is ws l) ∙ place_none (unit_column ws) (unit_group_column ws) (unit_count ws) unit (as_long ws l) (omega arith)

-- a part put back in its place
mid_splice : (ws ys : List ℕ) (k n : ℕ) → length ys ≡ n → put_mid k n ws ys ≡ splice ws k ys
unfolding splice
mid_splice ws ys k n e =
    ap (λ (z : List ℕ). take k ws ++ (ys ++ z)) (drop-drop n k ws ∙ ap (λ m. drop (k + m) ws) (sym e)) ∙ sym (append_assoc (take k ws) ys (drop (k + length ys) ws))

-- n words from word a on, as a slice of them is
abbrev part : ℕ → ℕ → List ℕ → List ℕ
part a n ws = take (a + n - a) (drop a ws)

-- the n words in use of a column of j, from word a on, put back with word k taken out: the whole column with it taken out
front_splice : (ws ys : List ℕ) (a j n k : ℕ) → n ≤ j → a + j ≤ length ws → ys ≡ removed_word (part a n ws) (length (part a n ws)) k
    → put_mid a (a + n - a) ws ys ≡ splice ws a (removed_word (run ws a j) n k)
unfolding run
front_splice ws ys a j n k h l f =
    let w = drop a ws in
    let d = length-drop a ws in
    let e : a + n - a ≡ n = omega arith in
    let q : length (part a n ws) ≡ n = omega (arith, length-take (a + n - a) w) in
    let r : length (removed_word (take j w) n k) ≡ j = length_removed (take j w) n k ∙ omega (arith, length-take j w) in
    ap (λ (z : List ℕ). take a ws ++ z)
    (ap (λ (z : ℕ). ys ++ drop z w) e
    ∙ ap (λ (z : List ℕ). z ++ drop n w) (f ∙ ap (λ (z : ℕ). removed_word (part a n ws) z k) q ∙ ap (λ (z : ℕ). removed_word (take z w) n k) e)
    ∙ removed_front w n n k (omega arith) (omega arith)
    ∙ sym (removed_front w j n k h (omega arith)))
    ∙ mid_splice ws (removed_word (take j w) n k) a j r

module _ (ws : List ℕ) (unit : ℕ) (l : length ws ≡ register_length) (h : unit_count ws ≤ 256) where
  searched : part first_unit (unit_count ws) ws ≡ take (unit_count ws) (unit_column ws)
  searched = first_units ws _ (unit_count ws) (omega arith)

  pub unit_not_there : position (eqb unit) (part first_unit (unit_count ws) ws) ≡ None → ws ≡ remove_unit ws unit
  unfolding remove_unit
  unit_not_there e =
      let q = place_missing (unit_column ws) (unit_count ws) unit (ap (position (eqb unit)) (sym searched) ∙ e) in
      rw (eq-eqb (length ws) register_length l, le-leb (unit_count ws) 256 h, le-ltb (unit_place ws unit) (unit_count ws) (omega arith))

  module _ (k : ℕ) (p : position (eqb unit) (part first_unit (unit_count ws) ws) ≡ Some k) (us ys zs : List ℕ) (e : ys ≡ removed_word (part first_unit (unit_count ws) ws) (length (part first_unit (unit_count ws) ws)) k) (f : us ≡ put_mid first_unit (first_unit + unit_count ws - first_unit) ws ys) (g : zs ≡ removed_word (part first_unit_group (unit_count ws) us) (length (part first_unit_group (unit_count ws) us)) k) where
    first_half : us ≡ splice ws first_unit (removed_word (unit_column ws) (unit_count ws) k)
    first_half = f ∙ front_splice ws ys first_unit 256 (unit_count ws) k h (omega arith) e

    second_half : put_mid first_unit_group (first_unit_group + unit_count ws - first_unit_group) us zs ≡ closed_units ws k
    second_half =
        let n = length_removed (unit_column ws) (unit_count ws) k ∙ length-column ws l in
        let a : length us ≡ length ws = ap (λ (z : List ℕ). length z) first_half ∙ length-splice ws first_unit (removed_word (unit_column ws) (unit_count ws) k) (omega arith) in
        front_splice us zs first_unit_group 256 (unit_count ws) k h (omega arith) g
        ∙ ap (λ (z : List ℕ). splice z first_unit_group (removed_word (run z first_unit_group 256) (unit_count ws) k)) first_half
        ∙ ap (λ (z : List ℕ). splice (splice ws first_unit (removed_word (unit_column ws) (unit_count ws) k)) first_unit_group (removed_word z (unit_count ws) k))
        (splice-after ws first_unit (removed_word (unit_column ws) (unit_count ws) k) (omega arith) first_unit_group 256 (omega arith))

    pub remove_unit_step : set (put_mid first_unit_group (first_unit_group + unit_count ws - first_unit_group) us zs) 1 (unit_count ws - 1) ≡ remove_unit ws unit
    unfolding remove_unit
    remove_unit_step =
        let q = place_found (unit_column ws) (unit_count ws) unit k (ap (position (eqb unit)) (sym searched) ∙ p) in
        rw (eq-eqb (length ws) register_length l, le-leb (unit_count ws) 256 h, lt-ltb (unit_place ws unit) (unit_count ws) (omega arith))
        (ap (λ (z : List ℕ). set z 1 (unit_count ws - 1)) (second_half ∙ ap (closed_units ws) q.1))
