-- What a register that passes the check holds, and that every change with values in range keeps it. Over specs/Sound.antt. Assumes nothing.
-- Here, and not in specs/, so that a wrong definition is refused by the first theorem that it breaks, and not by those that rest on it.
use Rattle.std.specs.Prelude.{ℕ, ◌+◌, ◌-◌, ◌≤◌, ◌<◌, ◌≡◌, refl, ◌≢◌, Bool, true, false, List, ltb, length, get_or, set}
use Rattle.std.proofs.Common.{ap, ◌∙◌, arith, length-set, get_or-set_same, get_or-set_other}
use borrow.Author.Tests.{le-leb, ltb-true, lt-ltb}
use Rattle.std.proofs.Math.Dec.{leb}
use Rattle.rules.specs.Tests.{pick, both}
use Rattle.rules.specs.Keyed.{find, is_there, or_else}
use Rattle.words.specs.Each.{same, reach}
use Rattle.pairs.specs.Pairs.{removed_word}
use Rattle.pairs.specs.Laws.{place_value, from, removed_word_lem}
use Rattle.register.specs.Layout.{held, register_length, used_head, group_count, unit_count, words_of, record_at, put_record, group_at, put_group, add_group, unit_column, unit_group_column, units_of, unit_place, add_unit, remove_unit, first_declarer}
use Rattle.register.specs.Check.{record_ok, register_ok}
use Rattle.register.specs.Records.{small_held, length-words, length_record, put_same, put_other, put-own}
use Rattle.register.specs.Views.{units_is, unit_there, length-column, length_group_column, as_long}
use Rattle.register.specs.Views.{length-put_group, group_count_put, unit_count_put, unit_column-put, unit_group_column-put}
use Rattle.register.specs.Views.{length_add_group, group_count_add_group, unit_count_add_group, unit_column_add_group, unit_group_column_add_group, record_add_group}
use Rattle.register.specs.Views.{length_add_unit, group_count_add_unit, unit_count_add_unit, unit_column_add_unit, unit_group_column_add_unit, record_add_unit, place-below}
use Rattle.register.specs.Views.{length_remove_unit, group_count_remove_unit, unit_count_remove_unit, unit_column_remove_unit, unit_group_column_remove_unit, record_remove_unit, remove_absent, add_group_full, add_unit_full}
use Rattle.register.specs.Views.{head_put, head_add_group, head_add_unit, head_remove_unit, record_head, group_count_head, unit_count_head, head_same, head_other, unit_column_head, unit_group_column_head}
use Rattle.register.specs.declared.groups.Group.{Group}
use Rattle.register.specs.Sound.{InRange, record_ok_lem, most_small, in_range_fits, record_parts, in_range_lem, is_attached, AllAttached, head_in, Sound, known, sound, words_back}

pub register_known : (ws : List ℕ) → register_ok ws ≡ true → (length ws ≡ register_length) × (group_count ws ≤ 64) × (unit_count ws ≤ 256)
register_known ws ok = let s = known ws ok in (s.register-length, s.groups_most, s.units_most)

pub group_sound : (ws : List ℕ) (i : ℕ) → register_ok ws ≡ true → i < group_count ws → InRange (group_at ws i)
group_sound ws i ok h = in_range_lem (record_at ws i) ((known ws ok).records i h)

pub unit_sound : (ws : List ℕ) (u : ℕ) → register_ok ws ≡ true → is_there (find u (units_of ws)) ≡ true → or_else 0 (find u (units_of ws)) < group_count ws
unit_sound ws u ok t =
    let s = known ws ok in
    let l = s.register-length in
    let h : unit_place ws u < unit_count ws = ltb-true (unit_place ws u) (unit_count ws) (unit_there ws u l ∙ t) in
    let w = get_or (unit_column ws) (unit_place ws u) 0 in
    let v = get_or (unit_group_column ws) (unit_place ws u) 0 in
    let b = both (leb w 99_999) (ltb v (group_count ws)) (s.attached (unit_place ws u) h) in
    rw (units_is ws l, place_value (unit_column ws) (unit_group_column ws) (unit_count ws) u (as_long ws l) h) (ltb-true v (group_count ws) b.1)

-- units of n groups are units of n + 1
each_more : (us gs : List ℕ) (n m : ℕ) → AllAttached n us gs m → AllAttached (n + 1) us gs m
each_more us gs n m f k h =
    let u = get_or us k 0 in
    let v = get_or gs k 0 in
    let b = both (leb u 99_999) (ltb v n) (f k h) in
    rw b.0 (lt-ltb v (n + 1) (omega (arith, ltb-true v n b.1)))

-- one more
each_put : (us gs : List ℕ) (n m u g : ℕ) → m < length us → m < length gs → AllAttached n us gs m → is_attached n u g ≡ true → AllAttached n (set us m u) (set gs m g) (m + 1)
each_put us gs n m u g x y f t k h =
    same k m
    (λ q. rw (q, get_or-set_same us m u 0 x, get_or-set_same gs m g 0 y) t)
    (λ q. rw (get_or-set_other us m k u 0 q, get_or-set_other gs m k g 0 q) (f k (omega arith)))

-- one taken out
from-below : (k j m : ℕ) → j < m - 1 → from k j < m
from-below k j m h = go (ltb j k)
  where
    go : (b : Bool) → pick b j (j + 1) < m
    go true = omega arith
    go false = omega arith

each_removed : (us gs : List ℕ) (n m k : ℕ) → k < m → m ≤ length us → m ≤ length gs → AllAttached n us gs m → AllAttached n (removed_word us m k) (removed_word gs m k) (m - 1)
each_removed us gs n m k h x y f j l = rw (removed_word_lem us m k j h x l, removed_word_lem gs m k j h y l) (f (from k j) (from-below k j m l))

module _ (ws : List ℕ) (g : Group) (ok : register_ok ws ≡ true) (f : InRange g) where
  -- a record of the register with a group in range put
  put_records : (i k : ℕ) → k < 64 → (k ≢ i → k < group_count ws) → record_ok (record_at (put_group ws i g) k) ≡ true
  put_records i k h l =
      let s = known ws ok in
      same k i
      (λ q. rw (q, put_same ws i (words_of g) (length-words g) (omega arith) s.register-length (in_range_fits g f).small) (record_ok_lem g f))
      (λ q. rw (put_other ws i (words_of g) (length-words g) k q) (s.records k (l q)))

  -- with one more
  add_sound : group_count ws < 64 → Sound (add_group ws g)
  add_sound m =
      let s = known ws ok in
      let l = s.register-length in
      let c = group_count_add_group ws g l m in
      let u = unit_count_add_group ws g l m in
      let n = length_add_group ws g l m in
      record {
        register-length = n ∙ l;
        groups_most = omega arith;
        units_most = omega arith;
        head_in = λ k a b. rw (head_add_group ws g l m k a (omega arith)) (s.head_in k a b);
        records = λ k h. rw (record_add_group ws g l m k) (put_records (group_count ws) k (omega arith) (λ q. omega (arith, q)));
        attached = rw (c, u, unit_column_add_group ws g l m, unit_group_column_add_group ws g l m) (each_more (unit_column ws) (unit_group_column ws) (group_count ws) (unit_count ws) s.attached);
      }

pub sound_put : (ws : List ℕ) (i : ℕ) (g : Group) → register_ok ws ≡ true → InRange g → register_ok (put_group ws i g) ≡ true
sound_put ws i g ok f =
    let s = known ws ok in
    let c = group_count_put ws i g in
    let u = unit_count_put ws i g in
    let n = length-put_group ws i g in
    sound (put_group ws i g) (record {
      register-length = n ∙ s.register-length;
      groups_most = omega arith;
      units_most = omega arith;
      head_in = λ k a b. rw (head_put ws i g k (omega arith)) (s.head_in k a b);
      records = λ k h. put_records ws g ok f i k (omega arith) (λ q. omega arith);
      attached = rw (c, u, unit_column-put ws i g, unit_group_column-put ws i g) s.attached;
    })

pub sound_add_group : (ws : List ℕ) (g : Group) → register_ok ws ≡ true → InRange g → register_ok (add_group ws g) ≡ true
sound_add_group ws g ok f = reach (group_count ws) 64 (λ m. sound (add_group ws g) (add_sound ws g ok f m)) (λ m. rw (add_group_full ws g m) ok)

pub sound_add_unit : (ws : List ℕ) (u g : ℕ) → register_ok ws ≡ true → u ≤ 99_999 → g < group_count ws → register_ok (add_unit ws u g) ≡ true
sound_add_unit ws u g ok a b = reach (unit_count ws) 256 (λ m. sound (add_unit ws u g) (more m)) (λ m. rw (add_unit_full ws u g m) ok)
  where
    more : unit_count ws < 256 → Sound (add_unit ws u g)
    more m =
        let s = known ws ok in
        let l = s.register-length in
        let c = group_count_add_unit ws u g l m in
        let d = unit_count_add_unit ws u g l m in
        let v = length-column ws l in
        let w = length_group_column ws l in
        let x = small_held u (omega arith) in
        let y = small_held g (omega (arith, s.groups_most)) in
        let t : is_attached (group_count ws) (held u) (held g) ≡ true = rw (x, y, le-leb u 99_999 a, lt-ltb g (group_count ws) b) in
        record {
          register-length = length_add_unit ws u g l m ∙ l;
          groups_most = omega (arith, s.groups_most);
          units_most = omega arith;
          head_in = λ k a b. rw (head_add_unit ws u g l m k a (omega arith)) (s.head_in k a b);
          records = λ k h. rw (record_add_unit ws u g l m k) (s.records k (omega arith));
          attached = rw (c, d, unit_column_add_unit ws u g l m, unit_group_column_add_unit ws u g l m) (each_put (unit_column ws) (unit_group_column ws) (group_count ws) (unit_count ws) (held u) (held g) (omega arith) (omega arith) s.attached t);
        }

pub sound_remove_unit : (ws : List ℕ) (u : ℕ) → register_ok ws ≡ true → register_ok (remove_unit ws u) ≡ true
sound_remove_unit ws u ok = go (is_there (find u (units_of ws))) refl
  where
    go : (b : Bool) → is_there (find u (units_of ws)) ≡ b → register_ok (remove_unit ws u) ≡ true
    go false t = rw (remove_absent ws u t) ok
    go true t =
        let s = known ws ok in
        let l = s.register-length in
        let m = s.units_most in
        let c = group_count_remove_unit ws u l m t in
        let d = unit_count_remove_unit ws u l m t in
        let v = length-column ws l in
        let w = length_group_column ws l in
        sound (remove_unit ws u) (record {
          register-length = length_remove_unit ws u l m t ∙ l;
          groups_most = omega (arith, s.groups_most);
          units_most = omega arith;
          head_in = λ k a b. rw (head_remove_unit ws u l m t k a (omega arith)) (s.head_in k a b);
          records = λ k h. rw (record_remove_unit ws u l m t k) (s.records k (omega arith));
          attached = rw (c, d, unit_column_remove_unit ws u l m t, unit_group_column_remove_unit ws u l m t) (each_removed (unit_column ws) (unit_group_column ws) (group_count ws) (unit_count ws) (unit_place ws u) (place-below ws u l m t) (omega arith) (omega arith) s.attached);
        })

-- a word of the header set to one in its range
pub sound_head : (ws : List ℕ) (j x : ℕ) → register_ok ws ≡ true → 2 ≤ j → j < used_head → head_in j x ≡ true → register_ok (set ws j x) ≡ true
sound_head ws j x ok a b h =
    let s = known ws ok in
    let q : j < first_declarer = omega arith in
    let c = group_count_head ws j x a q in
    let u = unit_count_head ws j x a q in
    sound (set ws j x) (record {
      register-length = length-set ws j x ∙ s.register-length;
      groups_most = omega (arith, s.groups_most);
      units_most = omega (arith, s.units_most);
      head_in = λ k l m.
          same k j
          (λ e. rw (e, head_same ws j x a q s.register-length) h)
          (λ e. rw (head_other ws j x a q k e) (s.head_in k l m));
      records = λ k l. rw (record_head ws j x a q k) (s.records k (omega arith));
      attached = rw (c, u, unit_column_head ws j x a q, unit_group_column_head ws j x a q) s.attached;
    })

-- an enrolled group put back as it was read: the register is the same, word for word
pub put_back : (ws : List ℕ) (i : ℕ) → register_ok ws ≡ true → i < group_count ws → put_group ws i (group_at ws i) ≡ ws
put_back ws i ok h =
    let s = known ws ok in
    let l : i < 64 = omega (arith, s.groups_most) in
    ap (put_record ws i) (words_back (record_at ws i) (length_record ws i l s.register-length) (s.records i h))
    ∙ put-own ws i l s.register-length (λ k o. let a = (record_parts (record_at ws i) (s.records i h)).1 k o in let b = most_small k o in omega arith)
