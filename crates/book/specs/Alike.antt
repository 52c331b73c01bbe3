-- A book is its figures and places are their orders' figures: memory of the same length that reads alike is the same, word for word. So every
-- word of a book or of a place stands for something. And what is put into two memories that are alike leaves them alike. Assumes nothing.
use Rattle.std.specs.Prelude.{ℕ, zero, suc, ◌+◌, ◌*◌, ◌-◌, ◌≤◌, ◌<◌, ◌≡◌, refl, Bool, true, false, List, ltb, length, get_or}
use Rattle.std.proofs.Common.{sym, ap, ◌∙◌, add-one, arith, ltb-true, ltb-false, ext_get_or}
use Rattle.rules.specs.Limits.{top_order, most_groups}
use Rattle.rules.specs.Money.{mils}
use Rattle.rules.specs.declared.kinds.Money.{Money}
use Rattle.book.specs.Layout.{book_length, places_of, accepted_of, money_base, money_at, place_base, place_at, put_place, put_open, place_words}
use Rattle.book.specs.Known.{money_is_lem}
use Rattle.words.specs.Each.{same, reach}
use Rattle.words.specs.Alike.{AlikeAt, alike_at}
use Rattle.book.specs.Laws.{place_is, place-words, place_word_lem, place_same, open_word, open_same, length-put-place, length-put_open}
use Rattle.book.specs.declared.places.Place.{Place}

-- what holds of w words of each of n records holds of every word
pub strides : (P : ℕ → Type 0) (w n : ℕ) → ((k i : ℕ) → k < n → i < w → P (w * k + i)) → (j : ℕ) → j < w * n → P j
strides P w zero h j l = absurd (omega arith)
strides P w (suc n) h j l = go (ltb j (w * n)) refl (strides P w n (λ k i a b. h k i (omega arith) b) j)
  where
    go : (b : Bool) → ltb j (w * n) ≡ b → (j < w * n → P j) → P j
    go true e f = f (ltb-true j (w * n) e)
    go false e f =
        let m : w * n ≤ j = ltb-false j (w * n) e in
        let q : w * n + (j - w * n) ≡ j = omega arith in
        let r : j - w * n < w = omega arith in
        rw q at (h n (j - w * n) (omega arith) r)

-- ---- a book

-- the two words of its header, and the three of each group
book-words : (vs bs : List ℕ) → places_of vs ≡ places_of bs → accepted_of vs ≡ accepted_of bs → ((j : ℕ) → j < 3 * most_groups → AlikeAt vs bs (2 + j)) → (i : ℕ) → i < book_length → AlikeAt vs bs i
book-words vs bs a b m zero l = a
book-words vs bs a b m (suc zero) l = b
book-words vs bs a b m (suc (suc j)) l = alike_at vs bs (suc (suc j)) (2 + j) (omega arith) (m j (omega arith))

-- the three words of a group's money, as they are read
abbrev money_read : List ℕ → ℕ → Money
money_read bs g = record { «open» = mils (get_or bs (money_base g) 0); bought = mils (get_or bs (money_base g + 1) 0); sold = mils (get_or bs (money_base g + 2) 0) }

money_alike : (vs bs : List ℕ) (g i : ℕ) → g < most_groups → i < 3 → money_at vs g ≡ money_at bs g → AlikeAt vs bs (2 + (3 * g + i))
money_alike vs bs g i l q e = go i q
  where
    m : money_read vs g ≡ money_read bs g
    m = sym (money_is_lem vs g l) ∙ e ∙ money_is_lem bs g l

    go : (j : ℕ) → j < 3 → AlikeAt vs bs (2 + (3 * g + j))
    go zero z = alike_at vs bs (2 + (3 * g + 0)) (money_base g) (omega arith) (ap (λ (x : Money). x.«open».0) m)
    go (suc zero) z = alike_at vs bs (2 + (3 * g + 1)) (money_base g + 1) (omega arith) (ap (λ (x : Money). x.bought.0) m)
    go (suc (suc zero)) z = alike_at vs bs (2 + (3 * g + 2)) (money_base g + 2) (omega arith) (ap (λ (x : Money). x.sold.0) m)
    go (suc (suc (suc j))) z = absurd (omega arith)

pub book_alike : (vs bs : List ℕ) → length vs ≡ book_length → length bs ≡ book_length → places_of vs ≡ places_of bs → accepted_of vs ≡ accepted_of bs → ((g : ℕ) → g < most_groups → money_at vs g ≡ money_at bs g) → vs ≡ bs
book_alike vs bs l n a b m =
    ext_get_or 0 vs bs (l ∙ sym n)
    (λ i h. book-words vs bs a b (strides (λ j. AlikeAt vs bs (2 + j)) 3 most_groups (λ g j p q. money_alike vs bs g j p q (m g (omega arith)))) i (omega arith))

-- ---- places

-- the four words of a place, as they are read
abbrev place_read : List ℕ → ℕ → Place
place_read ps k = record { group = get_or ps (place_base k) 0; kind = get_or ps (place_base k + 1) 0; price = mils (get_or ps (place_base k + 2) 0); «open» = get_or ps (place_base k + 3) 0 }

pub place_alike : (vs ps : List ℕ) (k i : ℕ) → k < top_order → i < place_words → place_at vs (suc k) ≡ place_at ps (suc k) → AlikeAt vs ps (place_words * k + i)
place_alike vs ps k i l q e = go i q
  where
    m : place_read vs (suc k) ≡ place_read ps (suc k)
    m = sym (place_is vs (suc k) (omega arith) (omega arith)) ∙ e ∙ place_is ps (suc k) (omega arith) (omega arith)

    go : (j : ℕ) → j < place_words → AlikeAt vs ps (place_words * k + j)
    go zero z = alike_at vs ps (place_words * k + 0) (place_base (suc k)) (omega arith) (ap (λ (x : Place). x.group) m)
    go (suc zero) z = alike_at vs ps (place_words * k + 1) (place_base (suc k) + 1) (omega arith) (ap (λ (x : Place). x.kind) m)
    go (suc (suc zero)) z = alike_at vs ps (place_words * k + 2) (place_base (suc k) + 2) (omega arith) (ap (λ (x : Place). x.price.0) m)
    go (suc (suc (suc zero))) z = alike_at vs ps (place_words * k + 3) (place_base (suc k) + 3) (omega arith) (ap (λ (x : Place). x.«open») m)
    go (suc (suc (suc (suc j)))) z = absurd (omega arith)

-- the places of the first N orders are the same, word for word
pub places_alike : (vs ps : List ℕ) (N : ℕ) → N ≤ top_order → length vs ≡ place_words * N → length ps ≡ place_words * N → ((k : ℕ) → 1 ≤ k → k ≤ N → place_at vs k ≡ place_at ps k) → vs ≡ ps
places_alike vs ps N n l m f =
    ext_get_or 0 vs ps (l ∙ sym m)
    (λ i h. strides (AlikeAt vs ps) place_words N (λ k j p q. place_alike vs ps k j (omega arith) q (f (suc k) (omega arith) (omega arith))) i (omega arith))

-- ---- what is put into places of one length, alike up to order n

-- places of one length, with the same words of the orders 1 to n; what stands above is anything
pub record AlikeBelow (n : ℕ) (vs ps : List ℕ) : Type 0 where
  pub lengths : length vs ≡ length ps
  pub words : (i : ℕ) → i < place_words * n → AlikeAt vs ps i

pub place-below : (n : ℕ) (vs ps : List ℕ) (k : ℕ) → AlikeBelow n vs ps → 1 ≤ k → k ≤ n → place_at vs k ≡ place_at ps k
place-below n vs ps k a h l = place-words vs ps k (λ i p q. a.words i (omega arith))

module _ (n : ℕ) (vs ps : List ℕ) (a : AlikeBelow n vs ps) where
  -- the next place
  pub put-place-below : (p : Place) → n < top_order → place_words * (n + 1) ≤ length ps → AlikeBelow (n + 1) (put_place vs (n + 1) p) (put_place ps (n + 1) p)
  put-place-below p h l = record {
    lengths = length-put-place vs (n + 1) p ∙ a.lengths ∙ sym (length-put-place ps (n + 1) p);
    words = λ i o.
        reach i (place_words * n)
        (λ b. place_word_lem vs (n + 1) p i (λ c. absurd (omega arith)) ∙ a.words i b ∙ sym (place_word_lem ps (n + 1) p i (λ c. absurd (omega arith))))
        (λ b.
        let s : place_at (put_place vs (n + 1) p) (suc n) ≡ place_at (put_place ps (n + 1) p) (suc n) =
        rw (← add-one n) (place_same vs (n + 1) p (omega arith) (omega arith) (omega (arith, a.lengths)) ∙ sym (place_same ps (n + 1) p (omega arith) (omega arith) l)) in
        alike_at (put_place vs (n + 1) p) (put_place ps (n + 1) p) i (place_words * n + (i - place_words * n)) (omega arith) (place_alike (put_place vs (n + 1) p) (put_place ps (n + 1) p) n (i - place_words * n) h (omega arith) s));
  }

  -- the open quantity of one of the orders 1 to n
  pub put_open_below : (k q : ℕ) → 1 ≤ k → k ≤ n → n ≤ top_order → place_words * n ≤ length ps → AlikeBelow n (put_open vs k q) (put_open ps k q)
  put_open_below k q h o t l = record {
    lengths = length-put_open vs k q ∙ a.lengths ∙ sym (length-put_open ps k q);
    words = λ i m.
        same i (place_base k + 3)
        (λ e. rw e (last))
        (λ d. open_word vs k q i d ∙ a.words i m ∙ sym (open_word ps k q i d));
  }
    where
      last : AlikeAt (put_open vs k q) (put_open ps k q) (place_base k + 3)
      last =
          let x = open_same vs k q h (omega arith) (omega (arith, a.lengths)) in
          let y = open_same ps k q h (omega arith) (omega arith) in
          ap (λ (p : Place). p.«open») (sym (place_is (put_open vs k q) k h (omega arith)) ∙ x)
          ∙ ap (λ (p : Place). p.«open») (sym y ∙ place_is (put_open ps k q) k h (omega arith))
