-- The laws of one row: its text is read back (`row-good`, `row_back`), and no other text is read as it (`good_text`, `good_kept`). Assumes nothing.
use Rattle.std.specs.Prelude.{ℕ, ◌+◌, ◌≤◌, ◌≡◌, refl, Bool, true, false, ◌&&◌, List, [], ◌∷◌, ◌++◌, eqb, leb, length, take, Some, None}
use Rattle.std.proofs.Common.{ap, sym, ◌∙◌, arith, leb-true, le-leb, eqb-true, take_all, take-add}
use Rattle.std.proofs.lemmas.Bool.{false≢true}
use Rattle.rules.specs.Tests.{pick, both}
use Rattle.rules.specs.Limits.{top_quota, top_money}
use Rattle.rules.specs.Money.{Limit, millions}
use Rattle.columns.specs.Column.{marked, column, dashed, optional_text, signed_text, fits, optional_fits, signed_fits, same, read_plain, read_optional, read_signed, part, plain_at, optional_at, signed_at, same_at}
use Rattle.columns.specs.Laws.{true_fits, plain_only, optional_only, signed_only, same_refl, same_true}
use Rattle.columns.proofs.Laws.{plain_back, optional_back, signed_back}
use Rattle.columns.specs.Pastes.{length_part, plain_read, optional_read, signed-read}
use Rattle.columns.specs.Reading.{Plain}
use Rattle.columns.specs.Reading.{Optional}
use Rattle.columns.specs.Reading.{Signed}
use Rattle.rows.specs.Row.{limits_kept, row_kept}
use Rattle.rows.specs.Kept.{Ruled, ruled}
use Rattle.rows.specs.declared.Row.{Row}
use Rattle.listing.specs.Text.{is_set, millions_in, limit_text, row_text, limit_of, row_in, row_formed, row_good, row_bytes}

-- ---- the rules of a row, as what has room in the columns

limit_fits : (maximum own : Limit) → limits_kept maximum own ≡ true
    → (optional_fits 8 (is_set maximum) (millions_in maximum) ≡ true) × (optional_fits 8 (is_set own) (millions_in own) ≡ true)
limit_fits None None h = (refl, refl)
limit_fits None (Some o) h = absurd (false≢true h)
limit_fits (Some m) None h = absurd (false≢true (both (leb m.0 top_quota) false h).1)
limit_fits (Some m) (Some o) h =
    let b = both (leb m.0 top_quota) (leb o.0 m.0) h in
    let w : m.0 ≤ top_quota = leb-true m.0 top_quota b.0 in
    let l : o.0 ≤ m.0 = leb-true o.0 m.0 b.1 in
    (true_fits 8 m.0 (omega arith) (omega arith), true_fits 8 o.0 (omega arith) (omega arith))

net_fits : (below : Bool) (n : ℕ) → n ≤ top_money → (below ≡ true → 1 ≤ n) → signed_fits 21 below n ≡ true
net_fits true n h s =
    let one : 1 ≤ n = s refl in
    rw (le-leb 1 n one) (true_fits 20 n (omega arith) (omega arith))
net_fits false n h s = true_fits 21 n (omega arith) (omega arith)

pub record Fitting (r : Row) : Type 0 where
  pub code : fits 5 r.code ≡ true
  pub class : fits 2 r.class ≡ true
  pub maximum : optional_fits 8 (is_set r.maximum) (millions_in r.maximum) ≡ true
  pub own : optional_fits 8 (is_set r.own) (millions_in r.own) ≡ true
  pub net : signed_fits 21 r.below r.net.0 ≡ true
  pub pending : fits 21 r.money.«open».0 ≡ true
  pub bought : fits 21 r.money.bought.0 ≡ true
  pub sold : fits 21 r.money.sold.0 ≡ true

pub fitting : (r : Row) → row_kept r ≡ true → Fitting r
fitting r h =
    let k : Ruled r = ruled r h in
    let limits = limit_fits r.maximum r.own k.limits in
    record {
      code = true_fits 5 r.code (omega arith) (omega arith);
      class = true_fits 2 r.class (omega arith) (omega arith);
      maximum = limits.0;
      own = limits.1;
      net = net_fits r.below r.net.0 k.net k.below;
      pending = true_fits 21 r.money.«open».0 (omega arith) (omega arith);
      bought = true_fits 21 r.money.bought.0 (omega arith) (omega arith);
      sold = true_fits 21 r.money.sold.0 (omega arith) (omega arith);
    }

-- ---- the columns of a row's text

abbrev text_of : ℕ → ℕ → Limit → Limit → Bool → ℕ → ℕ → ℕ → ℕ → List ℕ
text_of code class maximum own below net pending bought sold =
    column 5 code ++ column 2 class ++ limit_text maximum ++ limit_text own ++ signed_text 21 below net ++ column 21 pending ++ column 21 bought ++ column 21 sold ++ (10 ∷ [])

record Columns (t : List ℕ) (code class : ℕ) (maximum own : Limit) (below : Bool) (net pending bought sold : ℕ) : Type 0 where
  size : length t ≡ row_bytes
  code_at : part t 0 5 ≡ column 5 code
  class_at : part t 5 2 ≡ column 2 class
  maximum_at : part t 7 8 ≡ limit_text maximum
  own_at : part t 15 8 ≡ limit_text own
  net_at : part t 23 21 ≡ signed_text 21 below net
  pending_at : part t 44 21 ≡ column 21 pending
  bought-at : part t 65 21 ≡ column 21 bought
  sold-at : part t 86 21 ≡ column 21 sold
  end_at : part t 107 1 ≡ 10 ∷ []

columns : (code class : ℕ) (maximum own : Limit) (below : Bool) (net pending bought sold : ℕ)
    → Columns (text_of code class maximum own below net pending bought sold) code class maximum own below net pending bought sold
unfolding marked dashed
columns code class None None below net pending bought sold =
    record { size = refl; code_at = refl; class_at = refl; maximum_at = refl; own_at = refl; net_at = refl; pending_at = refl; bought-at = refl; sold-at = refl; end_at = refl }
columns code class None (Some o) below net pending bought sold =
    record { size = refl; code_at = refl; class_at = refl; maximum_at = refl; own_at = refl; net_at = refl; pending_at = refl; bought-at = refl; sold-at = refl; end_at = refl }
columns code class (Some m) None below net pending bought sold =
    record { size = refl; code_at = refl; class_at = refl; maximum_at = refl; own_at = refl; net_at = refl; pending_at = refl; bought-at = refl; sold-at = refl; end_at = refl }
columns code class (Some m) (Some o) below net pending bought sold =
    record { size = refl; code_at = refl; class_at = refl; maximum_at = refl; own_at = refl; net_at = refl; pending_at = refl; bought-at = refl; sold-at = refl; end_at = refl }

columns_of : (r : Row) → Columns (row_text r) r.code r.class r.maximum r.own r.below r.net.0 r.money.«open».0 r.money.bought.0 r.money.sold.0
unfolding row_text
columns_of r = columns r.code r.class r.maximum r.own r.below r.net.0 r.money.«open».0 r.money.bought.0 r.money.sold.0

pub length-row : (r : Row) → length (row_text r) ≡ row_bytes
length-row r = (columns_of r).size

-- ---- what is written is read back

module _ (t : List ℕ) (at w : ℕ) (h : at + w ≤ length t) where
  plain_there : (n : ℕ) → part t at w ≡ column w n → fits w n ≡ true → plain_at t at w ≡ record { formed = true; number = n }
  plain_there n e f = plain_read t at w h ∙ ap read_plain e ∙ plain_back w n f

  signed_there : (below : Bool) (n : ℕ) → part t at w ≡ signed_text w below n → signed_fits w below n ≡ true → signed_at t at w ≡ record { formed = true; below = below; size = n }
  signed_there below n e f = signed-read t at w h ∙ ap read_signed e ∙ signed_back w below n f

  limit_there : (limit : Limit) → part t at w ≡ optional_text w (is_set limit) (millions_in limit) → optional_fits w (is_set limit) (millions_in limit) ≡ true
      → ((optional_at t at w).formed ≡ true) × (limit_of (optional_at t at w) ≡ limit)
  limit_there limit e f =
      let o = optional_read t at w h ∙ ap read_optional e ∙ optional_back w (is_set limit) (millions_in limit) f in
      (ap (λ (x : Optional). x.formed) o, ap limit_of o ∙ same_limit limit)
    where
      same_limit : (l : Limit) → limit_of (record { formed = true; present = is_set l; number = pick (is_set l) (millions_in l) 0 }) ≡ l
      same_limit None = refl
      same_limit (Some q) = refl

end_there : (t : List ℕ) → length t ≡ row_bytes → part t 107 1 ≡ 10 ∷ [] → same_at t 107 (10 ∷ []) ≡ true
unfolding same_at
end_there t l e = rw (l, e, same_refl (10 ∷ []))

record Back (r : Row) : Type 0 where
  formed : row_formed (row_text r) ≡ true
  row : row_in (row_text r) ≡ r

back : (r : Row) → row_kept r ≡ true → Back r
unfolding row_in row_formed
back r h =
    let t : List ℕ = row_text r in
    let k : Columns t r.code r.class r.maximum r.own r.below r.net.0 r.money.«open».0 r.money.bought.0 r.money.sold.0 = columns_of r in
    let f : Fitting r = fitting r h in
    let l : length (row_text r) ≡ row_bytes = length-row r in
    let code = plain_there t 0 5 (omega arith) r.code k.code_at f.code in
    let class = plain_there t 5 2 (omega arith) r.class k.class_at f.class in
    let maximum = limit_there t 7 8 (omega arith) r.maximum k.maximum_at f.maximum in
    let own = limit_there t 15 8 (omega arith) r.own k.own_at f.own in
    let net = signed_there t 23 21 (omega arith) r.below r.net.0 k.net_at f.net in
    let pending = plain_there t 44 21 (omega arith) r.money.«open».0 k.pending_at f.pending in
    let bought = plain_there t 65 21 (omega arith) r.money.bought.0 k.bought-at f.bought in
    let sold = plain_there t 86 21 (omega arith) r.money.sold.0 k.sold-at f.sold in
    record {
      formed = rw (code, class, maximum.0, own.0, net, pending, bought, sold, end_there t l k.end_at);
      row = rw (code, class, maximum.1, own.1, net, pending, bought, sold);
    }

pub row_back : (r : Row) → row_kept r ≡ true → row_in (row_text r) ≡ r
row_back r h = (back r h).row

pub row-good : (r : Row) → row_kept r ≡ true → row_good (row_text r) ≡ true
unfolding row_good
row-good r h = rw (length-row r, (back r h).formed, row_back r h, h)

-- ---- no other text is read

module _ (t : List ℕ) (at w : ℕ) (h : at + w ≤ length t) where
  plain_text : (plain_at t at w).formed ≡ true → part t at w ≡ column w (plain_at t at w).number
  plain_text f =
      let e = plain_read t at w h in
      let o = plain_only (part t at w) (sym (ap (λ (x : Plain). x.formed) e) ∙ f) in
      o.0 ∙ ap (λ (k : ℕ). column k (read_plain (part t at w)).number) (length_part t at w h) ∙ ap (λ (x : Plain). column w x.number) (sym e)

  signed_text_lem : (signed_at t at w).formed ≡ true → part t at w ≡ signed_text w (signed_at t at w).below (signed_at t at w).size
  signed_text_lem f =
      let e = signed-read t at w h in
      let o = signed_only (part t at w) (sym (ap (λ (x : Signed). x.formed) e) ∙ f) in
      o.0 ∙ ap (λ (k : ℕ). signed_text k (read_signed (part t at w)).below (read_signed (part t at w)).size) (length_part t at w h)
      ∙ ap (λ (x : Signed). signed_text w x.below x.size) (sym e)

  limit_text_lem : (optional_at t at w).formed ≡ true → part t at w ≡ optional_text w (is_set (limit_of (optional_at t at w))) (millions_in (limit_of (optional_at t at w)))
  limit_text_lem f =
      let e = optional_read t at w h in
      let o = optional_only (part t at w) (sym (ap (λ (x : Optional). x.formed) e) ∙ f) in
      o.0 ∙ ap (λ (k : ℕ). optional_text k (read_optional (part t at w)).present (read_optional (part t at w)).number) (length_part t at w h)
      ∙ ap (λ (x : Optional). optional_text w x.present x.number) (sym e) ∙ same_text (optional_at t at w).present (optional_at t at w).number
    where
      same_text : (b : Bool) (n : ℕ) → optional_text w b n ≡ optional_text w (is_set (pick b (Some (millions n)) None)) (millions_in (pick b (Some (millions n)) None))
      same_text true n = refl
      same_text false n = refl

end_text : (t : List ℕ) → same_at t 107 (10 ∷ []) ≡ true → part t 107 1 ≡ 10 ∷ []
unfolding same_at
end_text t h = same_true (part t 107 1) (10 ∷ []) (both (leb row_bytes (length t)) (same (part t 107 1) (10 ∷ [])) h).1

-- one column more of a text
grown : (t a b : List ℕ) (m n : ℕ) → take m t ≡ a → part t m n ≡ b → take (m + n) t ≡ a ++ b
grown t a b m n e f = take-add m n t ∙ ap (λ (x : List ℕ). x ++ part t m n) e ∙ ap (λ (x : List ℕ). a ++ x) f

nine : (a b c d e f g h i : Bool) → (a && b && c && d && e && f && g && h && i) ≡ true
    → (a ≡ true) × ((b ≡ true) × ((c ≡ true) × ((d ≡ true) × ((e ≡ true) × ((f ≡ true) × ((g ≡ true) × ((h ≡ true) × (i ≡ true))))))))
nine a b c d e f g h i p =
    let p₈ = both (a && b && c && d && e && f && g && h) i p in
    let p₇ = both (a && b && c && d && e && f && g) h p₈.0 in
    let p₆ = both (a && b && c && d && e && f) g p₇.0 in
    let p₅ = both (a && b && c && d && e) f p₆.0 in
    let p₄ = both (a && b && c && d) e p₅.0 in
    let p₃ = both (a && b && c) d p₄.0 in
    let p₂ = both (a && b) c p₃.0 in
    let p₁ = both a b p₂.0 in
    (p₁.0, (p₁.1, (p₂.1, (p₃.1, (p₄.1, (p₅.1, (p₆.1, (p₇.1, p₈.1))))))))

record Formed (t : List ℕ) : Type 0 where
  code : (plain_at t 0 5).formed ≡ true
  class : (plain_at t 5 2).formed ≡ true
  maximum : (optional_at t 7 8).formed ≡ true
  own : (optional_at t 15 8).formed ≡ true
  net : (signed_at t 23 21).formed ≡ true
  pending : (plain_at t 44 21).formed ≡ true
  bought : (plain_at t 65 21).formed ≡ true
  sold : (plain_at t 86 21).formed ≡ true
  end : same_at t 107 (10 ∷ []) ≡ true

each_formed : (t : List ℕ) → row_formed t ≡ true → Formed t
unfolding row_formed
each_formed t h =
    let a =
    nine (plain_at t 0 5).formed (plain_at t 5 2).formed (optional_at t 7 8).formed (optional_at t 15 8).formed (signed_at t 23 21).formed
    (plain_at t 44 21).formed (plain_at t 65 21).formed (plain_at t 86 21).formed (same_at t 107 (10 ∷ [])) h in
    record {
      code = a.0;
      class = a.1.0;
      maximum = a.1.1.0;
      own = a.1.1.1.0;
      net = a.1.1.1.1.0;
      pending = a.1.1.1.1.1.0;
      bought = a.1.1.1.1.1.1.0;
      sold = a.1.1.1.1.1.1.1.0;
      end = a.1.1.1.1.1.1.1.1;
    }

formed_text : (t : List ℕ) → length t ≡ row_bytes → row_formed t ≡ true → t ≡ row_text (row_in t)
unfolding row_in row_text
formed_text t l h =
    let f : Formed t = each_formed t h in
    let g₁ = plain_text t 0 5 (omega arith) f.code in
    let g₂ = grown t _ _ 5 2 g₁ (plain_text t 5 2 (omega arith) f.class) in
    let g₃ = grown t _ _ 7 8 g₂ (limit_text_lem t 7 8 (omega arith) f.maximum) in
    let g₄ = grown t _ _ 15 8 g₃ (limit_text_lem t 15 8 (omega arith) f.own) in
    let g₅ = grown t _ _ 23 21 g₄ (signed_text_lem t 23 21 (omega arith) f.net) in
    let g₆ = grown t _ _ 44 21 g₅ (plain_text t 44 21 (omega arith) f.pending) in
    let g₇ = grown t _ _ 65 21 g₆ (plain_text t 65 21 (omega arith) f.bought) in
    let g₈ = grown t _ _ 86 21 g₇ (plain_text t 86 21 (omega arith) f.sold) in
    let g₉ = grown t _ _ 107 1 g₈ (end_text t f.end) in
    sym (take_all row_bytes t (omega arith)) ∙ g₉

module _ (t : List ℕ) (h : row_good t ≡ true) where
  parts-good : (length t ≡ row_bytes) × ((row_formed t ≡ true) × (row_kept (row_in t) ≡ true))
  unfolding row_good
  parts-good =
      let b = both (eqb (length t) row_bytes) (row_formed t && row_kept (row_in t)) h in
      (eqb-true (length t) row_bytes b.0, both (row_formed t) (row_kept (row_in t)) b.1)

  pub good_text : t ≡ row_text (row_in t)
  good_text = formed_text t parts-good.0 parts-good.1.0

  pub good_kept : row_kept (row_in t) ≡ true
  good_kept = parts-good.1.1
