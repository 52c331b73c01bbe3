-- What a router may count on of a row that is read from a text. The listing that a gate wrote is read back as the rows that the gate hands out
-- (`read_back`); a refusal writes no word (`found_kept`). Assumes nothing.
use Prim.Native.Nat.{ℕ, ◌*◌, ◌<◌}
use Rattle.std.specs.Prelude.{◌≡◌, refl, ◌≢◌, Bool, true, false, not, ◌&&◌, leb, ltb, length, get_or}
use Rattle.std.proofs.Common.{sym, ◌∙◌, arith}
use Rattle.std.proofs.Math.Path.{ap}
use mathlib.Core.List.{List}
use Rattle.std.proofs.lemmas.Bool.{lt-leb}
use Rattle.std.proofs.Math.ListN.{take}
use Rattle.std.proofs.Math.Seq.{paste}
use Rattle.rules.specs.Tests.{pick, both}
use Rattle.rules.specs.Refusals.{not_there_number, malformed_number, short_buffer_number, unless_refused}
use Rattle.rules.specs.Laws.{where_refused, where_accepted}
use Rattle.words.specs.Words.{splice}
use Rattle.quota.specs.Asks.{groups_enrolled}
use Rattle.orders.specs.Host.{host_ok}
use Rattle.columns.specs.Pastes.{front}
use Rattle.rows.specs.Row.{no_row}
use Rattle.rows.specs.declared.Row.{Row}
use Rattle.listing.specs.Text.{listing_text, listing_kept, is_listing, rows_in, row_bytes}
use Rattle.listing.specs.Laws.{length_listing, listing_read}
use Rattle.gate_listing.specs.Listed.{gate_rows, list_refusal, listed}
use Rattle.claim.specs.Step.{Memory}
use Rattle.router.specs.Handed.{listed_bytes, row_length, row_words, handed_refusal, handed_row}
use Rattle.router.specs.Rows.{rows_long, row_reads, room_decides}
use Rattle.router.specs.Texts.{found_refusal, found_row}

-- what a gate lists: the bytes that `ekhurtza_listing` says that it wrote
abbrev pub text_listed : Memory → List ℕ → List ℕ
text_listed m buffer = take (listed_bytes m (length buffer)) (listed m buffer)

-- row k of a text: 21 where it is no listing; else by how many rows it has
pub found_malformed : (t : List ℕ) → is_listing t ≡ false → (k lent : ℕ) → found_refusal t k lent ≡ malformed_number
unfolding found_refusal
found_malformed t h k lent = rw h

module _ (t : List ℕ) (rs : List Row) (h : is_listing t ≡ true) (e : rows_in t ≡ rs) where
  abbrev pub decided : ℕ → ℕ → ℕ
  decided k lent = pick (leb (length rs) k) not_there_number (pick (ltb lent row_length) short_buffer_number 0)

  pub found_decides : (k lent : ℕ) → found_refusal t k lent ≡ decided k lent
  unfolding found_refusal
  found_decides k lent = rw (h, e)

  pub found_words : (k : ℕ) (out : List ℕ) → found_row t k out ≡ unless_refused (decided k (length out)) (splice out 0 (row_words (get_or rs k no_row))) out
  unfolding found_row
  found_words k out =
      ap (λ (q : ℕ). unless_refused q (splice out 0 (row_words (get_or (rows_in t) k no_row))) out) (found_decides k (length out))
      ∙ ap (λ (x : List Row). unless_refused (decided k (length out)) (splice out 0 (row_words (get_or x k no_row))) out) e

clear_of : (a b : Bool) → ◌≡◌ {A = ℕ} (pick (not a) 1 (pick b 22 0)) 0 → a ≡ true
clear_of true b z = refl
clear_of false b z = absurd (omega arith)

module _ (m : Memory) (buffer : List ℕ) (z : list_refusal m (length buffer) ≡ 0) where
  sound : (host_ok m.register m.book m.places ≡ true) × (listing_kept (gate_rows m.register m.book) ≡ true)
  unfolding list_refusal
  sound =
      both (host_ok m.register m.book m.places) (listing_kept (gate_rows m.register m.book))
      (clear_of (host_ok m.register m.book m.places && listing_kept (gate_rows m.register m.book)) (ltb (length buffer) (row_bytes * groups_enrolled m.register)) z)

  long : length (listing_text (gate_rows m.register m.book)) ≡ row_bytes * groups_enrolled m.register
  long = length_listing (gate_rows m.register m.book) ∙ ap (λ (n : ℕ). row_bytes * n) (rows_long m sound.0 sound.1)

  pub text_listed_lem : text_listed m buffer ≡ listing_text (gate_rows m.register m.book)
  unfolding listed_bytes listed
  text_listed_lem =
      let text : List ℕ = listing_text (gate_rows m.register m.book) in
      let n : ℕ = row_bytes * groups_enrolled m.register in
      ap (λ (k : ℕ). take k (listed m buffer)) (where_accepted n 0 (list_refusal m (length buffer)) z)
      ∙ ap (take n) (where_accepted (paste buffer 0 text n) buffer (list_refusal m (length buffer)) z)
      ∙ front buffer text n long

  text_read : (is_listing (text_listed m buffer) ≡ true) × (rows_in (text_listed m buffer) ≡ gate_rows m.register m.book)
  text_read =
      let r = listing_read (gate_rows m.register m.book) sound.1 in
      (ap is_listing text_listed_lem ∙ r.0, ap rows_in text_listed_lem ∙ r.1)

  -- each row that a gate lists is read from the text as `ekhurtza_row` hands it out
  module _ (g : ℕ) (l : g < groups_enrolled m.register) where
    there : g < length (gate_rows m.register m.book)
    there = omega (arith, l, rows_long m sound.0 sound.1)

    pub back_refused : (lent : ℕ) → found_refusal (text_listed m buffer) g lent ≡ handed_refusal m g lent
    back_refused lent =
        let r = row_reads m sound.0 sound.1 g l in
        let rows : List Row = gate_rows m.register m.book in
        let known : pick (leb (length (gate_rows m.register m.book)) g) not_there_number (pick (ltb lent row_length) short_buffer_number 0) ≡ pick (ltb lent row_length) short_buffer_number 0 =
        rw (lt-leb (length (gate_rows m.register m.book)) g there) in
        found_decides (text_listed m buffer) rows text_read.0 text_read.1 g lent ∙ known ∙ sym (room_decides m g (get_or rows g no_row) r.0 r.1 lent)

    pub read_back : (out : List ℕ) → found_row (text_listed m buffer) g out ≡ handed_row m g out
    unfolding found_row handed_row
    read_back out =
        let r = row_reads m sound.0 sound.1 g l in
        ap (λ (q : ℕ). unless_refused q (splice out 0 (row_words (get_or (rows_in (text_listed m buffer)) g no_row))) out) (back_refused (length out))
        ∙ ap (λ (x : List Row). unless_refused (handed_refusal m g (length out)) (splice out 0 (row_words (get_or x g no_row))) out) text_read.1
        ∙ ap (λ (x : Row). unless_refused (handed_refusal m g (length out)) (splice out 0 (row_words x)) out) (sym r.1)

pub found_kept : (text : List ℕ) (k : ℕ) (out : List ℕ) → found_refusal text k (length out) ≢ 0 → found_row text k out ≡ out
unfolding found_row
found_kept text k out n = where_refused (splice out 0 (row_words (get_or (rows_in text) k no_row))) out (found_refusal text k (length out)) n
