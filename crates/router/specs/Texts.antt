-- Texts that a router reads and writes: a row of a listing as plain numbers, and a call as its line. The listing's text is defined in
-- listing/specs/Text.antt, the call's in callfile/specs/Lines.antt.
use Rattle.std.specs.Prelude.{ℕ, not, List, [], ◌∷◌, leb, ltb, length, get_or}
use Rattle.std.proofs.Math.Seq.{paste}
use Rattle.rules.specs.Codes.{call_of}
use Rattle.rules.specs.Refusals.{out_of_range_number, not_there_number, malformed_number, short_buffer_number, refusal, unless_refused}
use Rattle.rules.specs.declared.calls.Call.{Call}
use Rattle.words.specs.Words.{splice}
use Rattle.rows.specs.Row.{no_row}
use Rattle.listing.specs.Text.{is_listing, rows_in}
use Rattle.callfile.specs.Lines.{call_text, call_fits, call_bytes}
use Rattle.router.specs.Handed.{row_length, row_words}

-- ---- row k of a listing, counted from 0

-- 21 where the text is no listing, 6 where it has no row k, 22 where fewer than 9 words are lent
unfoldable pub found_refusal : List ℕ → ℕ → ℕ → ℕ
found_refusal text k lent =
    refusal ((malformed_number, not (is_listing text)) ∷ (not_there_number, leb (length (rows_in text)) k) ∷ (short_buffer_number, ltb lent row_length) ∷ [])

-- every lent word afterwards
unfoldable pub found_row : List ℕ → ℕ → List ℕ → List ℕ
found_row text k out = unless_refused (found_refusal text k (length out)) (splice out 0 (row_words (get_or (rows_in text) k no_row))) out

-- ---- the line of a call, with its line feed

-- 2 where the code is no call's or a field that the call uses does not fit nine columns, 22 where fewer than 39 bytes are lent
abbrev pub wrote_refusal : Call → ℕ → ℕ
wrote_refusal call lent = refusal ((out_of_range_number, not (call_fits call)) ∷ (short_buffer_number, ltb lent call_bytes) ∷ [])

abbrev pub wrote_line : Call → List ℕ → List ℕ
wrote_line call line = unless_refused (wrote_refusal call (length line)) (paste line 0 (call_text call) call_bytes) line

unfoldable pub line_refusal : ℕ → ℕ → ℕ → ℕ → ℕ → ℕ → ℕ
line_refusal code a b c d lent = wrote_refusal (call_of code a b c d) lent

-- every lent byte afterwards
unfoldable pub line_put : ℕ → ℕ → ℕ → ℕ → ℕ → List ℕ → List ℕ
line_put code a b c d line = wrote_line (call_of code a b c d) line
