-- How many rows a text has, and the line of a call: put, it is what its definition says. Assumes nothing.
use Prim.Native.Nat.{ℕ, ◌/◌}
use mathlib.Core.Path.{◌≡◌, refl}
use mathlib.Core.Bool.{Bool, true, false, ◌&&◌}
use mathlib.Core.List.{List}
use borrow.Author.Tests.{le-leb, lt-leb, ltb-false, ltb-true}
use lib.Dec.{leb, ltb}
use lib.ListN.{length}
use lib.Seq.{paste}
use Rattle.rules.specs.Tests.{pick}
use Rattle.rules.specs.declared.calls.Call.{Call}
use Rattle.listing.specs.Text.{rows_in, row_bytes}
use Rattle.listing.specs.Laws.{length-rows}
use Rattle.callfile.specs.Lines.{call_text, call_fits, call_put, call_bytes}
use Rattle.router.specs.Texts.{wrote_line}

-- ---- a row of a text

pub count_rows : (t : List ℕ) → length (rows_in t) ≡ length t / row_bytes
unfolding rows_in
count_rows t = length-rows (length t / row_bytes) t

-- ---- a line

pub line_told : (call : Call) (line : List ℕ) → call_put line 0 call ≡ wrote_line call line
unfolding call_put
line_told call line = go (call_fits call) refl (ltb (length line) 39) refl
  where
    go : (a : Bool) → call_fits call ≡ a → (b : Bool) → ltb (length line) 39 ≡ b → call_put line 0 call ≡ wrote_line call line
    go true p true q = rw (p, q, lt-leb 39 (length line) (ltb-true (length line) 39 q))
    go true p false q = rw (p, q, le-leb 39 (length line) (ltb-false (length line) 39 q))
    go false p b q = rw p (never (leb 39 (length line)))
      where
        never : (x : Bool) → pick (x && false) (paste line 0 (call_text call) call_bytes) line ≡ line
        never true = refl
        never false = refl
