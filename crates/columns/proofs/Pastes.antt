-- A column of a longer text is read back where it stands: `plain_at_back`, over specs/Pastes.antt. Assumes nothing.
-- Here, and not in specs/, so that a wrong definition is refused by the first theorem that it breaks, and not by those that rest on it.
use Rattle.std.specs.Prelude.{ℕ, ◌+◌, ◌≤◌, ◌≡◌, true, List, ◌++◌, length}
use Rattle.std.proofs.Common.{ap, ◌∙◌, arith, length-append}
use Rattle.columns.specs.Column.{column, fits, read_plain, part, plain_at}
use Rattle.columns.specs.Laws.{length_marked}
use Rattle.columns.proofs.Laws.{plain_back}
use Rattle.columns.specs.Pastes.{behind, plain_read}

-- a column that was written behind a is read there
pub plain_at_back : (t a rest : List ℕ) (at w n : ℕ) → t ≡ a ++ (column w n ++ rest) → length a ≡ at → fits w n ≡ true → plain_at t at w ≡ record { formed = true; number = n }
plain_at_back t a rest at w n e la f =
    let h : at + w ≤ length t = rw e (simp (length-append, length_marked) (omega arith)) in
    plain_read t at w h ∙ ap read_plain (ap (λ (x : List ℕ). part x at w) e ∙ behind a (column w n) rest at w la (length_marked 32 w n)) ∙ plain_back w n f
