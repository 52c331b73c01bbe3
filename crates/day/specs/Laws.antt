-- Laws of the lines told. Assumes nothing.
use Rattle.std.specs.Prelude.{ℕ, zero, suc, ◌+◌, ◌-◌, ◌≤◌, min, ◌≡◌, refl, Bool, true, false, List, leb, length, take, drop}
use Rattle.std.proofs.Common.{arith, leb-true, ltb-true, length-drop, length-take-le}
use Rattle.rules.specs.Tests.{pick}
use Rattle.claim.specs.Step.{Memory}
use Rattle.day.specs.Day.{line_step, line_length, is_whole, first_line, behind_line, Told, none_told, before, told, kept_bytes}
use Rattle.callfile.specs.Lines.{call_bytes}

-- the lines told are bytes of the text
pub told_used : (n : ℕ) (m : Memory) (t : List ℕ) → (told n m t).used ≤ length t
unfolding told
told_used zero m t = omega arith
told_used (suc n) m t = go (told_used n (line_step m (first_line t)).memory (behind_line t)) (is_whole t) refl
  where
    rest : Told
    rest = told n (line_step m (first_line t)).memory (behind_line t)

    go : rest.used ≤ length (behind_line t) → (b : Bool) → is_whole t ≡ b → (pick b (before (line_step m (first_line t)) (line_length t) rest) (none_told m)).used ≤ length t
    go ih true w = omega (arith, ih, length-drop (suc (line_length t)) t, ltb-true (line_length t) (length t) w)
    go ih false w = omega arith

-- the lines told of what stands from a place on
pub told-within : (n : ℕ) (m : Memory) (t : List ℕ) (at : ℕ) → at ≤ length t → at + (told n m (take (length t - at) (drop at t))).used ≤ length t
told-within n m t at h =
    let d : length (drop at t) ≡ length t - at = length-drop at t in
    let l : length (take (length t - at) (drop at t)) ≡ length t - at = length-take-le (length t - at) (drop at t) (omega arith) in
    omega (arith, told_used n m (take (length t - at) (drop at t)), l)

-- what is kept is in the buffer
pub kept_within : (used filled room kept : ℕ) → kept ≡ kept_bytes used filled room → kept ≤ room
unfolding kept_bytes
kept_within used filled room kept p = go (leb filled room) refl p
  where
    go : (b : Bool) → leb filled room ≡ b → kept ≡ pick b (min (filled - used) call_bytes) 0 → kept ≤ room
    go true e q = omega (arith, leb-true filled room e, q)
    go false e q = omega (arith, q)
