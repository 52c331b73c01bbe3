-- The lines of a piece, some at a time, one equation each, as tactics use it. Assumes nothing.
use Rattle.std.proofs.Common.{◌≡◌, ap, drop-drop, ℕ, ◌+◌, ◌-◌, ◌≤◌, List, length, take, drop, arith, sym, refl, subst, length-drop}
use Rattle.claim.specs.Step.{Memory}
use Rattle.day.specs.Day.{told, kept_bytes}
use Rattle.day.specs.Whole.{told_all}
use Rattle.day.specs.Laws.{told_used, kept_within}
use Rattle.day.specs.Pieces.{Begun, Done, begin, begun_more, begun-stops, begun_ends, cut_all}

pub kept_fits : (used filled room : ℕ) → kept_bytes used filled room ≤ room
kept_fits used filled room = kept_within used filled room (kept_bytes used filled room) refl

module _ (n : ℕ) (m : Memory) (x : List ℕ) where
  more : Begun x m (0 + (told n m x).used) (told n m x).memory
  more = begun_more x m 0 m (begin x m) n (told n m x).used (told n m x).memory refl refl

  more_used : (told n m x).used + (told_all (told n m x).memory (drop (told n m x).used x)).used ≡ (told_all m x).used
  more_used =
      let z : 0 + (told n m x).used ≡ (told n m x).used = omega arith in
      sym (subst (λ (k : ℕ). (told_all m x).used ≡ k + (told_all (told n m x).memory (drop k x)).used) z more.used)

  more_memory : (told_all (told n m x).memory (drop (told n m x).used x)).memory ≡ (told_all m x).memory
  more_memory =
      let z : 0 + (told n m x).used ≡ (told n m x).used = omega arith in
      sym (subst (λ (k : ℕ). (told_all m x).memory ≡ (told_all (told n m x).memory (drop k x)).memory) z more.memory)

  -- where none is told, none is left
  pub none_used : 1 ≤ n → (told n m x).used ≡ 0 → (told n m x).used ≡ (told_all m x).used
  none_used h z =
      let d : Done x m 0 (told n m x).memory = begun-stops x m 0 m (begin x m) n (told n m x).used (told n m x).memory h refl refl (omega (arith, z)) in
      omega (arith, z, d.used)

  pub none_memory : 1 ≤ n → (told n m x).used ≡ 0 → (told n m x).memory ≡ (told_all m x).memory
  none_memory h z =
      let d : Done x m 0 (told n m x).memory = begun-stops x m 0 m (begin x m) n (told n m x).used (told n m x).memory h refl refl (omega (arith, z)) in
      d.memory

-- n lines of what is cut out from a place to the end, and all behind them
module _ (n : ℕ) (m : Memory) (t : List ℕ) (from : ℕ) where
  cut_used : (x : List ℕ) → x ≡ drop from t → (told n m x).used + (told_all (told n m x).memory (drop (from + (told n m x).used) t)).used ≡ (told_all m (drop from t)).used
  cut_used x e =
      subst (λ (y : List ℕ). (told n m y).used + (told_all (told n m y).memory (drop (from + (told n m y).used) t)).used ≡ (told_all m (drop from t)).used) (sym e)
      (subst (λ (y : List ℕ). (told n m (drop from t)).used + (told_all (told n m (drop from t)).memory y).used ≡ (told_all m (drop from t)).used) (drop-drop (told n m (drop from t)).used from t)
      (more_used n m (drop from t)))

  cut_memory : (x : List ℕ) → x ≡ drop from t → (told_all (told n m x).memory (drop (from + (told n m x).used) t)).memory ≡ (told_all m (drop from t)).memory
  cut_memory x e =
      subst (λ (y : List ℕ). (told_all (told n m y).memory (drop (from + (told n m y).used) t)).memory ≡ (told_all m (drop from t)).memory) (sym e)
      (subst (λ (y : List ℕ). (told_all (told n m (drop from t)).memory y).memory ≡ (told_all m (drop from t)).memory) (drop-drop (told n m (drop from t)).used from t)
      (more_memory n m (drop from t)))

  pub turn_used : (told n m (take (length t - from) (drop from t))).used + (told_all (told n m (take (length t - from) (drop from t))).memory (drop (from + (told n m (take (length t - from) (drop from t))).used) t)).used ≡ (told_all m (drop from t)).used
  turn_used = cut_used (take (length t - from) (drop from t)) (cut_all t from)

  pub turn_memory : (told_all (told n m (take (length t - from) (drop from t))).memory (drop (from + (told n m (take (length t - from) (drop from t))).used) t)).memory ≡ (told_all m (drop from t)).memory
  turn_memory = cut_memory (take (length t - from) (drop from t)) (cut_all t from)

  pub turn_within : from ≤ length t → (told n m (take (length t - from) (drop from t))).used + from ≤ length t
  turn_within h = omega (arith, told_used n m (take (length t - from) (drop from t)), ap length (cut_all t from), length-drop from t)

module _ (m : Memory) (t : List ℕ) (from : ℕ) where
  ends : length t ≤ from → Done (drop from t) m 0 m
  ends h = begun_ends (drop from t) m 0 m (begin (drop from t) m) (omega (arith, length-drop from t))

  -- at the end none is left
  pub ends_used : length t ≤ from → (told_all m (drop from t)).used ≡ 0
  ends_used h = sym (ends h).used

  pub ends_memory : length t ≤ from → (told_all m (drop from t)).memory ≡ m
  ends_memory h = sym (ends h).memory
