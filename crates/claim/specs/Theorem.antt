-- What the proof of the third demand (proofs/Theorem.antt) is made of. Assumes nothing.
use Prim.Native.Nat.{ℕ, ◌<◌}
use Rattle.std.specs.Prelude.{◌≡◌, length}
use Rattle.std.proofs.Math.Path.{refl, ap}
use Rattle.std.proofs.Math.Bool.{true}
use mathlib.Core.List.{List, [], ◌∷◌}
use native.Mathlib.Omega.{arith}
use Rattle.rules.specs.Quotas.{in_force}
use Rattle.rules.specs.Orders.{Rule, net_of}
use Rattle.rules.specs.declared.quotas.Quota.{Quota}
use Rattle.rules.specs.declared.calls.Call.{Call}
use Rattle.rules.specs.declared.calls.Answer.{Answer}
use Rattle.history.specs.Past.{History}
use Rattle.history.specs.Answers.{refusal_of, answer}
use Rattle.history.specs.Runs.{accept, next, Entry, calls, next_entry, answer_entry}
use Rattle.quota.specs.Asks as asks
use Rattle.register.specs.Layout.{group_count}
use Rattle.orders.specs.Host.{host_ok}
use Rattle.claim.specs.Step.{Memory, step, step_entry}
use Rattle.claim.specs.Relation.{QuotaSim, OrderSim}
use Rattle.claim.specs.QuotaSim as quotas
use Rattle.claim.specs.OrderSim as books
use Rattle.claim.specs.Demand.{run, answers_of, run_all, answers_of_all, RowIs}

-- a gate's memory stands for a history
pub record Sim (N : ℕ) (h : History) (m : Memory) : Type 0 where
  pub quota : QuotaSim h m.register
  pub order : OrderSim N h m.book m.places
  pub host : host_ok m.register m.book m.places ≡ true

-- what a step has to show
pub record Steps (N : ℕ) (rule : Rule) (h : History) (m : Memory) (c : Call) : Type 0 where
  pub same : (step rule m c).answer ≡ answer N rule h c
  pub sim : Sim N (next N rule h c) (step rule m c).memory

pub asked : (h : History) (rs : List ℕ) → QuotaSim h rs → books.Asked h rs
asked h rs s = record {
  sound = quotas.asks_sound h rs s;
  enrolled = quotas.asks_groups h rs s;
  attached-same = quotas.asks_attached h rs s;
  group_same = quotas.asks_group h rs s;
  own_same = quotas.asks_own h rs s;
}

-- ---- entries: calls, and loads

pub record Entered (N : ℕ) (rule : Rule) (h : History) (m : Memory) (e : Entry) : Type 0 where
  pub same : (step_entry rule m e).answer ≡ answer_entry N rule h e
  pub sim : Sim N (next_entry N rule h e) (step_entry rule m e).memory

-- calls alone
module _ (rule : Rule) where
  pub run-calls : (m : Memory) (cs : List Call) → run_all rule m (calls cs) ≡ run rule m cs
  unfolding run_all run calls step_entry
  run-calls m [] = refl
  run-calls m (c ∷ cs) = run-calls (step rule m c).memory cs

  pub answers_of_calls : (m : Memory) (cs : List Call) → answers_of_all rule m (calls cs) ≡ answers_of rule m cs
  unfolding answers_of_all answers_of calls step_entry
  answers_of_calls m [] = refl
  answers_of_calls m (c ∷ cs) = ap (λ (l : List Answer). (step rule m c).answer ∷ l) (answers_of_calls (step rule m c).memory cs)

-- ---- what the simulation gives

pub row_is_lem : (N : ℕ) (h : History) (m : Memory) → Sim N h m → (g : ℕ) → g < length h.groups → RowIs h m g
unfolding asks.own_in_force
row_is_lem N h m s g l =
    let c = quotas.group_counts h m.register s.quota in
    let i : g < group_count m.register = omega arith in
    let q = quotas.quota_same h m.register s.quota g i in
    record {
      code = quotas.code_same h m.register s.quota g i;
      class = quotas.class_same h m.register s.quota g i;
      maximum = ap (λ (z : Quota). z.maximum) q;
      own = ap in_force q;
      money = s.order.money g;
      net = ap net_of (s.order.money g);
    }

-- ---- Shanghai: what an accepted buy leaves

pub next-accepted : (N : ℕ) (rule : Rule) (h : History) (c : Call) → refusal_of N rule h c ≡ 0 → next N rule h c ≡ accept h c
unfolding next
next-accepted N rule h c e = rw e
