-- `day::answer_lines` meets its contract. Assumes nothing.
-- Kept (proof): the invariant is a record, `Reached`, and one line more is a text joined to the told ones: no tactic builds it.
use Rattle.std.proofs.Common.{◌≡◌, ◌+◌, ◌/◌, ℕ, length, drop, ◌*◌, arith, refl, ap, subst, ◌∙◌}
use Rattle.std.proofs.Math.Seq.{paste}
use Rattle.rules.specs.declared.calls.Answer.{Answer}
use Rattle.gate.specs.Lent.{memory_in}
use Rattle.day.specs.Day.{line_length, printed}
use Rattle.day.specs.Pieces.{cut_all}
use Rattle.day.proofs.Telling.{Reached, reached_start, reached_on, reached_end, all_answered}
use Rattle.day.proofs.answer_lines.Goals as goal

pub loop-k-init : goal.loop-k-init
loop-k-init c = record { room = refl; same = (refl, refl, refl); told = reached_start (memory_in c.args.gate.now) c.args.text.now c.args.out.now }

pub returns-then-e-text-clause-answered : goal.returns-then-e-text-clause-answered
returns-then-e-text-clause-answered c =
    let a = c.args in
    let l = c.loop-k in
    let m = memory_in a.gate.now in
    let t = a.text.now in
    let ends : l.used + c.line_end.result ≡ l.used + line_length (drop l.used t) = ap (λ (x : ℕ). l.used + x) (c.line_end.ensures.end ∙ ap line_length (cut_all t l.used)) in
    all_answered m t a.out.now l.k l.used _ _ l.invariant.told
    (reached_end m t a.out.now l.k l.used (l.used + c.line_end.result) _ _ l.invariant.told ends (length a.out.now / 10) c.if-e-text.true (omega arith))

pub loop-k-preserved : goal.loop-k-preserved
loop-k-preserved c =
    let a = c.args in
    let l = c.loop-k in
    let m = memory_in a.gate.now in
    let t = a.text.now in
    let ends : l.used + c.line_end.result ≡ l.used + line_length (drop l.used t) = ap (λ (x : ℕ). l.used + x) (c.line_end.ensures.end ∙ ap line_length (cut_all t l.used)) in
    let before = l.invariant.same in
    record {
      room = refl;
      same = (cc, cc, cc);
      told = reached_on m t a.out.now l.k l.used (l.used + c.line_end.result) _ _ l.invariant.told ends _ _ (omega arith) (omega arith)
          c.answer_line-answer.ensures.after.0
          (c.put_printed.ensures ∙ ap (λ (x : Answer). paste l.out (10 * l.k) (printed x) 10) (c.from.ensures ∙ c.answer_line-answer.ensures.answer));
    }

pub returns-clause-answered : goal.returns-clause-answered
returns-clause-answered c =
    let a = c.args in
    let l = c.loop-k in
    let m = memory_in a.gate.now in
    let all : l.k ≡ length a.out.now / 10 = omega arith in
    all_answered m a.text.now a.out.now (length a.out.now / 10) l.used _ _
    (subst (λ (k : ℕ). Reached m a.text.now a.out.now k l.used (memory_in l.gate) l.out) all l.invariant.told) refl
