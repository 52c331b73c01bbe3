-- `gate_runs::run_from_opening` meets its contract. Assumes nothing.
-- Kept (proof): the clause is a record of all that a run leaves, and `grind` splits it before it cites a law that gives one.
use mathlib.Core.Path.{◌≡◌}
use borrow.Author.Rules.{rules}
use Rattle.rules.specs.Numbers.{number_of, refusal_number}
use Rattle.claim.specs.Step.{memory}
use Rattle.gate_runs.proofs.Started.{wrong_lengths, not_opened, ran}
use Rattle.gate_runs.proofs.run_from_opening.Goals as goal

pub returns-in_err-refusal_of_run : goal.returns-in_err-refusal_of_run
returns-in_err-refusal_of_run c =
    let a = c.args in
    let e = c.in_err-refusal_of_run in
    let n : refusal_number c.from_residual.result ≡ number_of e.field-0.0 = search rules in
    wrong_lengths (memory a.register.now a.book.now a.places.now) a.calls.now a.answers.now e.field-0.0 _ n e.ensures

pub returns-in_err-open : goal.returns-in_err-open
returns-in_err-open c =
    let a = c.args in
    let e = c.in_err-open in
    let n : refusal_number c.from_residual-in_err-open.result ≡ number_of e.field-0.0 = search rules in
    not_opened (memory a.register.now a.book.now a.places.now) a.calls.now a.answers.now c.in_ok-refusal_of_run.ensures
    _ _ e.ensures.register e.ensures.book e.field-0.0 _ n e.ensures.answer

pub returns : goal.returns
returns c =
    let a = c.args in
    let o = c.in_ok-open.ensures in
    ran (memory a.register.now a.book.now a.places.now) a.calls.now a.answers.now c.in_ok-refusal_of_run.ensures
    _ _ o.register o.book _ _ _ o.answer c.run_lent.ensures.answer c.run_lent.ensures.after c.run_lent.ensures.answers
