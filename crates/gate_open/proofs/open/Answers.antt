-- `gate_open::open` meets its contract. Assumes nothing.
-- Kept (proof): the ratios are put into a register that was filled: `grind` does not join the two over 2,000 words.
use Rattle.claim.specs.Step.{memory}
use Rattle.gate_open.proofs.Opened.{register_opened}
use Rattle.gate_open.proofs.open.Goals as goal

pub returns-clause-register : goal.returns-clause-register
returns-clause-register c =
    let a = c.args in
    register_opened (memory a.register.now a.book.now a.places.now) _ _ _ c.in_ok-refusal_of_opening.ensures (c.fill-2.ensures.after (λ _ e. e)) c.old.ensures c.put_ratios.ensures
