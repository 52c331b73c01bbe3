-- `register_units::remove_unit` meets its contract. Assumes nothing.
-- Kept (proof): two columns cut, changed and put back one in the other: `grind` makes no instance of the law.
use mathlib.Core.Path.{refl, sym, ◌∙◌}
use Rattle.register.proofs.Steps.{remove_unit_step}
use Rattle.register_units.proofs.remove_unit.Goals as goal

pub returns : goal.returns
returns c =
    let a = c.args in
    remove_unit_step a.register.now a.unit c.if-register-ne-REGISTER.false c.if-n-gt256.false c.in-Some.k (sym c.place_of.ensures ∙ c.in-Some.is)
    _ _ _ c.remove_word.ensures refl c.remove_word-2.ensures
