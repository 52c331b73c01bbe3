-- The table of answers, whole: `answered`, over specs/Answered.antt. Assumes nothing.
-- Here, and not in specs/, so that a wrong definition is refused by the first theorem that it breaks, and not by those that rest on it.
use Rattle.history.specs.UnitsAnswered.{units_answered}
use Rattle.history.specs.DeclarationsAnswered.{declarations_answered}
use Rattle.history.specs.OrdersAnswered.{orders_answered}
use Rattle.history.specs.RowsShown.{rows_shown}
use Rattle.history.specs.LoadsAnswered.{loads_answered}
use Rattle.history.specs.Answered.{Answered}

pub answered : Answered
answered = record { units = units_answered; declarations = declarations_answered; orders = orders_answered; rows = rows_shown; loads = loads_answered }
