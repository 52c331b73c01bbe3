-- The table of answers, whole: one theorem, `answered` of proofs/Answered.antt. The definitions that gate and history share are guarded by it and by nothing else that is proved, so
-- every rule has its computed cases here, and every request its own.
use Rattle.history.specs.UnitsAnswered.{UnitsAnswered}
use Rattle.history.specs.DeclarationsAnswered.{DeclarationsAnswered}
use Rattle.history.specs.OrdersAnswered.{OrdersAnswered}
use Rattle.history.specs.RowsShown.{RowsShown}
use Rattle.history.specs.LoadsAnswered.{LoadsAnswered}

pub record Answered : Type 0 where
  pub units : UnitsAnswered
  pub declarations : DeclarationsAnswered
  pub orders : OrdersAnswered
  pub rows : RowsShown
  pub loads : LoadsAnswered
