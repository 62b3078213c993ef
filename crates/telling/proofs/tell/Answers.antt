-- The answer of a call with one single result. Assumes nothing.
use Rattle.std.proofs.Common.{refl, ap}
use Rattle.orders.specs.Refusals.{says}
use Rattle.telling.specs.Telling.{gave, kept_back}
use Rattle.telling.proofs.tell.Goals as goal

pub returns-in-Ok : goal.returns-in-Ok
returns-in-Ok g c = gave _ (ap says c.in-Ok.is) refl refl

pub returns-in-Err : goal.returns-in-Err
returns-in-Err g c = kept_back _ _ (ap says c.in-Err.is) c.number.ensures refl
