use Rattle.std.proofs.Common.{refl}
use Rattle.geo_place.proofs.evaluation.told.Goals as goal

pub returns-in-Err-clause-stops : goal.returns-in-Err-clause-stops
returns-in-Err-clause-stops c = (refl, c.in-Err.ensures.past refl)
