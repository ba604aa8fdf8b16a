use Rattle.geo_place.specs.Reckonings.{HasResult}
use Rattle.std.proofs.Common.{subst}
use Rattle.geo_place.proofs.ResultLaws.{opposite_result}
use Rattle.geo_place.proofs.results.opposite_of.Goals as goal

pub returns-in-Ok : goal.returns-in-Ok
returns-in-Ok c = λ e h. opposite_result c.in-Ok.x c.opposite.result e c.opposite.ensures (subst (λ r. HasResult e r) c.in-Ok.is h)
