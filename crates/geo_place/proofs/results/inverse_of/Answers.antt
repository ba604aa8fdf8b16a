use Rattle.geo_place.specs.Reckonings.{HasResult}
use Rattle.std.proofs.Common.{subst}
use Rattle.geo_place.proofs.ResultLaws.{inverse_result}
use Rattle.geo_place.proofs.results.inverse_of.Goals as goal

pub returns-in-Ok : goal.returns-in-Ok
returns-in-Ok c = λ e h. inverse_result c.in-Ok.x c.inverse.result e c.inverse.ensures (subst (λ r. HasResult e r) c.in-Ok.is h)
