use Rattle.std.proofs.Common.{Contains}
use Rattle.geo_poly.proofs.KeptVariables.{kept_property}
use Rattle.geo_poly.proofs.laws.variables_are_kept.Goals as goal

pub returns : goal.returns
returns c = λ vs. kept_property (Contains vs)
