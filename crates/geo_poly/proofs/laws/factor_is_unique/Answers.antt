use Rattle.geo_poly.proofs.FactorDivision.{factor_unique}
use Rattle.geo_poly.proofs.laws.factor_is_unique.Goals as goal

pub returns : goal.returns
returns c = factor_unique
