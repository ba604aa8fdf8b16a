use Rattle.geo_poly.proofs.FactorDivision.{factor_quotient}
use Rattle.geo_poly.proofs.laws.factor_divides.Goals as goal

pub returns : goal.returns
returns c = factor_quotient
