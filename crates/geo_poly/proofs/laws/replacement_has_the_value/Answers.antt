use Rattle.geo_poly.proofs.ReplaceValue.{replacement_value}
use Rattle.geo_poly.proofs.laws.replacement_has_the_value.Goals as goal

pub returns : goal.returns
returns c = replacement_value
