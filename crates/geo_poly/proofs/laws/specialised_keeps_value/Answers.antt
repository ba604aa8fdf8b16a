use Rattle.ring_laws.proofs.Fractions.{fractions}
use Rattle.geo_poly.proofs.SpecialisedLaws.{value-specialised}
use Rattle.geo_poly.proofs.WholeValues.{whole-integer}
use Rattle.geo_poly.proofs.laws.specialised_keeps_value.Goals as goal

pub returns : goal.returns
returns c = λ x v z p h. value-specialised fractions x v z (fractions.same_trans _ _ _ h (whole-integer z)) p
