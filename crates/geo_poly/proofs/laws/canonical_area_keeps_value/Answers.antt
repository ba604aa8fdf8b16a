use Rattle.geo_poly.proofs.CanonicalAreas.{canonical_area-value}
use Rattle.geo_poly.proofs.laws.canonical_area_keeps_value.Goals as goal

pub returns : goal.returns
returns c = canonical_area-value
