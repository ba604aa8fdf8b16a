use Rattle.geo_poly.proofs.SortedForms.{sorted_stay}
use Rattle.geo_poly.proofs.laws.sorted_variables_are_canonical.Goals as goal

pub returns : goal.returns
returns c = sorted_stay
