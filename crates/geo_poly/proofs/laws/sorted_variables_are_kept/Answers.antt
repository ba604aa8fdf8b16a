use Rattle.geo_poly.specs.SortedVariables.{IsSorted}
use Rattle.geo_poly.proofs.KeptVariables.{kept_property}
use Rattle.geo_poly.proofs.laws.sorted_variables_are_kept.Goals as goal

pub returns : goal.returns
returns c = kept_property IsSorted
