use Rattle.geo_points.proofs.Exchange.{signed_area-same, pythagoras_difference-same, HasRatio-same, ratio-same}
use Rattle.geo_points.proofs.laws.quantities_are_of_points.Goals as goal

pub returns : goal.returns
returns g = record {
  areas = signed_area-same;
  differences = pythagoras_difference-same;
  ratios = λ A B C D A' B' C' D' a b c d h. (HasRatio-same A B C D A' B' C' D' a b c d h, ratio-same A B C D A' B' C' D' a b c d h);
}
