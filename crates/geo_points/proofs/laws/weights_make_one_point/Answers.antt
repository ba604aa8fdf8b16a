use Rattle.geo_points.proofs.Weighted.{weighted-x, weighted-y, weighted_back, weighted_exists, weighted_unique}
use Rattle.geo_points.proofs.laws.weights_make_one_point.Goals as goal

pub returns : goal.returns
returns c = record {
  coordinates = λ O U V r s Y. (λ h. (weighted-x O U V r s Y h, weighted-y O U V r s Y h), λ h. weighted_back O U V r s Y h.0 h.1);
  exists = weighted_exists;
  unique = weighted_unique;
}
