use Rattle.geo_points.proofs.Steps.{along-x, along-y, along_back}
use Rattle.geo_points.proofs.Placed.{along_exists, along_unique}
use Rattle.geo_points.proofs.laws.along_makes_one_point.Goals as goal

pub returns : goal.returns
returns c = record {
  coordinates = λ W U V r Y. (λ h. (along-x W U V r Y h, along-y W U V r Y h), λ h. along_back W U V r Y h.0 h.1);
  exists = along_exists;
  unique = along_unique;
}
