use Rattle.geo_points.proofs.Coordinates.{turned_back}
use Rattle.geo_points.proofs.Lines.{turned-x, turned-y}
use Rattle.geo_points.proofs.Making.{turned_exists, turned_unique}
use Rattle.geo_points.proofs.laws.turned_makes_one_point.Goals as goal

pub returns : goal.returns
returns c = record {
  coordinates = λ U V r Y. (λ h. (turned-x U V r Y h, turned-y U V r Y h), λ h. turned_back U V r Y h.0 h.1);
  exists = turned_exists;
  unique = turned_unique;
}
