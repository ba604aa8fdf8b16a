use Rattle.geo_points.proofs.Making.{crossing_exists, crossing_unique}
use Rattle.geo_points.proofs.laws.crossing_makes_one_point.Goals as goal

pub returns : goal.returns
returns c = record { exists = crossing_exists; unique = crossing_unique }
