use Rattle.geo_points.proofs.Making.{foot_exists, foot_unique}
use Rattle.geo_points.proofs.laws.foot_makes_one_point.Goals as goal

pub returns : goal.returns
returns c = record { exists = foot_exists; unique = foot_unique }
