use Rattle.geo_logs.proofs.OneWalk.{provers_walk_is_unique}
use Rattle.geo_logs.proofs.laws.provers_walk_is_unique.Goals as goal

pub returns : goal.returns
returns c = provers_walk_is_unique
