use Rattle.geo_conditions.proofs.Decisions.{lists_exist}
use Rattle.geo_conditions.proofs.laws.lists_exist.Goals as goal

pub returns : goal.returns
returns c = lists_exist
