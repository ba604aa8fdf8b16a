use Rattle.geo_discover.proofs.NoPlacement.{impossible_searches_tell}
use Rattle.geo_discover.proofs.laws.impossible_searches_tell.Goals as goal

pub returns : goal.returns
returns c = impossible_searches_tell
