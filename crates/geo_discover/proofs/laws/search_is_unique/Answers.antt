use Rattle.geo_discover.proofs.OneSearch.{search_unique}
use Rattle.geo_discover.proofs.laws.search_is_unique.Goals as goal

pub returns : goal.returns
returns c = search_unique
