use Rattle.geo_discover.proofs.SomeSearch.{some_search}
use Rattle.geo_discover.proofs.laws.programs_have_a_search.Goals as goal

pub returns : goal.returns
returns c = some_search
