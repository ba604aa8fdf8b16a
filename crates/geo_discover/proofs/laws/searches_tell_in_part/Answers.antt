use Rattle.geo_discover.proofs.PartlyTold.{searches_tell_in_part}
use Rattle.geo_discover.proofs.laws.searches_tell_in_part.Goals as goal

pub returns : goal.returns
returns c = searches_tell_in_part
