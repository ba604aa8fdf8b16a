use Rattle.geo_discover.proofs.OneFixedStop.{fixed_log_unique}
use Rattle.geo_discover.proofs.laws.fixed_log_is_unique.Goals as goal

pub returns : goal.returns
returns c = fixed_log_unique
