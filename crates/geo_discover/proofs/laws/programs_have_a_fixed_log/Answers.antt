use Rattle.geo_discover.proofs.SomeFixedLog.{some_fixed_log}
use Rattle.geo_discover.proofs.laws.programs_have_a_fixed_log.Goals as goal

pub returns : goal.returns
returns c = some_fixed_log
