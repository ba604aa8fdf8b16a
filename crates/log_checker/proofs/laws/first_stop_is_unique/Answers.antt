use Rattle.log_checker.proofs.OneStop.{first_stop_is_unique}
use Rattle.log_checker.proofs.laws.first_stop_is_unique.Goals as goal

pub returns : goal.returns
returns c = first_stop_is_unique
