use Rattle.log_checker.proofs.Reached.{defined_log_exists}
use Rattle.log_checker.proofs.laws.defined_log_exists.Goals as goal

pub returns : goal.returns
returns c = defined_log_exists
