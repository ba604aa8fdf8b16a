use Rattle.log_checker.proofs.Decision.{defined_logs_are_accepted}
use Rattle.log_checker.proofs.laws.defined_logs_are_accepted.Goals as goal

pub returns : goal.returns
returns c = defined_logs_are_accepted
