use Rattle.log_checker.proofs.AcceptedLogs.{accepted_true}
use Rattle.log_checker.proofs.laws.accepted_logs_are_true.Goals as goal

pub returns : goal.returns
returns c = accepted_true
