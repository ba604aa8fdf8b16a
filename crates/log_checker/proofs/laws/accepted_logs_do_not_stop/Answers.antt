use Rattle.log_checker.proofs.Judged.{accepted_logs_do_not_stop}
use Rattle.log_checker.proofs.laws.accepted_logs_do_not_stop.Goals as goal

pub returns : goal.returns
returns c = accepted_logs_do_not_stop
