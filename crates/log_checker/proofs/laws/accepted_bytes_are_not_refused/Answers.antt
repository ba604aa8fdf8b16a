use Rattle.log_checker.proofs.Judged.{accepted_bytes_are_not_refused}
use Rattle.log_checker.proofs.laws.accepted_bytes_are_not_refused.Goals as goal

pub returns : goal.returns
returns c = accepted_bytes_are_not_refused
