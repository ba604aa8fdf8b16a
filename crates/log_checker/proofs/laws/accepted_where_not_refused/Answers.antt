use Rattle.log_checker.proofs.JudgedWhole.{accepted_where_not_refused}
use Rattle.log_checker.proofs.laws.accepted_where_not_refused.Goals as goal

pub returns : goal.returns
returns c = accepted_where_not_refused
