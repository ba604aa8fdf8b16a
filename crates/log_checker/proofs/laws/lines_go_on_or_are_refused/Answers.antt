use Rattle.log_checker.proofs.Stepping.{lines_go_on_or_are_refused}
use Rattle.log_checker.proofs.laws.lines_go_on_or_are_refused.Goals as goal

pub returns : goal.returns
returns c = lines_go_on_or_are_refused
