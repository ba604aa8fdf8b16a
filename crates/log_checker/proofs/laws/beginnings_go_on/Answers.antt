use Rattle.log_checker.proofs.Reached.{beginnings_go_on}
use Rattle.log_checker.proofs.laws.beginnings_go_on.Goals as goal

pub returns : goal.returns
returns c = beginnings_go_on
