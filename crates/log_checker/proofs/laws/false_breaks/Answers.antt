use Rattle.log_checker.proofs.ThreeVerdicts.{false_breaks}
use Rattle.log_checker.proofs.laws.false_breaks.Goals as goal

pub returns : goal.returns
returns c = false_breaks
