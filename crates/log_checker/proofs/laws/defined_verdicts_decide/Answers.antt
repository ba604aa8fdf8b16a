use Rattle.log_checker.proofs.Decision.{defined_verdicts_decide}
use Rattle.log_checker.proofs.laws.defined_verdicts_decide.Goals as goal

pub returns : goal.returns
returns c = defined_verdicts_decide
