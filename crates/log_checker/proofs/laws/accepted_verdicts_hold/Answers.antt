use Rattle.log_checker.proofs.ThreeVerdicts.{accepted_verdicts_hold}
use Rattle.log_checker.proofs.laws.accepted_verdicts_hold.Goals as goal

pub returns : goal.returns
returns c = accepted_verdicts_hold
