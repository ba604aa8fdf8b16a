use Rattle.log_checker.proofs.ThreeVerdicts.{impossible_is_never_met}
use Rattle.log_checker.proofs.laws.impossible_is_never_met.Goals as goal

pub returns : goal.returns
returns c = impossible_is_never_met
