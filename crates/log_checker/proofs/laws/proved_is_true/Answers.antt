use Rattle.log_checker.proofs.ThreeVerdicts.{proved_is_true}
use Rattle.log_checker.proofs.laws.proved_is_true.Goals as goal

pub returns : goal.returns
returns c = proved_is_true
