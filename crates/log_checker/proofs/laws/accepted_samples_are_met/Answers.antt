use Rattle.log_checker.proofs.Realised.{accepted_samples_are_met}
use Rattle.log_checker.proofs.laws.accepted_samples_are_met.Goals as goal

pub returns : goal.returns
returns c = accepted_samples_are_met
