use Rattle.log_checker.proofs.AcceptedBytes.{accepted_bytes_mean}
use Rattle.log_checker.proofs.laws.accepted_bytes_mean.Goals as goal

pub returns : goal.returns
returns c = accepted_bytes_mean
