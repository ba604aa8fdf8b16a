use Rattle.log_checker.proofs.DefinedBytes.{defined_bytes_are_accepted}
use Rattle.log_checker.proofs.laws.defined_bytes_are_accepted.Goals as goal

pub returns : goal.returns
returns c = defined_bytes_are_accepted
