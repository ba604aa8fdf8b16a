use Rattle.log_checker.proofs.AcceptedBytes.{accepted_bytes_tell_programs}
use Rattle.log_checker.proofs.laws.accepted_bytes_tell_programs.Goals as goal

pub returns : goal.returns
returns c = accepted_bytes_tell_programs
