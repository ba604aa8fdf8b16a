use Rattle.log_checker.proofs.AcceptedBytes.{programs_have_defined_logs}
use Rattle.log_checker.proofs.laws.programs_have_defined_logs.Goals as goal

pub returns : goal.returns
returns c = programs_have_defined_logs
