use Rattle.log_checker.proofs.WritableLines.{defined_logs_are_writable}
use Rattle.log_checker.proofs.laws.defined_logs_are_writable.Goals as goal

pub returns : goal.returns
returns c = defined_logs_are_writable
