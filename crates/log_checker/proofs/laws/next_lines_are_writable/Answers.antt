use Rattle.log_checker.proofs.WritableLines.{next_lines_are_writable}
use Rattle.log_checker.proofs.laws.next_lines_are_writable.Goals as goal

pub returns : goal.returns
returns c = next_lines_are_writable
