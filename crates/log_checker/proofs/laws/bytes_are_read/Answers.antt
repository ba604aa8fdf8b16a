use Rattle.log_checker.proofs.ReadLines.{bytes_are_read}
use Rattle.log_checker.proofs.laws.bytes_are_read.Goals as goal

pub returns : goal.returns
returns c = bytes_are_read
