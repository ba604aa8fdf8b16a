use Rattle.log_checker.proofs.JudgedWhole.{bytes_are_judged}
use Rattle.log_checker.proofs.laws.bytes_are_judged.Goals as goal

pub returns : goal.returns
returns c = bytes_are_judged
