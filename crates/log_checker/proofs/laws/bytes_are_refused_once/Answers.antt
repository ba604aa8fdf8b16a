use Rattle.log_checker.proofs.OneStop.{bytes_are_refused_once}
use Rattle.log_checker.proofs.laws.bytes_are_refused_once.Goals as goal

pub returns : goal.returns
returns c = bytes_are_refused_once
