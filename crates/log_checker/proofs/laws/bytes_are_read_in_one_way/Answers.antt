use Rattle.log_checker.proofs.Judged.{read_once}
use Rattle.log_checker.proofs.laws.bytes_are_read_in_one_way.Goals as goal

pub returns : goal.returns
returns c = read_once
