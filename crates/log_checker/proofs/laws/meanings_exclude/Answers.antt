use Rattle.log_checker.proofs.Meanings.{meanings_exclude}
use Rattle.log_checker.proofs.laws.meanings_exclude.Goals as goal

pub returns : goal.returns
returns c = meanings_exclude
