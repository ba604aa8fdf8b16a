use Rattle.log_checker.proofs.JudgedWhole.{rests_are_judged}
use Rattle.log_checker.proofs.laws.rests_are_judged.Goals as goal

pub returns : goal.returns
returns c = rests_are_judged
