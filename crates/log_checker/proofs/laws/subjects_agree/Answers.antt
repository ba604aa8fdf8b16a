use Rattle.log_checker.proofs.OneSubject.{subjects_agree}
use Rattle.log_checker.proofs.laws.subjects_agree.Goals as goal

pub returns : goal.returns
returns c = subjects_agree
