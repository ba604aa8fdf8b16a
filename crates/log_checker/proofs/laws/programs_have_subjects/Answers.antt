use Rattle.log_checker.proofs.AcceptedBytes.{programs_have_subjects}
use Rattle.log_checker.proofs.laws.programs_have_subjects.Goals as goal

pub returns : goal.returns
returns c = programs_have_subjects
