use Rattle.log_checker.proofs.NoStops.{checkers_meet_no_stop}
use Rattle.log_checker.proofs.checked_laws.checkers_meet_no_stop.Goals as goal

pub returns : goal.returns
returns c = checkers_meet_no_stop
