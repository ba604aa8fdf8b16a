use Rattle.geo_logs.proofs.StepsFollowed.{steps_agree}
use Rattle.geo_logs.proofs.laws.steps_agree.Goals as goal

pub returns : goal.returns
returns c = steps_agree
