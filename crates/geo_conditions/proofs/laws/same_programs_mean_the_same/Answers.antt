use Rattle.geo_conditions.proofs.SamePrograms.{same_programs_mean_the_same}
use Rattle.geo_conditions.proofs.laws.same_programs_mean_the_same.Goals as goal

pub returns : goal.returns
returns c = same_programs_mean_the_same
