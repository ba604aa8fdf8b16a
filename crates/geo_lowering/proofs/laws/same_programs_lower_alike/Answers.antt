use Rattle.geo_lowering.proofs.Alike.{same_programs_lower_alike}
use Rattle.geo_lowering.proofs.laws.same_programs_lower_alike.Goals as goal

pub returns : goal.returns
returns c = same_programs_lower_alike
