use Rattle.geo_lowering.proofs.Alike.{lowered_forms_agree}
use Rattle.geo_lowering.proofs.laws.lowered_forms_agree.Goals as goal

pub returns : goal.returns
returns c = lowered_forms_agree
