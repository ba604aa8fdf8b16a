use Rattle.geo_lowering.proofs.Existing.{programs_have_lowered_forms}
use Rattle.geo_lowering.proofs.laws.programs_have_lowered_forms.Goals as goal

pub returns : goal.returns
returns c = programs_have_lowered_forms
