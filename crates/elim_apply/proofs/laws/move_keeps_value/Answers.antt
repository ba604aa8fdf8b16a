use Rattle.elim_apply.proofs.KeptValues.{value_kept}
use Rattle.elim_apply.proofs.laws.move_keeps_value.Goals as goal

pub returns : goal.returns
returns c = value_kept
