use Rattle.elim_apply.proofs.TableCharges.{denominators_agree}
use Rattle.elim_apply.proofs.laws.table_denominators_agree.Goals as goal

pub returns : goal.returns
returns c = denominators_agree
