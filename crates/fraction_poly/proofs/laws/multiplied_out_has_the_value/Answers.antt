use Rattle.fraction_poly.proofs.TermValues.{values_are_told}
use Rattle.fraction_poly.proofs.laws.multiplied_out_has_the_value.Goals as goal

pub returns : goal.returns
returns c = values_are_told
