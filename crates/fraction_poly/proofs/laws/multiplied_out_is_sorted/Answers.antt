use Rattle.fraction_poly.proofs.SortedTerms.{multiplied_sorted}
use Rattle.fraction_poly.proofs.laws.multiplied_out_is_sorted.Goals as goal

pub returns : goal.returns
returns c = multiplied_sorted
