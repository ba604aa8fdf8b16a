use Rattle.fraction_poly.proofs.SortedTerms.{forms_sorted}
use Rattle.fraction_poly.proofs.laws.forms_are_sorted.Goals as goal

pub returns : goal.returns
returns c = forms_sorted
