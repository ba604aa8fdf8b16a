use Rattle.geo_poly.proofs.SortedForms.{forms_are_sorted}
use Rattle.geo_poly.proofs.laws.canonical_forms_are_sorted.Goals as goal

pub returns : goal.returns
returns c = forms_are_sorted
