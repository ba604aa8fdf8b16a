use Rattle.geo_terms.proofs.Trees.{tree_of-append}
use Rattle.geo_terms.proofs.laws.other_trees_stay.Goals as goal

pub returns : goal.returns
returns c = tree_of-append
