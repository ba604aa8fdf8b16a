use Rattle.geo_terms.proofs.EqualTrees.{equal_indices}
use Rattle.geo_terms.proofs.laws.equal_trees_have_equal_indices.Goals as goal

pub returns : goal.returns
returns c = equal_indices
