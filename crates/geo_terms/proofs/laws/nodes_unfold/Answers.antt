use Rattle.geo_terms.proofs.Trees.{tree_of-node}
use Rattle.geo_terms.proofs.laws.nodes_unfold.Goals as goal

pub returns : goal.returns
returns c = tree_of-node
