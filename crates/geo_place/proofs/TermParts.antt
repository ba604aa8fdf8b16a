-- What is reckoned of a term is what is reckoned of its node.
use Rattle.std.proofs.Common.{◌≡◌, sym, subst}
use Rattle.std.specs.Prelude.{Result, Some, slice_get}
use Rattle.frac_laws.specs.declared.frac.Frac.{Frac}
use Rattle.frac_laws.specs.declared.frac.FracTooLarge.{FracTooLarge}
use Rattle.geo_points.specs.declared.ids.TermId.{TermId}
use Rattle.geo_points.specs.Placements.{Placement}
use Rattle.geo_terms.specs.declared.nodes.Node.{Node}
use Rattle.geo_terms.specs.Stores.{IsStore, Store, node_tree, tree_of, trees_of}
use Rattle.geo_terms.specs.Trees.{Tree}
use Rattle.geo_terms.proofs.Trees.{tree_of-node}
use Rattle.geo_place.specs.Formulas.{reckoned}
use Rattle.geo_place.specs.Reckonings.{HasResult}

pub of_node : (placed : Placement) (nodes : Store) (e : TermId) (node : Node) (r : Result Frac FracTooLarge) → IsStore nodes → slice_get nodes e.0 ≡ Some node
    → HasResult (reckoned placed (node_tree (trees_of nodes) node)) r → HasResult (reckoned placed (tree_of nodes e)) r
of_node placed nodes e node r store at h = subst (λ (t : Tree). HasResult (reckoned placed t) r) (sym (tree_of-node nodes e node store at)) h
