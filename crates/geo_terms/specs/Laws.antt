-- What the trees of a store are.
use Rattle.std.specs.Prelude.{◌≡◌, ◌<◌, ◌++◌, Some, length, slice_get}
use Rattle.geo_points.specs.declared.ids.TermId.{TermId}
use Rattle.geo_terms.specs.declared.nodes.Node.{Node}
use Rattle.geo_terms.specs.Stores.{Store, IsStore, node_tree, tree_of, trees_of}

-- an index unfolds to the tree of its node over the trees of the node's parts
abbrev pub NodesUnfold : Type 0
NodesUnfold =
    (nodes : Store) (id : TermId) (node : Node) → IsStore nodes → slice_get nodes id.0 ≡ Some node
    → tree_of nodes id ≡ node_tree (trees_of nodes) node

-- where nodes are added at the end, all trees stay
abbrev pub OtherTreesStay : Type 0
OtherTreesStay = (nodes more : Store) (id : TermId) → id.0 < length nodes → tree_of (nodes ++ more) id ≡ tree_of nodes id

-- in a store, equal trees stand at equal indices
abbrev pub EqualTreesHaveEqualIndices : Type 0
EqualTreesHaveEqualIndices =
    (nodes : Store) (i j : TermId) → IsStore nodes → i.0 < length nodes → j.0 < length nodes → tree_of nodes i ≡ tree_of nodes j → i ≡ j
