-- Terms by index: a store is a list of nodes, each once, whose children stand at lower indices.
use Rattle.std.specs.Prelude.{◌≡◌, ℕ, ◌<◌, ◌≤◌, ◌^◌, pos, unsigned_abs, Some, List, [], ◌∷◌, ◌++◌, fold, length, slice_get, slice_index_or}
use Rattle.geo_points.specs.declared.ids.TermId.{TermId}
use Rattle.geo_terms.specs.declared.nodes.Node.{Node}
use Rattle.geo_terms.specs.declared.nodes.Node.TheVariants.{Int, Param, S, P, R, Neg, Add, Sub, Mul, Div}
use Rattle.geo_terms.specs.Trees.{Tree, integer_leaf, parameter_leaf, area_leaf, pythagoras_leaf, ratio_leaf, negation, addition, subtraction, multiplication, division}

-- nodes by index
abbrev pub Store : Type 0
Store = List Node

-- the parts of the node stand below k
abbrev pub HasChildrenBelow : ℕ → Node → Type 0
HasChildrenBelow k (Neg e) = e.0 < k
HasChildrenBelow k (Add e f) = (e.0 < k) × (f.0 < k)
HasChildrenBelow k (Sub e f) = (e.0 < k) × (f.0 < k)
HasChildrenBelow k (Mul e f) = (e.0 < k) × (f.0 < k)
HasChildrenBelow k (Div e f) = (e.0 < k) × (f.0 < k)
HasChildrenBelow k _ = Unit {0}

-- an integer is within 127 bits
abbrev pub HasShortInteger : Node → Type 0
HasShortInteger (Int n) = unsigned_abs n < 2 ^ 127
HasShortInteger _ = Unit {0}

-- each node stands once, its parts stand below it, and the indices fit
pub record IsStore (nodes : Store) : Type 0 where
  pub once : (i j : ℕ) (node : Node) → slice_get nodes i ≡ Some node → slice_get nodes j ≡ Some node → i ≡ j
  pub children : (k : ℕ) (node : Node) → slice_get nodes k ≡ Some node → HasChildrenBelow k node
  pub integers : (k : ℕ) (node : Node) → slice_get nodes k ≡ Some node → HasShortInteger node
  pub few : length nodes ≤ 4294967295

-- TREES

-- the tree at an index; past the end the number 0
abbrev pub tree_at : List Tree → TermId → Tree
tree_at trees id = slice_index_or trees id.0 (integer_leaf (pos 0))

-- the tree of a node over the trees of its parts
abbrev pub node_tree : List Tree → Node → Tree
node_tree trees (Int n) = integer_leaf n
node_tree trees (Param t) = parameter_leaf t
node_tree trees (S a b c) = area_leaf a b c
node_tree trees (P a b c) = pythagoras_leaf a b c
node_tree trees (R a b c d) = ratio_leaf a b c d
node_tree trees (Neg e) = negation (tree_at trees e)
node_tree trees (Add e f) = addition (tree_at trees e) (tree_at trees f)
node_tree trees (Sub e f) = subtraction (tree_at trees e) (tree_at trees f)
node_tree trees (Mul e f) = multiplication (tree_at trees e) (tree_at trees f)
node_tree trees (Div e f) = division (tree_at trees e) (tree_at trees f)

-- the trees of the nodes, each over those before it
abbrev pub trees_of : Store → List Tree
trees_of nodes = fold (λ trees node. trees ++ node_tree trees node ∷ []) [] nodes

-- the tree that an index unfolds to
abbrev pub tree_of : Store → TermId → Tree
tree_of nodes id = tree_at (trees_of nodes) id
