-- The trees of a store: a longer store begins with them, and the tree at an index is that of its node.
use Rattle.std.proofs.Common.{◌≡◌, ℕ, zero, suc, ◌+◌, ◌<◌, List, [], ◌∷◌, ◌++◌, fold, length, take, drop, slice_get, Some, refl, sym, ap, ap₂, subst, ◌∙◌, arith}
use Rattle.std.proofs.lemmas.List.{append-nil, append_assoc, get_or_append_left, get_or_at, length-take-le, length_push}
use Rattle.std.proofs.lemmas.List.Sums.{fold-append}
use Rattle.std.proofs.lemmas.Option.{slice_get_within}
use Rattle.geo_points.specs.declared.ids.TermId.{TermId}
use Rattle.geo_terms.specs.declared.nodes.Node.{Node}
use Rattle.geo_terms.specs.declared.nodes.Node.TheVariants.{Int, Param, S, P, R, Neg, Add, Sub, Mul, Div}
use Rattle.geo_terms.specs.Trees.{Tree, integer_leaf, negation, addition, subtraction, multiplication, division}
use Rattle.geo_terms.specs.Stores.{Store, HasChildrenBelow, IsStore, tree_at, node_tree, trees_of, tree_of}
use Rattle.std.specs.Prelude.{pos}

-- MORE TREES

-- the list begins with `front`
pub record BeginsWith (front whole : List Tree) : Type 0 where
  pub rest : List Tree
  pub parts : whole ≡ front ++ rest

-- the trees, and then those of the nodes
abbrev pub trees_with : List Tree → Store → List Tree
trees_with trees nodes = fold (λ trees node. trees ++ node_tree trees node ∷ []) trees nodes

-- the trees that are there stay
pub trees_with-begins : (trees : List Tree) (nodes : Store) → BeginsWith trees (trees_with trees nodes)
trees_with-begins trees [] = record { rest = []; parts = sym (append-nil trees) }
trees_with-begins trees (node ∷ nodes) =
    let tree = node_tree trees node in
    let more = trees_with-begins (trees ++ tree ∷ []) nodes in
    record { rest = tree ∷ more.rest; parts = more.parts ∙ append_assoc trees (tree ∷ []) more.rest }

-- there is one more tree for each node
pub length-trees_with : (trees : List Tree) (nodes : Store) → length (trees_with trees nodes) ≡ length trees + length nodes
length-trees_with trees [] = omega arith
length-trees_with trees (node ∷ nodes) =
    omega (arith, length-trees_with (trees ++ node_tree trees node ∷ []) nodes, length_push trees (node_tree trees node))

-- a store has as many trees as nodes
pub length-trees_of : (nodes : Store) → length (trees_of nodes) ≡ length nodes
length-trees_of nodes = omega (arith, length-trees_with [] nodes)

-- the trees of more nodes come after those of the first
pub trees_of-append : (nodes more : Store) → trees_of (nodes ++ more) ≡ trees_with (trees_of nodes) more
trees_of-append nodes more = fold-append (λ trees node. trees ++ node_tree trees node ∷ []) [] nodes more

-- a longer store begins with the trees of the shorter one
pub trees_of-begins : (nodes more : Store) → BeginsWith (trees_of nodes) (trees_of (nodes ++ more))
trees_of-begins nodes more = subst (BeginsWith (trees_of nodes)) (sym (trees_of-append nodes more)) (trees_with-begins (trees_of nodes) more)

-- THE TREE AT AN INDEX

-- an index below the first trees has the same tree in all of them
pub tree_at-begins : (front whole : List Tree) (id : TermId) → BeginsWith front whole → id.0 < length front → tree_at whole id ≡ tree_at front id
tree_at-begins front whole id h within =
    ap (λ trees. tree_at trees id) h.parts ∙ get_or_append_left front h.rest (integer_leaf (pos 0)) id.0 within

-- a node has the same tree over more trees, where its parts are there
pub node_tree-begins : (front whole : List Tree) (node : Node) → BeginsWith front whole → HasChildrenBelow (length front) node → node_tree whole node ≡ node_tree front node
node_tree-begins front whole (Int n) h below = refl
node_tree-begins front whole (Param t) h below = refl
node_tree-begins front whole (S a b c) h below = refl
node_tree-begins front whole (P a b c) h below = refl
node_tree-begins front whole (R a b c d) h below = refl
node_tree-begins front whole (Neg e) h below = ap negation (tree_at-begins front whole e h below)
node_tree-begins front whole (Add e f) h below =
    ap₂ addition (tree_at-begins front whole e h below.0) (tree_at-begins front whole f h below.1)
node_tree-begins front whole (Sub e f) h below =
    ap₂ subtraction (tree_at-begins front whole e h below.0) (tree_at-begins front whole f h below.1)
node_tree-begins front whole (Mul e f) h below =
    ap₂ multiplication (tree_at-begins front whole e h below.0) (tree_at-begins front whole f h below.1)
node_tree-begins front whole (Div e f) h below =
    ap₂ division (tree_at-begins front whole e h below.0) (tree_at-begins front whole f h below.1)

-- where nodes are added at the end, all trees stay
pub tree_of-append : (nodes more : Store) (id : TermId) → id.0 < length nodes → tree_of (nodes ++ more) id ≡ tree_of nodes id
tree_of-append nodes more id within =
    tree_at-begins (trees_of nodes) (trees_of (nodes ++ more)) id (trees_of-begins nodes more) (omega (arith, length-trees_of nodes))

-- a new node at the end has its own tree
pub tree_of-push : (nodes : Store) (node : Node) (id : TermId) → id.0 ≡ length nodes → tree_of (nodes ++ node ∷ []) id ≡ node_tree (trees_of nodes) node
tree_of-push nodes node id last =
    ap (λ trees. tree_at trees id) (trees_of-append nodes (node ∷ []))
    ∙ get_or_at (trees_of nodes) (node_tree (trees_of nodes) node) [] (integer_leaf (pos 0)) id.0 (length-trees_of nodes ∙ sym last)

-- the nodes before an index, its node and the others
pub split_at_node : (nodes : Store) (k : ℕ) (node : Node) → slice_get nodes k ≡ Some node → nodes ≡ (take k nodes ++ node ∷ []) ++ drop (suc k) nodes
split_at_node [] k node at = absurd (cc)
split_at_node (first ∷ nodes) zero node at = let same : first ≡ node = cc in ap (λ x. x ∷ nodes) same
split_at_node (first ∷ nodes) (suc k) node at = ap (λ xs. first ∷ xs) (split_at_node nodes k node at)

-- where the parts stand below the index, it unfolds to the tree of its node
pub tree_of-unfolds : (nodes : Store) (id : TermId) (node : Node) → HasChildrenBelow id.0 node → slice_get nodes id.0 ≡ Some node → tree_of nodes id ≡ node_tree (trees_of nodes) node
tree_of-unfolds nodes id node below at =
    let before = take id.0 nodes in
    let after = drop (suc id.0) nodes in
    let within : id.0 < length nodes = slice_get_within nodes id.0 node at in
    let count : length before ≡ id.0 = length-take-le id.0 nodes (omega arith) in
    let parts : nodes ≡ (before ++ node ∷ []) ++ after = split_at_node nodes id.0 node at in
    let begins : BeginsWith (trees_of before) (trees_of nodes) =
    subst (λ xs. BeginsWith (trees_of before) (trees_of xs)) (sym (parts ∙ append_assoc before (node ∷ []) after)) (trees_of-begins before (node ∷ after)) in
    let there : HasChildrenBelow (length (trees_of before)) node =
    subst (λ k. HasChildrenBelow k node) (sym (length-trees_of before ∙ count)) below in
    ap (λ xs. tree_of xs id) parts
    ∙ tree_of-append (before ++ node ∷ []) after id (omega (arith, length_push before node))
    ∙ tree_of-push before node id (sym count)
    ∙ sym (node_tree-begins (trees_of before) (trees_of nodes) node begins there)

-- in a store an index unfolds to the tree of its node
pub tree_of-node : (nodes : Store) (id : TermId) (node : Node) → IsStore nodes → slice_get nodes id.0 ≡ Some node → tree_of nodes id ≡ node_tree (trees_of nodes) node
tree_of-node nodes id node h at = tree_of-unfolds nodes id node (h.children id.0 node at) at
