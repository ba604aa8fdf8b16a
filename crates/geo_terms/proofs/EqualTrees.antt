-- In a store, equal trees stand at equal indices: by induction over the tree.
use Rattle.std.proofs.Common.{◌≡◌, ◌<◌, List, length, slice_get, Some, refl, sym, ap, ap₂, subst, ◌∙◌}
use Rattle.geo_points.specs.declared.ids.TermId.{TermId}
use Rattle.geo_terms.specs.declared.nodes.Node.{Node}
use Rattle.geo_terms.specs.declared.nodes.Node.TheVariants.{Int, Param, S, P, R, Neg, Add, Sub, Mul, Div}
use Rattle.geo_terms.specs.Trees.{Tree, integer_leaf, parameter_leaf, area_leaf, pythagoras_leaf, ratio_leaf, negation, addition, subtraction, multiplication, division}
use Rattle.geo_terms.specs.Stores.{Store, IsStore, tree_at, node_tree, trees_of, tree_of}
use Rattle.geo_terms.proofs.Inductions.{HoldsOfParts, node_at, parts_within}
use Rattle.geo_terms.proofs.Trees.{tree_of-node}

-- a node made by `make` of two parts with these trees
pub record HasTwoParts (trees : List Tree) (make : TermId → TermId → Node) (left right : Tree) (node : Node) : Type 0 where
  pub e : TermId
  pub f : TermId
  pub made : node ≡ make e f
  pub left_is : tree_at trees e ≡ left
  pub right_is : tree_at trees f ≡ right

-- the node has the form of the tree, over parts with the trees of the tree's parts
abbrev pub HasForm : List Tree → Tree → Node → Type 0
HasForm trees (integer_leaf n) node = node ≡ Int n
HasForm trees (parameter_leaf t) node = node ≡ Param t
HasForm trees (area_leaf a b c) node = node ≡ S a b c
HasForm trees (pythagoras_leaf a b c) node = node ≡ P a b c
HasForm trees (ratio_leaf a b c d) node = node ≡ R a b c d
HasForm trees (negation p) node = (e : TermId) × (node ≡ Neg e) × (tree_at trees e ≡ p)
HasForm trees (addition p q) node = HasTwoParts trees Add p q node
HasForm trees (subtraction p q) node = HasTwoParts trees Sub p q node
HasForm trees (multiplication p q) node = HasTwoParts trees Mul p q node
HasForm trees (division p q) node = HasTwoParts trees Div p q node

-- a node has the form of its tree
pub node_has_form : (trees : List Tree) (node : Node) → HasForm trees (node_tree trees node) node
node_has_form trees (Int n) = refl
node_has_form trees (Param t) = refl
node_has_form trees (S a b c) = refl
node_has_form trees (P a b c) = refl
node_has_form trees (R a b c d) = refl
node_has_form trees (Neg e) = (e, refl, refl)
node_has_form trees (Add e f) = record { e = e; f = f; made = refl; left_is = refl; right_is = refl }
node_has_form trees (Sub e f) = record { e = e; f = f; made = refl; left_is = refl; right_is = refl }
node_has_form trees (Mul e f) = record { e = e; f = f; made = refl; left_is = refl; right_is = refl }
node_has_form trees (Div e f) = record { e = e; f = f; made = refl; left_is = refl; right_is = refl }

-- the node at an index of the tree: it has the form of the tree, and its parts are within the store
record IsFound (nodes : Store) (id : TermId) (tree : Tree) : Type 0 where
  node : Node
  at : slice_get nodes id.0 ≡ Some node
  form : HasForm (trees_of nodes) tree node
  parts : HoldsOfParts (λ e. e.0 < length nodes) node

module _ (nodes : Store) (h : IsStore nodes) where
  -- at an index of the tree stands such a node
  find : (id : TermId) (tree : Tree) → id.0 < length nodes → tree_of nodes id ≡ tree → IsFound nodes id tree
  find id tree within is =
      let found = node_at nodes id.0 within in
      record {
        node = found.0;
        at = found.1;
        form = subst (λ t. HasForm (trees_of nodes) t found.0) (sym (tree_of-node nodes id found.0 h found.1) ∙ is) (node_has_form (trees_of nodes) found.0);
        parts = parts_within nodes h id.0 found.0 found.1;
      }

  -- an index of the tree is the only one
  abbrev pub IsOnly : Tree → Type 0
  IsOnly tree = (i j : TermId) → i.0 < length nodes → j.0 < length nodes → tree_of nodes i ≡ tree → tree_of nodes j ≡ tree → i ≡ j

  -- so it is where the nodes at its indices are the same
  only_by_node : (tree : Tree) → ((i j : TermId) (x : IsFound nodes i tree) (y : IsFound nodes j tree) → x.node ≡ y.node) → IsOnly tree
  only_by_node tree same i j i_in j_in i_is j_is =
      let x = find i tree i_in i_is in
      let y = find j tree j_in j_is in
      ap (λ k. record { 0 = k }) (h.once i.0 j.0 x.node x.at (y.at ∙ ap Some (sym (same i j x y))))

  -- nodes made alike, of parts with the same trees, are the same
  same_of_two : (make : TermId → TermId → Node) (p q : Tree) (a b : Node)
      → ((e f : TermId) → HoldsOfParts (λ e. e.0 < length nodes) (make e f) → (e.0 < length nodes) × (f.0 < length nodes))
      → IsOnly p → IsOnly q
      → HasTwoParts (trees_of nodes) make p q a → HasTwoParts (trees_of nodes) make p q b
      → HoldsOfParts (λ e. e.0 < length nodes) a → HoldsOfParts (λ e. e.0 < length nodes) b → a ≡ b
  same_of_two make p q a b both only_p only_q x y a_parts b_parts =
      let x_in = both x.e x.f (subst (HoldsOfParts (λ e. e.0 < length nodes)) x.made a_parts) in
      let y_in = both y.e y.f (subst (HoldsOfParts (λ e. e.0 < length nodes)) y.made b_parts) in
      let lefts : x.e ≡ y.e = only_p x.e y.e x_in.0 y_in.0 x.left_is y.left_is in
      let rights : x.f ≡ y.f = only_q x.f y.f x_in.1 y_in.1 x.right_is y.right_is in
      x.made ∙ ap₂ make lefts rights ∙ sym y.made

  -- so each tree stands at one index at most
  pub each_tree_once : (tree : Tree) → IsOnly tree
  each_tree_once (integer_leaf n) = only_by_node (integer_leaf n) (λ i j x y. x.form ∙ sym y.form)
  each_tree_once (parameter_leaf t) = only_by_node (parameter_leaf t) (λ i j x y. x.form ∙ sym y.form)
  each_tree_once (area_leaf a b c) = only_by_node (area_leaf a b c) (λ i j x y. x.form ∙ sym y.form)
  each_tree_once (pythagoras_leaf a b c) = only_by_node (pythagoras_leaf a b c) (λ i j x y. x.form ∙ sym y.form)
  each_tree_once (ratio_leaf a b c d) = only_by_node (ratio_leaf a b c d) (λ i j x y. x.form ∙ sym y.form)
  each_tree_once (negation p) = only_by_node (negation p) (λ i j x y.
      let x_in = subst (HoldsOfParts (λ e. e.0 < length nodes)) x.form.1 x.parts in
      let y_in = subst (HoldsOfParts (λ e. e.0 < length nodes)) y.form.1 y.parts in
      x.form.1 ∙ ap Neg (each_tree_once p x.form.0 y.form.0 x_in y_in x.form.2 y.form.2) ∙ sym y.form.1)
  each_tree_once (addition p q) = only_by_node (addition p q)
      (λ i j x y. same_of_two Add p q x.node y.node (λ e f both. both) (each_tree_once p) (each_tree_once q) x.form y.form x.parts y.parts)
  each_tree_once (subtraction p q) = only_by_node (subtraction p q)
      (λ i j x y. same_of_two Sub p q x.node y.node (λ e f both. both) (each_tree_once p) (each_tree_once q) x.form y.form x.parts y.parts)
  each_tree_once (multiplication p q) = only_by_node (multiplication p q)
      (λ i j x y. same_of_two Mul p q x.node y.node (λ e f both. both) (each_tree_once p) (each_tree_once q) x.form y.form x.parts y.parts)
  each_tree_once (division p q) = only_by_node (division p q)
      (λ i j x y. same_of_two Div p q x.node y.node (λ e f both. both) (each_tree_once p) (each_tree_once q) x.form y.form x.parts y.parts)

-- equal trees stand at equal indices
pub equal_indices : (nodes : Store) (i j : TermId) → IsStore nodes → i.0 < length nodes → j.0 < length nodes → tree_of nodes i ≡ tree_of nodes j → i ≡ j
equal_indices nodes i j h i_in j_in same = each_tree_once nodes h (tree_of nodes j) i j i_in j_in same refl
