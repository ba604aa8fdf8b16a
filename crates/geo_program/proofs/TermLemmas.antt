-- Printable terms and their parts.
use Rattle.std.proofs.Common.{◌≡◌, ℕ, suc, ◌<◌, ◌≤◌, true, List, length, slice_get, Some, ℤ, to_z, of_z, refl, ap, subst, arith}
use Rattle.std.specs.Int.{w128}
use Rattle.std.specs.Prelude.{max}
use Rattle.std.proofs.lemmas.Int.{fits_signed_from_abs, to_z-of_z}
use Rattle.geo_points.specs.declared.ids.TermId.{TermId}
use Rattle.geo_program.specs.declared.names.Name.{Name}
use Rattle.geo_program.specs.Expressions.{IsExpression, nesting}
use Rattle.geo_program.specs.Forms.{number_argument}
use Rattle.geo_program.specs.Inner.Printing.{IsPrintableTerm, whole_scope}
use Rattle.geo_program.specs.WellFormed.{IsArgument}
use Rattle.geo_program.proofs.ScopeLemmas.{IsExpression-ratios}
use Rattle.geo_terms.specs.declared.nodes.Node.{Node}
use Rattle.geo_terms.specs.declared.nodes.Node.TheVariants.{Int, Neg, Add, Sub, Mul, Div}
use Rattle.geo_terms.specs.Stores.{Store, IsStore, node_tree, tree_of, trees_of}
use Rattle.geo_terms.specs.Trees.{Tree}
use Rattle.geo_terms.proofs.Inductions.{parts_within}
use Rattle.geo_terms.proofs.Trees.{tree_of-node}

-- the tree of a printable term is an expression over the names, with braces at most 128 deep
pub record IsPrintableTree (names : List Name) (tree : Tree) : Type 0 where
  pub expression : IsExpression (whole_scope names).points (whole_scope names).params true tree
  pub shallow : nesting tree ≤ 128

module _ (names : List Name) (nodes : Store) (e : TermId) (h : IsPrintableTerm names nodes e) where
  -- the tree is that of the node
  pub unfolds : (node : Node) → slice_get nodes e.0 ≡ Some node → tree_of nodes e ≡ node_tree (trees_of nodes) node
  unfolds node at = tree_of-node nodes e node h.store at

  pub tree_printable : (node : Node) → slice_get nodes e.0 ≡ Some node → IsPrintableTree names (node_tree (trees_of nodes) node)
  tree_printable node at = subst (IsPrintableTree names) (unfolds node at) (record { expression = h.expression; shallow = h.shallow })

  -- a part of the term is printable
  part : (f : TermId) → f.0 < length nodes → IsExpression (whole_scope names).points (whole_scope names).params true (tree_of nodes f) → nesting (tree_of nodes f) ≤ 128 → IsPrintableTerm names nodes f
  part f stored expression shallow = record { store = h.store; stored = stored; expression = expression; shallow = shallow }

  -- the parts of an operation are printable, and their braces stand less deep
  pub record HasParts (f g : TermId) : Type 0 where
    pub first : IsPrintableTerm names nodes f
    pub second : IsPrintableTerm names nodes g
    pub falls : max (nesting (tree_of nodes f)) (nesting (tree_of nodes g)) < nesting (tree_of nodes e)

  pub negation_part : (f : TermId) → slice_get nodes e.0 ≡ Some (Neg f) → HasParts f f
  negation_part f at =
      let tree = tree_printable (Neg f) at in
      let within = parts_within nodes h.store e.0 (Neg f) at in
      let is : nesting (tree_of nodes e) ≡ suc (nesting (tree_of nodes f)) = ap nesting (unfolds (Neg f) at) in
      let shallow : suc (nesting (tree_of nodes f)) ≤ 128 = tree.shallow in
      let one = part f within tree.expression (omega arith) in
      record { first = one; second = one; falls = omega arith }

  -- of an operation whose tree is this one of the trees of its parts
  operation_parts : (node : Node) (f g : TermId) → slice_get nodes e.0 ≡ Some node → (f.0 < length nodes) × (g.0 < length nodes)
      → nesting (node_tree (trees_of nodes) node) ≡ suc (max (nesting (tree_of nodes f)) (nesting (tree_of nodes g)))
      → IsExpression (whole_scope names).points (whole_scope names).params true (tree_of nodes f)
      × IsExpression (whole_scope names).points (whole_scope names).params true (tree_of nodes g) → HasParts f g
  operation_parts node f g at within is expressions =
      let tree = tree_printable node at in
      let shallow : nesting (node_tree (trees_of nodes) node) ≤ 128 = tree.shallow in
      let same : nesting (tree_of nodes e) ≡ nesting (node_tree (trees_of nodes) node) = ap nesting (unfolds node at) in
      record {
        first = part f within.0 expressions.0 (omega arith);
        second = part g within.1 expressions.1 (omega arith);
        falls = omega arith;
      }

  pub addition_parts : (f g : TermId) → slice_get nodes e.0 ≡ Some (Add f g) → HasParts f g
  addition_parts f g at = operation_parts (Add f g) f g at (parts_within nodes h.store e.0 (Add f g) at) refl ((tree_printable (Add f g) at).expression)

  pub subtraction_parts : (f g : TermId) → slice_get nodes e.0 ≡ Some (Sub f g) → HasParts f g
  subtraction_parts f g at = operation_parts (Sub f g) f g at (parts_within nodes h.store e.0 (Sub f g) at) refl ((tree_printable (Sub f g) at).expression)

  pub multiplication_parts : (f g : TermId) → slice_get nodes e.0 ≡ Some (Mul f g) → HasParts f g
  multiplication_parts f g at = operation_parts (Mul f g) f g at (parts_within nodes h.store e.0 (Mul f g) at) refl ((tree_printable (Mul f g) at).expression)

  -- no ratio stands in the divisor
  pub division_parts : (f g : TermId) → slice_get nodes e.0 ≡ Some (Div f g) → HasParts f g
  division_parts f g at =
      let both = (tree_printable (Div f g) at).expression in
      operation_parts (Div f g) f g at (parts_within nodes h.store e.0 (Div f g) at) refl
      (both.0, IsExpression-ratios (whole_scope names).points (whole_scope names).params true (tree_of nodes g) both.1)

-- an integer of a store is what it is as the code keeps it
pub integer_kept : (nodes : Store) (k : ℕ) (n : ℤ) → IsStore nodes → slice_get nodes k ≡ Some (Int n) → to_z w128 (of_z w128 n) ≡ n
integer_kept nodes k n h at = to_z-of_z w128 n (fits_signed_from_abs w128 n (omega (arith, h.integers k (Int n) at)))

-- the number of a step is printable
pub number_printable : (names : List Name) (nodes : Store) (r : TermId) → IsStore nodes → r.0 < length nodes
    → IsArgument (whole_scope names) (number_argument (tree_of nodes r)) → IsPrintableTerm names nodes r
number_printable names nodes r store stored h = record {
  store = store;
  stored = stored;
  expression = IsExpression-ratios (whole_scope names).points (whole_scope names).params true (tree_of nodes r) h.0;
  shallow = h.1;
}
