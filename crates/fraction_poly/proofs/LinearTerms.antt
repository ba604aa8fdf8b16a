-- Numerators of linear terms, in a ring.
use Rattle.std.proofs.Common.{◌≡◌, ◌+◌, ◌^◌, ◌<◌, pos, List, Some, slice_get, sym, ap, ap₂, subst, ◌∙◌, arith}
use Rattle.std.specs.Prelude.{Contains}
use Rattle.geo_points.specs.declared.ids.TermId.{TermId}
use Rattle.geo_poly.specs.declared.variables.Var.{Var}
use Rattle.geo_poly.specs.Polynomials.{IsPolynomial, Summands, constant_of, negated, norm_of, product_of, sum_of}
use Rattle.geo_poly.specs.Rings.{Grows, IsElementFor, RingValue, polynomial_in}
use Rattle.geo_poly.specs.Shared.{Indices}
use Rattle.geo_poly.proofs.Elements.{element_kept}
use Rattle.geo_poly.proofs.OneFactor.{one_right}
use Rattle.geo_terms.specs.declared.nodes.Node.{Node}
use Rattle.geo_terms.specs.Stores.{Store, IsStore, node_tree, trees_of, tree_of}
use Rattle.geo_terms.specs.Trees.{Tree, negation, addition, subtraction}
use Rattle.geo_terms.proofs.Trees.{tree_of-node}
use Rattle.fraction_poly.specs.MultipliedOut.{multiplied_out}
use Rattle.fraction_poly.specs.Inner.Numerators.{IsLinear, IsNumerator}
use Rattle.fraction_poly.specs.Inner.Parts.{CanMultiplyOut, SumFits}
use Rattle.fraction_poly.proofs.Rooms.{norms_fit, sum_fits_addition, sum_fits_subtraction}

-- NODES, over the numerators of their parts
pub numerator_opposite : (r : RingValue) (e : Tree) (x z : Indices) → IsNumerator r e x
    → IsElementFor r (negated (polynomial_in r x)) z → IsNumerator r (negation e) z
numerator_opposite r e x z h made = record {
  numerator = record { element_of = made.element_of; polynomial = made.polynomial ∙ ap negated h.numerator.polynomial };
  one = h.one;
}

module _ (r : RingValue) (e f : Tree) (x y : Indices) (h : IsNumerator r e x) (g : IsNumerator r f y) where
  first : IsPolynomial (multiplied_out e).0
  first = subst IsPolynomial h.numerator.polynomial h.numerator.element_of.polynomial

  second : IsPolynomial (multiplied_out f).0
  second = subst IsPolynomial g.numerator.polynomial g.numerator.element_of.polynomial

  -- a numerator times the other denominator
  left : polynomial_in r x ≡ product_of (multiplied_out e).0 (multiplied_out f).1
  left = h.numerator.polynomial ∙ sym (one_right (multiplied_out e).0 (multiplied_out f).1 first g.one)

  right : polynomial_in r y ≡ product_of (multiplied_out f).0 (multiplied_out e).1
  right = g.numerator.polynomial ∙ sym (one_right (multiplied_out f).0 (multiplied_out e).1 second h.one)

  denominator : product_of (multiplied_out e).1 (multiplied_out f).1 ≡ constant_of (pos 1)
  denominator = ap₂ product_of h.one g.one

  norms : SumFits (multiplied_out e) (multiplied_out f) → norm_of (polynomial_in r x) + norm_of (polynomial_in r y) < 2 ^ 127
  norms fits = omega (arith, norms_fit (multiplied_out e) (multiplied_out f) fits, ap norm_of left, ap norm_of right)

  pub sum_fits : CanMultiplyOut (addition e f) → norm_of (polynomial_in r x) + norm_of (polynomial_in r y) < 2 ^ 127
  sum_fits fits = norms (sum_fits_addition e f fits)

  pub difference_fits : CanMultiplyOut (subtraction e f) → norm_of (polynomial_in r x) + norm_of (polynomial_in r y) < 2 ^ 127
  difference_fits fits = norms (sum_fits_subtraction e f fits)

  pub numerator_sum : (z : Indices) → IsElementFor r (sum_of (polynomial_in r x) (polynomial_in r y)) z
      → IsNumerator r (addition e f) z
  numerator_sum z made = record {
    numerator = record { element_of = made.element_of; polynomial = made.polynomial ∙ ap₂ sum_of left right };
    one = denominator;
  }

  pub numerator_difference : (z : Indices) → IsElementFor r (sum_of (polynomial_in r x) (negated (polynomial_in r y))) z
      → IsNumerator r (subtraction e f) z
  numerator_difference z made = record {
    numerator = record { element_of = made.element_of; polynomial = made.polynomial ∙ ap₂ (λ (p q : Summands). sum_of p (negated q)) left right };
    one = denominator;
  }

-- RINGS THAT GROW
pub numerator_kept : (old new : RingValue) (e : Tree) (x : Indices) → Grows old new → IsNumerator old e x → IsNumerator new e x
numerator_kept old new e x grows h = record { numerator = element_kept old new (multiplied_out e).0 x grows h.numerator; one = h.one }

pub linear_kept : (old new : RingValue) (e : Tree) → Grows old new → IsLinear (Contains old.vars) e → IsLinear (Contains new.vars) e
linear_kept old new e grows h = subst (λ (vs : List Var). IsLinear (Contains vs) e) (sym grows.vars) h

-- A NODE AND ITS INDEX
module _ (nodes : Store) (id : TermId) (node : Node) (store : IsStore nodes) (at : slice_get nodes id.0 ≡ Some node) where
  -- what is made for the node is made for the index
  pub numerator_at : (r : RingValue) (z : Indices) → IsNumerator r (node_tree (trees_of nodes) node) z → IsNumerator r (tree_of nodes id) z
  numerator_at r z made = subst (λ (e : Tree). IsNumerator r e z) (sym (tree_of-node nodes id node store at)) made

  pub linear_at : (vars : List Var) → IsLinear (Contains vars) (node_tree (trees_of nodes) node) → IsLinear (Contains vars) (tree_of nodes id)
  linear_at vars h = subst (IsLinear (Contains vars)) (sym (tree_of-node nodes id node store at)) h

  -- what holds of the index holds of the node
  pub node_linear : (vars : List Var) → IsLinear (Contains vars) (tree_of nodes id) → IsLinear (Contains vars) (node_tree (trees_of nodes) node)
  node_linear vars h = subst (IsLinear (Contains vars)) (tree_of-node nodes id node store at) h

  pub node_fits : CanMultiplyOut (tree_of nodes id) → CanMultiplyOut (node_tree (trees_of nodes) node)
  node_fits fits = subst CanMultiplyOut (tree_of-node nodes id node store at) fits
