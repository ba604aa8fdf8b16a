-- What is known at a node, when its parts are multiplied out.
use Rattle.std.proofs.Common.{◌≡◌, ℕ, ℤ, ◌+◌, ◌*◌, ◌^◌, ◌<◌, ◌≤◌, inl, inr, List, Some, length, slice_get, unsigned_abs, refl, sym, ap, ap₂, subst, ◌∙◌, arith}
use Rattle.std.proofs.lemmas.Option.{slice_get_within}
use Rattle.geo_points.specs.declared.ids.TermId.{TermId}
use Rattle.geo_poly.specs.Polynomials.{Summands, negated}
use Rattle.geo_terms.specs.declared.nodes.Node.{Node}
use Rattle.geo_terms.specs.declared.nodes.Node.TheVariants.{Int, Neg, Add, Sub, Mul, Div}
use Rattle.geo_terms.specs.Stores.{Store, IsStore, node_tree, trees_of, tree_of}
use Rattle.geo_terms.specs.Trees.{Tree}
use Rattle.geo_terms.proofs.Trees.{tree_of-node}
use Rattle.fraction_poly.specs.MultipliedOut.{multiplied_out, fraction_sum, fraction_difference, fraction_product, fraction_quotient}
use Rattle.fraction_poly.specs.Inner.Charges.{own_charge}
use Rattle.fraction_poly.specs.Inner.Parts.{CanMultiplyOut, SumFits, IsPart, HasParts}
use Rattle.fraction_poly.proofs.OwnCharges.{product_products, quotient_products, sum_products}
use Rattle.fraction_poly.proofs.Rooms.{ProductsFit, sum_fits_addition, sum_fits_subtraction, products_fit_multiplication, products_fit_division}

-- the node stands at the index, may be multiplied out, and its parts are
pub record IsAtNode (nodes : Store) (parts : List (Summands × Summands)) (id : TermId) (node : Node) : Type 0 where
  pub store : IsStore nodes
  pub at : slice_get nodes id.0 ≡ Some node
  pub fits : CanMultiplyOut (tree_of nodes id)
  pub ready : HasParts nodes parts id

module _ (nodes : Store) (parts : List (Summands × Summands)) (id : TermId) (node : Node) (h : IsAtNode nodes parts id node) where
  tree_is : tree_of nodes id ≡ node_tree (trees_of nodes) node
  tree_is = tree_of-node nodes id node h.store h.at

  pub node_fits : CanMultiplyOut (node_tree (trees_of nodes) node)
  node_fits = subst CanMultiplyOut tree_is h.fits

  -- what the node costs the index does
  pub node_charge : (n : ℕ) → n ≤ own_charge (node_tree (trees_of nodes) node) → n ≤ own_charge (tree_of nodes id)
  node_charge n le = subst (λ (e : Tree). n ≤ own_charge e) (sym tree_is) le

  -- what is made for the node is made for the index
  pub node_result : (f : Summands × Summands) → f ≡ multiplied_out (node_tree (trees_of nodes) node) → f ≡ multiplied_out (tree_of nodes id)
  node_result f is = is ∙ sym (ap multiplied_out tree_is)

  pub part_stands : (c : TermId) → IsPart node c → c.0 < length parts
  part_stands c part = slice_get_within parts c.0 (multiplied_out (tree_of nodes c)) (h.ready.each node c h.at part)

  pub part_is : (c : TermId) (f : Summands × Summands) → IsPart node c → slice_get parts c.0 ≡ Some f → f ≡ multiplied_out (tree_of nodes c)
  part_is c f part at = let is : slice_get parts c.0 ≡ Some (multiplied_out (tree_of nodes c)) = h.ready.each node c h.at part in cc

module _ (nodes : Store) (parts : List (Summands × Summands)) (id : TermId) where
  pub integer_fits : (n : ℤ) → IsAtNode nodes parts id (Int n) → unsigned_abs n < 2 ^ 127
  integer_fits n h = omega (arith, (node_fits nodes parts id (Int n) h).room.numerator_weight)

  pub negation_is : (e : TermId) (x : Summands × Summands) → IsAtNode nodes parts id (Neg e) → slice_get parts e.0 ≡ Some x → (negated x.0, x.1) ≡ multiplied_out (tree_of nodes id)
  negation_is e x h at = node_result nodes parts id (Neg e) h _ (ap (λ (f : Summands × Summands). (negated f.0, f.1)) (part_is nodes parts id (Neg e) h e x refl at))

  module _ (e f : TermId) (x y : Summands × Summands) (at_e : slice_get parts e.0 ≡ Some x) (at_f : slice_get parts f.0 ≡ Some y) where
    -- both parts, at a node that is made of two
    left_is : (node : Node) → IsAtNode nodes parts id node → IsPart node e → x ≡ multiplied_out (tree_of nodes e)
    left_is node h part = part_is nodes parts id node h e x part at_e

    right_is : (node : Node) → IsAtNode nodes parts id node → IsPart node f → y ≡ multiplied_out (tree_of nodes f)
    right_is node h part = part_is nodes parts id node h f y part at_f

    both_along : (P : Summands × Summands → Summands × Summands → Type 0) → x ≡ multiplied_out (tree_of nodes e)
        → y ≡ multiplied_out (tree_of nodes f) → P (multiplied_out (tree_of nodes e)) (multiplied_out (tree_of nodes f)) → P x y
    both_along P left right p = subst (λ (a : Summands × Summands). P a y) (sym left) (subst (P (multiplied_out (tree_of nodes e))) (sym right) p)

    pub addition_fits : IsAtNode nodes parts id (Add e f) → SumFits x y
    addition_fits h =
        both_along SumFits (left_is (Add e f) h (inl refl)) (right_is (Add e f) h (inr refl))
        (sum_fits_addition (tree_of nodes e) (tree_of nodes f) (node_fits nodes parts id (Add e f) h))

    pub addition_is : IsAtNode nodes parts id (Add e f) → fraction_sum x y ≡ multiplied_out (tree_of nodes id)
    addition_is h = node_result nodes parts id (Add e f) h _ (ap₂ fraction_sum (left_is (Add e f) h (inl refl)) (right_is (Add e f) h (inr refl)))

    pub subtraction_fits : IsAtNode nodes parts id (Sub e f) → SumFits x y
    subtraction_fits h =
        both_along SumFits (left_is (Sub e f) h (inl refl)) (right_is (Sub e f) h (inr refl))
        (sum_fits_subtraction (tree_of nodes e) (tree_of nodes f) (node_fits nodes parts id (Sub e f) h))

    pub subtraction_is : IsAtNode nodes parts id (Sub e f) → fraction_difference x y ≡ multiplied_out (tree_of nodes id)
    subtraction_is h = node_result nodes parts id (Sub e f) h _ (ap₂ fraction_difference (left_is (Sub e f) h (inl refl)) (right_is (Sub e f) h (inr refl)))

    pub multiplication_fits : IsAtNode nodes parts id (Mul e f) → ProductsFit x.0 y.0 x.1 y.1
    multiplication_fits h =
        both_along (λ a b. ProductsFit a.0 b.0 a.1 b.1) (left_is (Mul e f) h (inl refl)) (right_is (Mul e f) h (inr refl))
        (products_fit_multiplication (tree_of nodes e) (tree_of nodes f) (node_fits nodes parts id (Mul e f) h))

    pub multiplication_is : IsAtNode nodes parts id (Mul e f) → fraction_product x y ≡ multiplied_out (tree_of nodes id)
    multiplication_is h = node_result nodes parts id (Mul e f) h _ (ap₂ fraction_product (left_is (Mul e f) h (inl refl)) (right_is (Mul e f) h (inr refl)))

    pub division_fits : IsAtNode nodes parts id (Div e f) → ProductsFit x.0 y.1 x.1 y.0
    division_fits h =
        both_along (λ a b. ProductsFit a.0 b.1 a.1 b.0) (left_is (Div e f) h (inl refl)) (right_is (Div e f) h (inr refl))
        (products_fit_division (tree_of nodes e) (tree_of nodes f) (node_fits nodes parts id (Div e f) h))

    pub division_is : IsAtNode nodes parts id (Div e f) → fraction_quotient x y ≡ multiplied_out (tree_of nodes id)
    division_is h = node_result nodes parts id (Div e f) h _ (ap₂ fraction_quotient (left_is (Div e f) h (inl refl)) (right_is (Div e f) h (inr refl)))

    pub addition_charge : IsAtNode nodes parts id (Add e f) → length x.0 * length y.1 + length y.0 * length x.1 + length x.1 * length y.1 ≤ own_charge (tree_of nodes id)
    addition_charge h =
        node_charge nodes parts id (Add e f) h _
        (sum_products (tree_of nodes e) (tree_of nodes f) x y (left_is (Add e f) h (inl refl)) (right_is (Add e f) h (inr refl)))

    pub subtraction_charge : IsAtNode nodes parts id (Sub e f) → length x.0 * length y.1 + length y.0 * length x.1 + length x.1 * length y.1 ≤ own_charge (tree_of nodes id)
    subtraction_charge h =
        node_charge nodes parts id (Sub e f) h _
        (sum_products (tree_of nodes e) (tree_of nodes f) x y (left_is (Sub e f) h (inl refl)) (right_is (Sub e f) h (inr refl)))

    pub multiplication_charge : IsAtNode nodes parts id (Mul e f) → length x.0 * length y.0 + length x.1 * length y.1 ≤ own_charge (tree_of nodes id)
    multiplication_charge h =
        node_charge nodes parts id (Mul e f) h _
        (product_products (tree_of nodes e) (tree_of nodes f) x y (left_is (Mul e f) h (inl refl)) (right_is (Mul e f) h (inr refl)))

    pub division_charge : IsAtNode nodes parts id (Div e f) → length x.0 * length y.1 + length x.1 * length y.0 ≤ own_charge (tree_of nodes id)
    division_charge h =
        node_charge nodes parts id (Div e f) h _
        (quotient_products (tree_of nodes e) (tree_of nodes f) x y (left_is (Div e f) h (inl refl)) (right_is (Div e f) h (inr refl)))
