-- What each operation of a term costs, and that what its parts cost beside it is within the term's charge.
use Rattle.std.proofs.Common.{◌≡◌, ℕ, zero, suc, ◌+◌, ◌*◌, ◌≤◌, ◌⊎◌, inl, inr, cond, List, [], ◌∷◌, length, drop, slice_get, Some, sum_by, BTreeSet, nat_cmp}
use Rattle.std.proofs.Common.{refl, sym, ap, subst, ◌∙◌, add-one, arith}
use Rattle.std.proofs.Math.Nat.{mul-le-mul}
use Rattle.std.proofs.lemmas.List.Sums.{sum_by-cons}
use Rattle.std.proofs.lemmas.Option.{slice_get_within}
use Rattle.std.specs.BTreeSet.{contains}
use Rattle.geo_points.specs.declared.ids.TermId.{TermId}
use Rattle.geo_poly.specs.Polynomials.{Summands}
use Rattle.geo_terms.specs.declared.nodes.Node.{Node}
use Rattle.geo_terms.specs.declared.nodes.Node.TheVariants.{Int, Param, S, P, R, Neg, Add, Sub, Mul, Div}
use Rattle.geo_terms.specs.Stores.{Store, IsStore, node_tree, tree_of, trees_of}
use Rattle.geo_terms.specs.Trees.{Tree, integer_leaf, parameter_leaf, area_leaf, pythagoras_leaf, ratio_leaf, negation, addition, subtraction, multiplication, division}
use Rattle.geo_terms.proofs.Trees.{tree_of-node}
use Rattle.fraction_poly.specs.Inner.Charges.{charge_below, own_charge, own_charge_at, product_charge, range_sum, sum_charge}
use Rattle.fraction_poly.specs.Inner.Parts.{IsPart}
use Rattle.fraction_poly.specs.Measures.{numbers_of, turned_numbers}
use Rattle.fraction_poly.specs.MultipliedOut.{multiplied_out}
use Rattle.fraction_poly.proofs.Ranges.{only_at, only_at-here, range_sum-both, range_sum-none, range_sum-only}
use Rattle.fraction_poly.proofs.TermBounds.{Bound, bounds}

-- the last operation costs no more than the term
pub own-le : (e : Tree) → own_charge e ≤ (numbers_of e).charge
own-le (integer_leaf m) = omega arith
own-le (parameter_leaf t) = omega arith
own-le (area_leaf a b c) = omega arith
own-le (pythagoras_leaf a b c) = omega arith
own-le (ratio_leaf a b c d) = omega arith
own-le (negation e) = omega arith
own-le (addition e f) = omega arith
own-le (subtraction e f) = omega arith
own-le (multiplication e f) = omega arith
own-le (division e f) = omega arith

-- the opposite of a term costs what the term does
pub opposite_charge : (nodes : Store) (id e : TermId) → IsStore nodes → slice_get nodes id.0 ≡ Some (Neg e)
    → own_charge (tree_of nodes e) ≤ (numbers_of (tree_of nodes id)).charge
opposite_charge nodes id e store at =
    subst (λ (t : Tree). own_charge (tree_of nodes e) ≤ (numbers_of t).charge) (sym (tree_of-node nodes id (Neg e) store at)) (own-le (tree_of nodes e))

-- PRODUCTS
module _ (e f : Tree) (x y : Summands × Summands) (left : x ≡ multiplied_out e) (right : y ≡ multiplied_out f) where
  left_bound : Bound (numbers_of e) x
  left_bound = subst (Bound (numbers_of e)) (sym left) (bounds e)

  right_bound : Bound (numbers_of f) y
  right_bound = subst (Bound (numbers_of f)) (sym right) (bounds f)

  -- the products of monomials of a sum or a difference
  pub sum_products : length x.0 * length y.1 + length y.0 * length x.1 + length x.1 * length y.1 ≤ sum_charge (numbers_of e) (numbers_of f)
  sum_products =
      omega (
        arith,
        mul-le-mul left_bound.numerator.count right_bound.denominator.count,
        mul-le-mul right_bound.numerator.count left_bound.denominator.count,
        mul-le-mul left_bound.denominator.count right_bound.denominator.count,
      )

  -- of a product
  pub product_products : length x.0 * length y.0 + length x.1 * length y.1 ≤ product_charge (numbers_of e) (numbers_of f)
  product_products =
      omega (arith, mul-le-mul left_bound.numerator.count right_bound.numerator.count, mul-le-mul left_bound.denominator.count right_bound.denominator.count)

  -- of a quotient
  pub quotient_products : length x.0 * length y.1 + length x.1 * length y.0 ≤ product_charge (numbers_of e) (turned_numbers (numbers_of f))
  quotient_products =
      omega (arith, mul-le-mul left_bound.numerator.count right_bound.denominator.count, mul-le-mul left_bound.denominator.count right_bound.numerator.count)

-- WHAT IS PENDING
-- the charge of the term at an index
abbrev pub charge_at : Store → ℕ → ℕ
charge_at nodes q = (numbers_of (tree_of nodes (record { 0 = q }))).charge

-- where the index is pending
abbrev pub pending_at : Store → BTreeSet ℕ → ℕ → ℕ
pending_at nodes pending q = cond (contains nat_cmp pending q) (charge_at nodes q) 0

-- where it is that of a part of the node
abbrev pub parts_at : Store → Node → ℕ → ℕ
parts_at nodes (Neg e) q = only_at e.0 (charge_at nodes e.0) q
parts_at nodes (Add e f) q = only_at e.0 (charge_at nodes e.0) q + only_at f.0 (charge_at nodes f.0) q
parts_at nodes (Sub e f) q = only_at e.0 (charge_at nodes e.0) q + only_at f.0 (charge_at nodes f.0) q
parts_at nodes (Mul e f) q = only_at e.0 (charge_at nodes e.0) q + only_at f.0 (charge_at nodes f.0) q
parts_at nodes (Div e f) q = only_at e.0 (charge_at nodes e.0) q + only_at f.0 (charge_at nodes f.0) q
parts_at nodes _ q = 0

module _ (nodes : Store) where
  two_at : (e f c : TermId) → (c ≡ e) ⊎ (c ≡ f) → charge_at nodes c.0 ≤ only_at e.0 (charge_at nodes e.0) c.0 + only_at f.0 (charge_at nodes f.0) c.0
  two_at e f c (inl is) =
      subst (λ (d : TermId). charge_at nodes d.0 ≤ only_at e.0 (charge_at nodes e.0) d.0 + only_at f.0 (charge_at nodes f.0) d.0) (sym is)
      (omega (arith, only_at-here e.0 (charge_at nodes e.0)))
  two_at e f c (inr is) =
      subst (λ (d : TermId). charge_at nodes d.0 ≤ only_at e.0 (charge_at nodes e.0) d.0 + only_at f.0 (charge_at nodes f.0) d.0) (sym is)
      (omega (arith, only_at-here f.0 (charge_at nodes f.0)))

  pub part_at : (node : Node) (c : TermId) → IsPart node c → charge_at nodes c.0 ≤ parts_at nodes node c.0
  part_at (Int n) c part = absurd part
  part_at (Param t) c part = absurd part
  part_at (S x y z) c part = absurd part
  part_at (P x y z) c part = absurd part
  part_at (R x y z w) c part = absurd part
  part_at (Neg e) c part =
      subst (λ (d : TermId). charge_at nodes d.0 ≤ only_at e.0 (charge_at nodes e.0) d.0) (sym part) (omega (arith, only_at-here e.0 (charge_at nodes e.0)))
  part_at (Add e f) c part = two_at e f c part
  part_at (Sub e f) c part = two_at e f c part
  part_at (Mul e f) c part = two_at e f c part
  part_at (Div e f) c part = two_at e f c part

  two_sum : (e f : TermId) (n : ℕ)
      → range_sum (λ q. only_at e.0 (charge_at nodes e.0) q + only_at f.0 (charge_at nodes f.0) q) n ≤ charge_at nodes e.0 + charge_at nodes f.0
  two_sum e f n =
      omega (
        arith,
        range_sum-both (only_at e.0 (charge_at nodes e.0)) (only_at f.0 (charge_at nodes f.0)) n,
        range_sum-only e.0 (charge_at nodes e.0) n,
        range_sum-only f.0 (charge_at nodes f.0) n,
      )

  -- the parts and the operation cost what the node does
  pub parts_sum : (node : Node) (n : ℕ)
      → range_sum (parts_at nodes node) n + own_charge (node_tree (trees_of nodes) node) ≤ (numbers_of (node_tree (trees_of nodes) node)).charge
  parts_sum (Int m) n = omega (arith, range_sum-none (parts_at nodes (Int m)) (λ q. refl) n)
  parts_sum (Param t) n = omega (arith, range_sum-none (parts_at nodes (Param t)) (λ q. refl) n)
  parts_sum (S x y z) n = omega (arith, range_sum-none (parts_at nodes (S x y z)) (λ q. refl) n)
  parts_sum (P x y z) n = omega (arith, range_sum-none (parts_at nodes (P x y z)) (λ q. refl) n)
  parts_sum (R x y z w) n = omega (arith, range_sum-none (parts_at nodes (R x y z w)) (λ q. refl) n)
  parts_sum (Neg e) n = let one : range_sum (parts_at nodes (Neg e)) n ≤ charge_at nodes e.0 = range_sum-only e.0 (charge_at nodes e.0) n in omega (arith, one)
  parts_sum (Add e f) n = let two : range_sum (parts_at nodes (Add e f)) n ≤ charge_at nodes e.0 + charge_at nodes f.0 = two_sum e f n in omega (arith, two)
  parts_sum (Sub e f) n = let two : range_sum (parts_at nodes (Sub e f)) n ≤ charge_at nodes e.0 + charge_at nodes f.0 = two_sum e f n in omega (arith, two)
  parts_sum (Mul e f) n = let two : range_sum (parts_at nodes (Mul e f)) n ≤ charge_at nodes e.0 + charge_at nodes f.0 = two_sum e f n in omega (arith, two)
  parts_sum (Div e f) n = let two : range_sum (parts_at nodes (Div e f)) n ≤ charge_at nodes e.0 + charge_at nodes f.0 = two_sum e f n in omega (arith, two)

-- the operation of one term more
pub charge_below-more : (nodes : Store) (i : ℕ) → charge_below nodes (i + 1) ≡ charge_below nodes i + own_charge_at nodes i
charge_below-more nodes i = ap (charge_below nodes) (add-one i)

-- A LIST FROM A PLACE ON
pub sum_from : {X : Type 0} (f : X → ℕ) (xs : List X) (i : ℕ) (x : X) → slice_get xs i ≡ Some x → sum_by f (drop i xs) ≡ f x + sum_by f (drop (suc i) xs)
sum_from f [] i x at = absurd (let within = slice_get_within [] i x at in omega (arith, within))
sum_from f (y ∷ ys) zero x at = let is : y ≡ x = cc in sum_by-cons f y ys ∙ ap (λ z. f z + sum_by f ys) is
sum_from f (y ∷ ys) (suc i) x at = sum_from f ys i x at
