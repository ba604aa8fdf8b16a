-- Terms multiplied out are collected polynomials, of whatever degree.
use Rattle.std.proofs.Common.{◌≡◌, ◌||◌, ◌*ℤ◌, eqb, Bool, true, false, cond, ℤ, pos, None, Some, [], ◌∷◌, ◌++◌, refl, unsigned_abs}
use Rattle.sparse_lists.specs.SparseLists.{AllKeys, IsCanonical}
use Rattle.sparse_lists.proofs.Canonical.{IsCanonical-canonical}
use Rattle.sparse_lists.proofs.Sums.{AllKeys-append, AllKeys-canonical}
use Rattle.geo_points.specs.declared.ids.PointId.{PointId}
use Rattle.geo_poly.specs.declared.variables.Var.{Var}
use Rattle.geo_poly.specs.declared.variables.Var.TheVariants.{R, T}
use Rattle.geo_poly.specs.Canonical.{canonical_difference, canonical_ratio, higher, is_point, is_same_pair, lower, pair_sign, permutation_sign, signed_variable, sorted_area, sorted_difference}
use Rattle.geo_poly.specs.Monomials.{Powers, exponents}
use Rattle.sparse_lists.specs.Coefficients.{coefficients}
use Rattle.geo_poly.specs.Polynomials.{Summands, constant_of, multiples, negated, product_of, products, sum_of, term_cmp}
use Rattle.geo_poly.specs.Specialise.{IsCollected}
use Rattle.geo_poly.specs.Variables.{var_cmp}
use Rattle.geo_poly.proofs.Negated.{IsCanonical-negated}
use Rattle.geo_poly.proofs.Orders.{exponents_add, var_order}
use Rattle.geo_poly.proofs.ReplaceTerms.{IsCanonical-polynomial_of}
use Rattle.geo_terms.specs.Trees.{Tree, integer_leaf, parameter_leaf, area_leaf, pythagoras_leaf, ratio_leaf, negation, addition, subtraction, multiplication, division}
use Rattle.fraction_poly.specs.MultipliedOut.{canon_polynomial, multiplied_out, variable_polynomial}
use Rattle.geo_logs.specs.Starts.{start_of}

multiples_in_order : (t : Powers × ℤ) (q : Summands) → AllKeys (IsCanonical var_cmp exponents) (multiples t q)
multiples_in_order t [] = tt
multiples_in_order t (u ∷ us) =
    (IsCanonical-canonical var_cmp exponents var_order exponents_add (t.0 ++ u.0), multiples_in_order t us)

products_in_order : (p q : Summands) → AllKeys (IsCanonical var_cmp exponents) (products p q)
products_in_order [] q = tt
products_in_order (t ∷ ts) q = AllKeys-append (IsCanonical var_cmp exponents) (multiples t q) (products ts q) (multiples_in_order t q) (products_in_order ts q)

collected_product : (p q : Summands) → IsCollected (product_of p q)
collected_product p q = record {
  in_order = IsCanonical-polynomial_of (products p q);
  monomials = AllKeys-canonical term_cmp coefficients (IsCanonical var_cmp exponents) (products p q) (products_in_order p q);
}

negated_in_order : (p : Summands) → AllKeys (IsCanonical var_cmp exponents) p → AllKeys (IsCanonical var_cmp exponents) (negated p)
negated_in_order [] h = tt
negated_in_order (t ∷ ts) h = (h.0, negated_in_order ts h.1)

collected_sum : (p q : Summands) → AllKeys (IsCanonical var_cmp exponents) p → AllKeys (IsCanonical var_cmp exponents) q → IsCollected (sum_of p q)
collected_sum p q h g = record {
  in_order = IsCanonical-polynomial_of (p ++ q);
  monomials = AllKeys-canonical term_cmp coefficients (IsCanonical var_cmp exponents) (p ++ q) (AllKeys-append (IsCanonical var_cmp exponents) p q h g);
}

collected_nothing : IsCollected []
collected_nothing = record { in_order = tt; monomials = tt }

collected_constant : (z : ℤ) → IsCollected (constant_of z)
collected_constant z = go (eqb (unsigned_abs z) 0) refl
  where
    go : (b : Bool) → eqb (unsigned_abs z) 0 ≡ b → IsCollected (cond b [] (([], z) ∷ []))
    go true e = collected_nothing
    go false e = record { in_order = (e, tt, tt); monomials = (tt, tt) }

collected_variable : (sign : ℤ) (v : Var) → eqb (unsigned_abs sign) 0 ≡ false → IsCollected (variable_polynomial sign v)
collected_variable sign v e = record { in_order = (e, tt, tt); monomials = ((refl, tt, tt), tt) }

collected_signed : (sign : ℤ) (v : Var) → IsCollected (canon_polynomial (signed_variable sign v))
collected_signed sign v = go (eqb (unsigned_abs sign) 0) refl
  where
    go : (b : Bool) → eqb (unsigned_abs sign) 0 ≡ b → IsCollected (canon_polynomial (cond b (record { sign = pos 0; var = None }) (record { sign = sign; var = Some v })))
    go true e = collected_constant (pos 0)
    go false e = collected_variable sign v e

collected_difference : (a b c : PointId) → IsCollected (canon_polynomial (canonical_difference a b c))
collected_difference a b c = go (is_point a b || is_point b c)
  where
    go : (same : Bool) → IsCollected (canon_polynomial (cond same (record { sign = pos 0; var = None }) (record { sign = pos 1; var = Some (sorted_difference a b c) })))
    go true = collected_constant (pos 0)
    go false = collected_variable (pos 1) (sorted_difference a b c) refl

collected_ratio : (a b c d : PointId) → IsCollected (canon_polynomial (canonical_ratio a b c d))
collected_ratio a b c d = go (pair_sign a b *ℤ pair_sign c d) (is_same_pair a b c d)
  where
    go : (sign : ℤ) (same : Bool) → IsCollected (canon_polynomial (cond same (record { sign = sign; var = None }) (signed_variable sign (R (lower a b) (higher a b) (lower c d) (higher c d)))))
    go sign true = collected_constant sign
    go sign false = collected_signed sign (R (lower a b) (higher a b) (lower c d) (higher c d))

pub collected_start : (e : Tree) → IsCollected (start_of e)
collected_start (integer_leaf m) = collected_constant m
collected_start (parameter_leaf t) = collected_variable (pos 1) (T t) refl
collected_start (area_leaf a b c) = collected_signed (permutation_sign a b c) (sorted_area a b c)
collected_start (pythagoras_leaf a b c) = collected_difference a b c
collected_start (ratio_leaf a b c d) = collected_ratio a b c d
collected_start (negation e) =
    let p = (multiplied_out e).0 in let h = collected_start e in
    record { in_order = IsCanonical-negated p h.in_order; monomials = negated_in_order p h.monomials }
collected_start (addition e f) =
    let p = multiplied_out e in let q = multiplied_out f in
    collected_sum (product_of p.0 q.1) (product_of q.0 p.1) (collected_product p.0 q.1).monomials (collected_product q.0 p.1).monomials
collected_start (subtraction e f) =
    let p = multiplied_out e in let q = multiplied_out f in
    collected_sum (product_of p.0 q.1) (negated (product_of q.0 p.1)) (collected_product p.0 q.1).monomials
    (negated_in_order (product_of q.0 p.1) (collected_product q.0 p.1).monomials)
collected_start (multiplication e f) = collected_product (multiplied_out e).0 (multiplied_out f).0
collected_start (division e f) = collected_product (multiplied_out e).0 (multiplied_out f).1
