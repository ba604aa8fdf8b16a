-- A start is a polynomial in order, and so is all that a chain makes of it.
use Rattle.std.proofs.Common.{◌≡◌, ◌||◌, ◌*ℤ◌, ℕ, ◌+◌, ◌-◌, ◌^◌, ◌<◌, ◌≤◌, eqb, Bool, true, false, cond, ℤ, pos, Option, Some, None, List, [], ◌∷◌, ◌++◌, refl, sym, subst, unsigned_abs, arith}
use Rattle.std.specs.List.{cons_option, filter_map}
use Rattle.std.proofs.lemmas.List.Sums.{sum_by-cons}
use Rattle.sparse_lists.specs.SparseLists.{AllKeys, IsCanonical}
use Rattle.sparse_lists.proofs.Sums.{AllKeys-append, AllKeys-canonical}
use Rattle.geo_points.specs.declared.ids.PointId.{PointId}
use Rattle.geo_poly.specs.declared.rows.Row.{Row}
use Rattle.geo_poly.specs.declared.variables.Var.{Var}
use Rattle.geo_poly.specs.declared.variables.Var.TheVariants.{R, T}
use Rattle.geo_poly.specs.Canonical.{canonical_difference, canonical_ratio, higher, is_point, is_same_pair, lower, pair_sign, permutation_sign, signed_variable, sorted_area, sorted_difference}
use Rattle.geo_poly.specs.Monomials.{IsMonomial}
use Rattle.sparse_lists.specs.Coefficients.{coefficients}
use Rattle.geo_poly.specs.Polynomials.{IsPolynomial, Summands, constant_of, negated, norm_of, product_of, products, sum_of, term_cmp, total_degree}
use Rattle.geo_poly.specs.Replace.{AllBounded, most_denominators}
use Rattle.geo_poly.proofs.Negated.{IsCanonical-negated}
use Rattle.geo_poly.proofs.ProductLaws.{monomials_of_products}
use Rattle.geo_poly.proofs.ReplaceTerms.{IsCanonical-polynomial_of, IsPolynomial-replaced}
use Rattle.geo_terms.specs.Constructions.{Construction}
use Rattle.geo_terms.specs.Trees.{Tree, integer_leaf, parameter_leaf, area_leaf, pythagoras_leaf, ratio_leaf, negation, addition, subtraction, multiplication, division}
use Rattle.fraction_poly.specs.Measures.{HasRoom, numbers_of}
use Rattle.fraction_poly.specs.MultipliedOut.{canon_polynomial, multiplied_out, variable_polynomial}
use Rattle.fraction_poly.proofs.TermBounds.{bounds}
use Rattle.geo_logs.specs.declared.moves.Move.{Move}
use Rattle.geo_logs.specs.Chains.{ChainStep, moves, cuts, LeadsTo}
use Rattle.geo_logs.specs.Starts.{start_of}
use Rattle.geo_logs.specs.Moves.{Table, IsMoved, move_charge, replacement}
use Rattle.geo_logs.specs.Sound.{IsSoundTable}
use Rattle.geo_poly.specs.PolynomialVariables.{variables_of}
use Rattle.geo_poly.proofs.EachVariable.{EachIn, some_row}

-- ORDER AND MONOMIALS
-- a polynomial but for its norm
pub record IsOrdered (p : Summands) : Type 0 where
  pub in_order : IsCanonical term_cmp coefficients p
  pub monomials : AllKeys IsMonomial p

with_norm : (p : Summands) → IsOrdered p → norm_of p < 2 ^ 127 → IsPolynomial p
with_norm p h fits = record { in_order = h.in_order; monomials = h.monomials; norm_fits = fits }

ordered_product : (p q : Summands) → total_degree p + total_degree q ≤ 65535 → IsOrdered (product_of p q)
ordered_product p q fits = record {
  in_order = IsCanonical-polynomial_of (products p q);
  monomials = AllKeys-canonical term_cmp coefficients IsMonomial (products p q) (monomials_of_products p q fits);
}

monomials_of_negated : (p : Summands) → AllKeys IsMonomial p → AllKeys IsMonomial (negated p)
monomials_of_negated [] h = tt
monomials_of_negated (t ∷ ts) h = (h.0, monomials_of_negated ts h.1)

ordered_sum : (p q : Summands) → AllKeys IsMonomial p → AllKeys IsMonomial q → IsOrdered (sum_of p q)
ordered_sum p q h g = record {
  in_order = IsCanonical-polynomial_of (p ++ q);
  monomials = AllKeys-canonical term_cmp coefficients IsMonomial (p ++ q) (AllKeys-append IsMonomial p q h g);
}

ordered_nothing : IsOrdered []
ordered_nothing = record { in_order = tt; monomials = tt }

ordered_constant : (z : ℤ) → IsOrdered (constant_of z)
ordered_constant z = go (eqb (unsigned_abs z) 0) refl
  where
    go : (b : Bool) → eqb (unsigned_abs z) 0 ≡ b → IsOrdered (cond b [] (([], z) ∷ []))
    go true e = ordered_nothing
    go false e = record { in_order = (e, tt, tt); monomials = (record { in_order = tt; degree_fits = omega arith }, tt) }

ordered_variable : (sign : ℤ) (v : Var) → eqb (unsigned_abs sign) 0 ≡ false → IsOrdered (variable_polynomial sign v)
ordered_variable sign v e = record {
  in_order = (e, tt, tt);
  monomials = (record { in_order = (refl, tt, tt); degree_fits = omega (arith, sum_by-cons (λ (p : Var × ℕ). p.1) (v, 1) []) }, tt);
}

ordered_signed : (sign : ℤ) (v : Var) → IsOrdered (canon_polynomial (signed_variable sign v))
ordered_signed sign v = go (eqb (unsigned_abs sign) 0) refl
  where
    go : (b : Bool) → eqb (unsigned_abs sign) 0 ≡ b → IsOrdered (canon_polynomial (cond b (record { sign = pos 0; var = None }) (record { sign = sign; var = Some v })))
    go true e = ordered_constant (pos 0)
    go false e = ordered_variable sign v e

ordered_difference : (a b c : PointId) → IsOrdered (canon_polynomial (canonical_difference a b c))
ordered_difference a b c = go (is_point a b || is_point b c)
  where
    go : (same : Bool) → IsOrdered (canon_polynomial (cond same (record { sign = pos 0; var = None }) (record { sign = pos 1; var = Some (sorted_difference a b c) })))
    go true = ordered_constant (pos 0)
    go false = ordered_variable (pos 1) (sorted_difference a b c) refl

ordered_ratio : (a b c d : PointId) → IsOrdered (canon_polynomial (canonical_ratio a b c d))
ordered_ratio a b c d = go (pair_sign a b *ℤ pair_sign c d) (is_same_pair a b c d)
  where
    go : (sign : ℤ) (same : Bool) → IsOrdered (canon_polynomial (cond same (record { sign = sign; var = None }) (signed_variable sign (R (lower a b) (higher a b) (lower c d) (higher c d)))))
    go sign true = ordered_constant sign
    go sign false = ordered_signed sign (R (lower a b) (higher a b) (lower c d) (higher c d))

-- STARTS
ordered_start : (e : Tree) → (numbers_of e).gn ≤ 65535 → IsOrdered (multiplied_out e).0
ordered_start (integer_leaf m) fits = ordered_constant m
ordered_start (parameter_leaf t) fits = ordered_variable (pos 1) (T t) refl
ordered_start (area_leaf a b c) fits = ordered_signed (permutation_sign a b c) (sorted_area a b c)
ordered_start (pythagoras_leaf a b c) fits = ordered_difference a b c
ordered_start (ratio_leaf a b c d) fits = ordered_ratio a b c d
ordered_start (negation e) fits =
    let p = (multiplied_out e).0 in
    let h = ordered_start e fits in
    record { in_order = IsCanonical-negated p h.in_order; monomials = monomials_of_negated p h.monomials }
ordered_start (addition e f) fits =
    let p = multiplied_out e in let q = multiplied_out f in
    let h = bounds e in let g = bounds f in
    ordered_sum (product_of p.0 q.1) (product_of q.0 p.1)
    (ordered_product p.0 q.1 (omega (arith, fits, h.numerator.degree, g.denominator.degree))).monomials
    (ordered_product q.0 p.1 (omega (arith, fits, g.numerator.degree, h.denominator.degree))).monomials
ordered_start (subtraction e f) fits =
    let p = multiplied_out e in let q = multiplied_out f in
    let h = bounds e in let g = bounds f in
    ordered_sum (product_of p.0 q.1) (negated (product_of q.0 p.1))
    (ordered_product p.0 q.1 (omega (arith, fits, h.numerator.degree, g.denominator.degree))).monomials
    (monomials_of_negated (product_of q.0 p.1) (ordered_product q.0 p.1 (omega (arith, fits, g.numerator.degree, h.denominator.degree))).monomials)
ordered_start (multiplication e f) fits =
    let h = bounds e in let g = bounds f in
    ordered_product (multiplied_out e).0 (multiplied_out f).0 (omega (arith, fits, h.numerator.degree, g.numerator.degree))
ordered_start (division e f) fits =
    let h = bounds e in let g = bounds f in
    ordered_product (multiplied_out e).0 (multiplied_out f).1 (omega (arith, fits, h.numerator.degree, g.denominator.degree))

pub start_polynomial : (e : Tree) → HasRoom e → IsPolynomial (start_of e)
start_polynomial e room =
    let h = bounds e in
    with_norm (start_of e) (ordered_start e room.numerator_degree) (omega (arith, h.numerator.norm, room.numerator_weight))

-- MOVES AND CUTS
module _ (table : Table) (c : Construction) (sound : IsSoundTable table c) where
  each_bounded : (move : Move) (vs : List Var) → AllBounded (filter_map (table.row c move) vs)
  each_bounded move [] = tt
  each_bounded move (v ∷ vs) = go (table.row c move v) refl (each_bounded move vs)
    where
      go : (o : Option Row) → table.row c move v ≡ o → AllBounded (filter_map (table.row c move) vs) → AllBounded (cons_option o (filter_map (table.row c move) vs))
      go None e rest = rest
      go (Some r) e rest = ((sound.bounded move v r e).numerator, rest)

  any_variables : (vs : List Var) → EachIn (λ v. Unit {0}) vs
  any_variables [] = tt
  any_variables (v ∷ vs) = (tt, any_variables vs)

  move_polynomial : (move : Move) (left : ℕ) (q r : Summands) → IsPolynomial q → IsMoved (replacement table c move q) left q r → IsPolynomial r
  move_polynomial move left q r valid moved =
      let rows : List Row = filter_map (table.row c move) (variables_of q) in
      let one = some_row (λ v. Unit {0}) (table.row c move) (variables_of q) (any_variables (variables_of q)) moved.replaces in
      let top : most_denominators rows q ≤ most_denominators rows q = omega arith in
      subst IsPolynomial (sym moved.result)
      (IsPolynomial-replaced rows (table.denominator c move) (most_denominators rows q) q
      (record {
        rows_bounded = each_bounded move (variables_of q);
        den_bounded = (sound.bounded move one.0 one.1 one.2).denominator;
        in_order = valid.in_order;
        monomials = valid.monomials;
        top_fits = top;
        weight_fits = moved.weight_fits;
        degree_fits = moved.degree_fits;
      }))

  pub chain_polynomial : (known : List Var) (left : ℕ) (q : Summands) (steps : List ChainStep) (left' : ℕ) (e : Summands) → IsPolynomial q → LeadsTo table c known left q steps left' e
      → IsPolynomial e
  chain_polynomial known left q [] left' e valid h = subst IsPolynomial h.1 valid
  chain_polynomial known left q (moves move r ∷ steps) left' e valid h =
      chain_polynomial known (left - move_charge (replacement table c move q) q) r steps left' e (move_polynomial move left q r valid h.0) h.1
  chain_polynomial known left q (cuts f r ∷ steps) left' e valid h = chain_polynomial known left r steps left' e h.0.polynomial h.1
