-- Wherever a term has a value, it is that of the numerator over that of the denominator.
use Rattle.std.proofs.Common.{◌≡◌, ℤ, pos, ◌*ℤ◌, [], ◌∷◌, sym, ◌∙◌, arith}
use Rattle.std.proofs.lemmas.Int.{ints}
use Rattle.ring_laws.specs.Solver.{variable, numeral, ◌⊞◌, ◌⊟◌, ◌⊠◌, opposite, entry_at, given}
use Rattle.ring_laws.proofs.Combination.{by_combination}
use Rattle.ring_laws.specs.Fraction.{Fraction, IsNonzero, Same, whole, plus, negated, minus, times, quotient}
use Rattle.geo_points.specs.Placements.{Placement}
use Rattle.ring_laws.proofs.Fractions.{fractions}
use Rattle.ring_laws.proofs.Quotients.{cancel_factor, zero_of_same, same_of_zero, quotient-times}
use Rattle.geo_poly.specs.declared.variables.Var.TheVariants.{T}
use Rattle.geo_poly.specs.Polynomials as Polynomials
use Rattle.geo_poly.specs.Polynomials.{Summands, constant_of, sum_of, difference_of, product_of}
use Rattle.geo_poly.specs.Canonical.{canonical_area, canonical_difference, canonical_ratio}
use Rattle.geo_terms.specs.Trees.{Tree, integer_leaf, parameter_leaf, area_leaf, pythagoras_leaf, ratio_leaf, negation, addition, subtraction, multiplication, division}
use Rattle.geo_terms.specs.Values.{HasTreeValue, tree_value}
use Rattle.fraction_poly.specs.Laws.{polynomial_value, MultipliedOutHasTheValue}
use Rattle.fraction_poly.specs.MultipliedOut.{multiplied_out, canon_polynomial, variable_polynomial, fraction_sum, fraction_difference, fraction_product, fraction_quotient}
use Rattle.fraction_poly.proofs.PolynomialValues.{◌∘◌, flip, self, sums, products, one_times, minus_is, opposites, constant_is, variable_is}
use Rattle.fraction_poly.proofs.PolynomialValues.{area_is, pythagoras_is, ratio_is, negated_is, sum_is, difference_is, product_is}

-- NONZERO
pub nonzero_same : (a b : Fraction) → Same a b → IsNonzero b → IsNonzero a
nonzero_same a b h n e = n (zero_of_same b (flip h ∘ same_of_zero a e))

pub nonzero_one : IsNonzero (whole (pos 1))
unfolding whole
nonzero_one e = absurd (cc)

pub nonzero_times : (a b : Fraction) → IsNonzero a → IsNonzero b → IsNonzero (times a b)
unfolding times
nonzero_times a b n m e = n (cancel_factor a.numerator (pos 0) b.numerator m (e ∙ sym (null_times b.numerator)))
  where
    null_times : (z : ℤ) → pos 0 *ℤ z ≡ pos 0
    null_times z = omega (arith, ints)

-- a numerator over a denominator that is not 0 is the number a
pub record IsOver (placed : Placement) (a : Fraction) (p : Summands × Summands) : Type 0 where
  pub nonzero : IsNonzero (polynomial_value placed p.1)
  pub same : Same (times a (polynomial_value placed p.1)) (polynomial_value placed p.0)

module _ (placed : Placement) where
  abbrev at : Summands → Fraction
  at = polynomial_value placed

  -- a polynomial over 1
  pub whole_over : (a : Fraction) (n : Summands) → Same (at n) a → IsOver placed a (n, constant_of (pos 1))
  whole_over a n h = record {
    nonzero = nonzero_same _ _ (constant_is placed (pos 1)) nonzero_one;
    same = products self (constant_is placed (pos 1)) ∘ fractions.mul-one a ∘ flip h;
  }

  pub opposite_over : (a : Fraction) (p : Summands × Summands) → IsOver placed a p → IsOver placed (negated a) (Polynomials.negated p.0, p.1)
  opposite_over a p h = record {
    nonzero = h.nonzero;
    same =
        by_combination fractions (entry_at fractions (a ∷ at p.1 ∷ at p.0 ∷ []))
        (given (opposite (numeral 1)) (variable 0 ⊠ variable 1) (variable 2) ∷ []) (opposite (variable 0) ⊠ variable 1) (opposite (variable 2)) (h.same, tt) tt
        ∘ flip (negated_is placed p.0);
  }

  denominator_nonzero : (a b : Fraction) (p q : Summands × Summands) → IsOver placed a p → IsOver placed b q → IsNonzero (at (product_of p.1 q.1))
  denominator_nonzero a b p q h g = nonzero_same _ _ (product_is placed p.1 q.1) (nonzero_times _ _ h.nonzero g.nonzero)

  pub sum_over : (a b : Fraction) (p q : Summands × Summands) → IsOver placed a p → IsOver placed b q → IsOver placed (plus a b) (fraction_sum p q)
  sum_over a b p q h g = record {
    nonzero = denominator_nonzero a b p q h g;
    same =
        let a' = variable 0 in let d = variable 1 in let n = variable 2 in let b' = variable 3 in let e = variable 4 in let m = variable 5 in
        products self (product_is placed p.1 q.1)
        ∘ by_combination fractions (entry_at fractions (a ∷ at p.1 ∷ at p.0 ∷ b ∷ at q.1 ∷ at q.0 ∷ []))
        (given e (a' ⊠ d) n ∷ given d (b' ⊠ e) m ∷ []) ((a' ⊞ b') ⊠ (d ⊠ e)) (n ⊠ e ⊞ m ⊠ d) (h.same, (g.same, tt)) tt
        ∘ flip (sum_is placed (product_of p.0 q.1) (product_of q.0 p.1) ∘ sums (product_is placed p.0 q.1) (product_is placed q.0 p.1));
  }

  pub difference_over : (a b : Fraction) (p q : Summands × Summands) → IsOver placed a p → IsOver placed b q → IsOver placed (minus a b) (fraction_difference p q)
  difference_over a b p q h g = record {
    nonzero = denominator_nonzero a b p q h g;
    same =
        let a' = variable 0 in let d = variable 1 in let n = variable 2 in let b' = variable 3 in let e = variable 4 in let m = variable 5 in
        products (flip (minus_is a b)) (product_is placed p.1 q.1)
        ∘ by_combination fractions (entry_at fractions (a ∷ at p.1 ∷ at p.0 ∷ b ∷ at q.1 ∷ at q.0 ∷ []))
        (given e (a' ⊠ d) n ∷ given (opposite d) (b' ⊠ e) m ∷ []) ((a' ⊟ b') ⊠ (d ⊠ e)) (n ⊠ e ⊟ m ⊠ d) (h.same, (g.same, tt)) tt
        ∘ flip (difference_is placed (product_of p.0 q.1) (product_of q.0 p.1) ∘ sums (product_is placed p.0 q.1) (opposites (product_is placed q.0 p.1)));
  }

  pub product_over : (a b : Fraction) (p q : Summands × Summands) → IsOver placed a p → IsOver placed b q → IsOver placed (times a b) (fraction_product p q)
  product_over a b p q h g = record {
    nonzero = denominator_nonzero a b p q h g;
    same =
        let a' = variable 0 in let d = variable 1 in let n = variable 2 in let b' = variable 3 in let e = variable 4 in let m = variable 5 in
        products self (product_is placed p.1 q.1)
        ∘ by_combination fractions (entry_at fractions (a ∷ at p.1 ∷ at p.0 ∷ b ∷ at q.1 ∷ at q.0 ∷ []))
        (given (b' ⊠ e) (a' ⊠ d) n ∷ given n (b' ⊠ e) m ∷ []) (a' ⊠ b' ⊠ (d ⊠ e)) (n ⊠ m) (h.same, (g.same, tt)) tt
        ∘ flip (product_is placed p.0 q.0);
  }

  pub quotient_over : (a b : Fraction) (p q : Summands × Summands) → IsOver placed a p → IsOver placed b q → IsNonzero b → IsOver placed (quotient a b) (fraction_quotient p q)
  quotient_over a b p q h g n = record {
    nonzero =
        nonzero_same _ _ (product_is placed p.1 q.0)
        (nonzero_times _ _ h.nonzero (nonzero_same _ _ (flip g.same) (nonzero_times _ _ n g.nonzero)));
    same =
        let a' = variable 0 in let d = variable 1 in let n' = variable 2 in let b' = variable 3 in let e = variable 4 in let m = variable 5 in let k = variable 6 in
        products self (product_is placed p.1 q.0)
        ∘ by_combination fractions (entry_at fractions (a ∷ at p.1 ∷ at p.0 ∷ b ∷ at q.1 ∷ at q.0 ∷ quotient a b ∷ []))
        (given (opposite (k ⊠ d)) (b' ⊠ e) m ∷ given (d ⊠ e) (k ⊠ b') a' ∷ given e (a' ⊠ d) n' ∷ [])
        (k ⊠ (d ⊠ m)) (n' ⊠ e) (g.same, (quotient-times a b n, (h.same, tt))) tt
        ∘ flip (product_is placed p.0 q.1);
  }

  -- each term that has a value, by its form
  pub multiplied_out-value : (e : Tree) → HasTreeValue placed e → IsOver placed (tree_value placed e) (multiplied_out e)
  multiplied_out-value (integer_leaf m) v = whole_over (whole m) (constant_of m) (constant_is placed m)
  multiplied_out-value (parameter_leaf t) v =
      whole_over (placed.number t.0) (variable_polynomial (pos 1) (T t)) (variable_is placed (pos 1) (T t) ∘ one_times _)
  multiplied_out-value (area_leaf a b c) v = whole_over _ (canon_polynomial (canonical_area a b c)) (area_is placed a b c)
  multiplied_out-value (pythagoras_leaf a b c) v = whole_over _ (canon_polynomial (canonical_difference a b c)) (pythagoras_is placed a b c)
  multiplied_out-value (ratio_leaf a b c d) v = whole_over _ (canon_polynomial (canonical_ratio a b c d)) (ratio_is placed a b c d v)
  multiplied_out-value (negation e) v = opposite_over (tree_value placed e) (multiplied_out e) (multiplied_out-value e v)
  multiplied_out-value (addition e f) v =
      sum_over (tree_value placed e) (tree_value placed f) (multiplied_out e) (multiplied_out f) (multiplied_out-value e v.0) (multiplied_out-value f v.1)
  multiplied_out-value (subtraction e f) v =
      difference_over (tree_value placed e) (tree_value placed f) (multiplied_out e) (multiplied_out f) (multiplied_out-value e v.0) (multiplied_out-value f v.1)
  multiplied_out-value (multiplication e f) v =
      product_over (tree_value placed e) (tree_value placed f) (multiplied_out e) (multiplied_out f) (multiplied_out-value e v.0) (multiplied_out-value f v.1)
  multiplied_out-value (division e f) v =
      quotient_over (tree_value placed e) (tree_value placed f) (multiplied_out e) (multiplied_out f) (multiplied_out-value e v.0) (multiplied_out-value f v.1) v.2

pub values_are_told : MultipliedOutHasTheValue
values_are_told placed e v = let told = multiplied_out-value placed e v in (told.nonzero, told.same)
