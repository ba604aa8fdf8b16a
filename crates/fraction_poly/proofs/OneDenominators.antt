-- Sums and differences of numerators over 1.
use Rattle.std.proofs.Common.{◌≡◌, pos, [], ◌∷◌, sym, ap₂}
use Rattle.geo_poly.specs.Polynomials.{IsPolynomial, Summands, difference_of, product_of, sum_of}
use Rattle.geo_poly.proofs.OneFactor.{one_right}
use Rattle.fraction_poly.specs.MultipliedOut.{fraction_difference, fraction_sum, whole_fraction}

module _ (a b : Summands × Summands) (left : a.1 ≡ ([], pos 1) ∷ []) (right : b.1 ≡ ([], pos 1) ∷ [])
    (first : IsPolynomial a.0) (second : IsPolynomial b.0) where
  pub sum_over_one : whole_fraction (sum_of a.0 b.0) ≡ fraction_sum a b
  sum_over_one =
      ap₂ (λ (n d : Summands). (n, d))
      (sym (ap₂ sum_of (one_right a.0 b.1 first right) (one_right b.0 a.1 second left)))
      (sym (ap₂ product_of left right))

  pub difference_over_one : whole_fraction (difference_of a.0 b.0) ≡ fraction_difference a b
  difference_over_one =
      ap₂ (λ (n d : Summands). (n, d))
      (sym (ap₂ difference_of (one_right a.0 b.1 first right) (one_right b.0 a.1 second left)))
      (sym (ap₂ product_of left right))
