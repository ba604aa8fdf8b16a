-- Products of monomials.
use Rattle.std.proofs.Common.{◌≡◌, ◌+◌, ◌≤◌, ◌++◌, refl, ◌∙◌, arith}
use Rattle.std.proofs.lemmas.List.Sums.{sum_by-append}
use Rattle.geo_poly.specs.Variables.{var_cmp}
use Rattle.geo_poly.specs.Monomials.{Powers, exponents, degree_of, product, IsMonomial}
use Rattle.geo_poly.proofs.Orders.{var_order, exponents_add}
use Rattle.sparse_lists.proofs.Canonical.{IsCanonical-canonical}
use Rattle.sparse_lists.proofs.Sums.{sum_by-canonical}

pub degree_of-product : (m n : Powers) → degree_of (product m n) ≡ degree_of m + degree_of n
degree_of-product m n =
    sum_by-canonical var_cmp exponents var_order exponents_add (λ p. p.1) (λ k a b. refl) (λ k. refl) (m ++ n) ∙ sum_by-append (λ p. p.1) m n

pub IsMonomial-product : (m n : Powers) → degree_of m + degree_of n ≤ 65535 → IsMonomial (product m n)
IsMonomial-product m n h = record {
  in_order = IsCanonical-canonical var_cmp exponents var_order exponents_add (m ++ n);
  degree_fits = omega (arith, degree_of-product m n);
}
