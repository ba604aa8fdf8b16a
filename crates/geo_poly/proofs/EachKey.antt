-- What holds of each monomial of a polynomial: it is kept by sums, opposites and differences, and products join it.
use Rattle.std.proofs.Common.{ℤ, [], ◌∷◌, ◌++◌}
use Rattle.sparse_lists.specs.SparseLists.{AllKeys}
use Rattle.sparse_lists.proofs.Sums.{AllKeys-append, AllKeys-canonical}
use Rattle.geo_poly.specs.Monomials.{Powers, product}
use Rattle.sparse_lists.specs.Coefficients.{coefficients}
use Rattle.geo_poly.specs.Polynomials.{Summands, difference_of, multiples, negated, product_of, products, sum_of, term_cmp}

module _ (A B C : Powers → Type 0) (both : (m n : Powers) → A m → B n → C (product m n)) where
  keys_multiples : (t : Powers × ℤ) (q : Summands) → A t.0 → AllKeys B q → AllKeys C (multiples t q)
  keys_multiples t [] h g = tt
  keys_multiples t (u ∷ us) h g = (both t.0 u.0 h g.0, keys_multiples t us h g.1)

  keys_products : (p q : Summands) → AllKeys A p → AllKeys B q → AllKeys C (products p q)
  keys_products [] q h g = tt
  keys_products (t ∷ ts) q h g = AllKeys-append C (multiples t q) (products ts q) (keys_multiples t q h.0 g) (keys_products ts q h.1 g)

  pub keys_product_of : (p q : Summands) → AllKeys A p → AllKeys B q → AllKeys C (product_of p q)
  keys_product_of p q h g = AllKeys-canonical term_cmp coefficients C (products p q) (keys_products p q h g)

module _ (C : Powers → Type 0) where
  pub keys_sum_of : (p q : Summands) → AllKeys C p → AllKeys C q → AllKeys C (sum_of p q)
  keys_sum_of p q h g = AllKeys-canonical term_cmp coefficients C (p ++ q) (AllKeys-append C p q h g)

  pub keys_negated : (p : Summands) → AllKeys C p → AllKeys C (negated p)
  keys_negated [] h = tt
  keys_negated (t ∷ ts) h = (h.0, keys_negated ts h.1)

  pub keys_difference_of : (p q : Summands) → AllKeys C p → AllKeys C q → AllKeys C (difference_of p q)
  keys_difference_of p q h g = keys_sum_of p (negated q) h (keys_negated q g)
