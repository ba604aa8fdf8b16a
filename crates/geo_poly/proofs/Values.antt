-- The values of sums and products.
use borrow.Author.Differences.{up, down, product_is, sum_is_lem}
use Rattle.std.proofs.Common.{◌≡◌, ℕ, suc, ◌+◌ as ◌+ₙ◌, ◌*◌ as ◌*ₙ◌, ℤ, pos, negsuc, ◌+ℤ◌, ◌*ℤ◌, [], ◌∷◌, ◌++◌, subst, arith}
use Rattle.ring_laws.specs.Ring.{Ring}
use Rattle.ring_laws.specs.Solver.{natural, variable, ◌⊠◌, entry_at}
use Rattle.ring_laws.specs.Powers.{power}
use Rattle.ring_laws.proofs.Laws as Laws
use Rattle.ring_laws.proofs.Sound.{constant-add, constant-mul, agree}
use Rattle.ring_laws.proofs.Powers.{power-add}
use Rattle.geo_poly.specs.declared.variables.Var.{Var}
use Rattle.geo_poly.specs.Variables.{var_cmp}
use Rattle.geo_poly.specs.Monomials.{Powers, exponents, product}
use Rattle.sparse_lists.specs.Coefficients.{coefficients}
use Rattle.geo_poly.specs.Polynomials.{Summands, term_cmp, polynomial_of, sum_of, multiples, products, product_of}
use Rattle.geo_poly.specs.Values.{integer, monomial_value, value}
use Rattle.geo_poly.proofs.Orders.{var_order, exponents_add, term_order}
use Rattle.sparse_lists.proofs.Coefficients.{coefficients_add}
use Rattle.sparse_lists.proofs.Totals.{additive, multiplicative, total, total-append, total-canonical}

module _ (R : Ring) where
  open R use {carrier, same as ◌≈◌, add as ◌+◌, mul as ◌*◌, neg, zero, one}

  infix 4 ◌≈◌
  infixl 6 ◌+◌
  infixl 7 ◌*◌
  infixr 3 ◌∘◌
  ◌∘◌ : {a b c : carrier} → a ≈ b → b ≈ c → a ≈ c
  ◌∘◌ p q = R.same_trans _ _ _ p q

  flip : {a b : carrier} → a ≈ b → b ≈ a
  flip p = R.same_sym _ _ p

  self : {a : carrier} → a ≈ a
  self {a} = R.same_refl a

  plus : {a b c d : carrier} → a ≈ b → c ≈ d → a + c ≈ b + d
  plus p q = R.add-same _ _ _ _ p q

  times : {a b c d : carrier} → a ≈ b → c ≈ d → a * c ≈ b * d
  times p q = R.mul-same _ _ _ _ p q

  nowhere : ℕ → carrier
  nowhere k = zero

  -- p - n
  abbrev gap : ℕ → ℕ → carrier
  gap p n = natural R p + neg (natural R n)

  integer-is : (z : ℤ) → integer R z ≈ gap (up z) (down z)
  integer-is (pos n) = flip (plus self (Laws.neg-zero R) ∘ R.add-zero (natural R n))
  integer-is (negsuc n) = flip (Laws.zero-add R (neg (natural R (suc n))))

  gap-same : (p n a b : ℕ) → p +ₙ b ≡ a +ₙ n → gap p n ≈ gap a b
  gap-same p n a b e =
      Laws.same_of_sub R (gap p n) (gap a b)
      (plus self (Laws.neg-add R (natural R a) (neg (natural R b)) ∘ plus self (Laws.neg-neg R (natural R b)) ∘ R.add_comm _ _)
      ∘ flip (constant-add R nowhere p n b a)
      ∘ subst (λ k. natural R k + neg (natural R (n +ₙ a)) ≈ zero) (let q : n +ₙ a ≡ p +ₙ b = omega (arith, e) in q) (R.add-neg (natural R (n +ₙ a))))

  pub integer-add : (a b : ℤ) → integer R (a +ℤ b) ≈ integer R a + integer R b
  integer-add a b =
      integer-is (a +ℤ b)
      ∘ gap-same (up (a +ℤ b)) (down (a +ℤ b)) (up a +ₙ up b) (down a +ₙ down b) (omega (arith, sum_is_lem a b))
      ∘ constant-add R nowhere (up a) (down a) (up b) (down b)
      ∘ plus (flip (integer-is a)) (flip (integer-is b))

  pub integer-mul : (a b : ℤ) → integer R (a *ℤ b) ≈ integer R a * integer R b
  integer-mul a b =
      integer-is (a *ℤ b)
      ∘ gap-same (up (a *ℤ b)) (down (a *ℤ b)) (up a *ₙ up b +ₙ down a *ₙ down b) (up a *ₙ down b +ₙ down a *ₙ up b) (omega (arith, product_is a b))
      ∘ constant-mul R nowhere (up a) (down a) (up b) (down b)
      ∘ times (flip (integer-is a)) (flip (integer-is b))

  module _ (x : Var → carrier) where
    -- the two values as totals
    factor : Var × ℕ → carrier
    factor p = power R (x p.0) p.1

    summand : Powers × ℤ → carrier
    summand t = integer R t.1 * monomial_value R x t.0

    monomial_value-total : (m : Powers) → monomial_value R x m ≈ total (multiplicative R) factor m
    unfolding factor
    monomial_value-total [] = self
    monomial_value-total (p ∷ m) = times self (monomial_value-total m)

    value-total : (p : Summands) → value R x p ≈ total (additive R) summand p
    unfolding summand
    value-total [] = self
    value-total (t ∷ ts) = plus self (value-total ts)

    pub monomial_value-product : (m n : Powers) → monomial_value R x (product m n) ≈ monomial_value R x m * monomial_value R x n
    unfolding factor
    monomial_value-product m n =
        monomial_value-total (product m n)
        ∘ total-canonical (multiplicative R) var_cmp exponents var_order exponents_add factor (λ v a b. power-add R (x v) a b) (λ v. self) (m ++ n)
        ∘ total-append (multiplicative R) factor m n
        ∘ times (flip (monomial_value-total m)) (flip (monomial_value-total n))

    pub value-polynomial_of : (p : Summands) → value R x (polynomial_of p) ≈ value R x p
    unfolding summand
    value-polynomial_of p =
        value-total (polynomial_of p)
        ∘ total-canonical (additive R) term_cmp coefficients term_order coefficients_add summand
        (λ m a b. times (integer-add a b) self ∘ Laws.add-mul R (integer R a) (integer R b) (monomial_value R x m))
        (λ m. R.mul_comm zero (monomial_value R x m) ∘ Laws.mul-zero R (monomial_value R x m)) p
        ∘ flip (value-total p)

    pub value-append : (p q : Summands) → value R x (p ++ q) ≈ value R x p + value R x q
    value-append p q = value-total (p ++ q) ∘ total-append (additive R) summand p q ∘ plus (flip (value-total p)) (flip (value-total q))

    pub value-sum_of : (p q : Summands) → value R x (sum_of p q) ≈ value R x p + value R x q
    value-sum_of p q = value-polynomial_of (p ++ q) ∘ value-append p q

    value-multiples : (t : Powers × ℤ) (q : Summands) → value R x (multiples t q) ≈ (integer R t.1 * monomial_value R x t.0) * value R x q
    value-multiples t [] = flip (Laws.mul-zero R (integer R t.1 * monomial_value R x t.0))
    value-multiples t (u ∷ us) =
        let a = variable 0 in let b = variable 1 in let c = variable 2 in let d = variable 3 in
        plus (times (integer-mul t.1 u.1) (monomial_value-product t.0 u.0)
        ∘ agree R (entry_at R (integer R t.1 ∷ integer R u.1 ∷ monomial_value R x t.0 ∷ monomial_value R x u.0 ∷ [])) (a ⊠ b ⊠ (c ⊠ d)) (a ⊠ c ⊠ (b ⊠ d)) tt)
        (value-multiples t us)
        ∘ flip (R.mul-add (integer R t.1 * monomial_value R x t.0) (integer R u.1 * monomial_value R x u.0) (value R x us))

    value-products : (p q : Summands) → value R x (products p q) ≈ value R x p * value R x q
    value-products [] q = flip (R.mul_comm zero (value R x q) ∘ Laws.mul-zero R (value R x q))
    value-products (t ∷ ts) q =
        value-append (multiples t q) (products ts q) ∘ plus (value-multiples t q) (value-products ts q)
        ∘ flip (Laws.add-mul R (integer R t.1 * monomial_value R x t.0) (value R x ts) (value R x q))

    pub value-product_of : (p q : Summands) → value R x (product_of p q) ≈ value R x p * value R x q
    value-product_of p q = value-polynomial_of (products p q) ∘ value-products p q
