-- A product of polynomials is the same in both orders.
use Rattle.std.proofs.Common.{◌≡◌, ℤ, pos, ◌+ℤ◌, ◌*ℤ◌, [], ◌∷◌, cond, refl, sym, ap, ap₂, ◌∙◌}
use Rattle.std.specs.Ordering.{is_eq}
use Rattle.std.proofs.Math.IntN.{*ℤ_comm}
use Rattle.sparse_lists.proofs.Canonical.{amount-append, canonical_comm, canonical_same}
use Rattle.geo_poly.specs.Variables.{var_cmp}
use Rattle.geo_poly.specs.Monomials.{Powers, exponents, product}
use Rattle.sparse_lists.specs.Coefficients.{coefficients}
use Rattle.geo_poly.specs.Polynomials.{Summands, coefficient, multiples, product_of, products, term_cmp}
use Rattle.geo_poly.proofs.Orders.{exponents_add, term_order, var_order}
use Rattle.sparse_lists.proofs.Coefficients.{coefficients_add}

product_comm : (m n : Powers) → product m n ≡ product n m
product_comm m n = canonical_comm var_cmp exponents var_order exponents_add m n

-- what a term adds to the coefficient of k
abbrev at : Powers → Powers × ℤ → ℤ
at k t = cond (is_eq (term_cmp k t.0)) t.1 (pos 0)

abbrev times : Powers × ℤ → Powers × ℤ → Powers × ℤ
times t u = (product t.0 u.0, t.1 *ℤ u.1)

times_comm : (t u : Powers × ℤ) → times t u ≡ times u t
times_comm t u = ap₂ (λ (m : Powers) (a : ℤ). (m, a)) (product_comm t.0 u.0) (*ℤ_comm t.1 u.1)

exchange : (h a b c : ℤ) → h +ℤ (a +ℤ (b +ℤ c)) ≡ (h +ℤ b) +ℤ (a +ℤ c)
exchange h a b c =
    ap (λ (x : ℤ). h +ℤ x) (sym (coefficients_add.assoc a b c) ∙ ap (λ (x : ℤ). x +ℤ c) (coefficients_add.comm a b) ∙ coefficients_add.assoc b a c)
    ∙ sym (coefficients_add.assoc h b (a +ℤ c))

-- the products by u, and those by the others
by_one : (k : Powers) (p : Summands) (u : Powers × ℤ) (us : Summands) → coefficient k (products p (u ∷ us)) ≡ coefficient k (multiples u p) +ℤ coefficient k (products p us)
by_one k [] u us = sym (coefficients_add.zero-add (pos 0))
by_one k (t ∷ ts) u us =
    ap (λ (x : ℤ). at k (times t u) +ℤ x)
    (amount-append term_cmp coefficients term_order coefficients_add k (multiples t us) (products ts (u ∷ us))
    ∙ ap (λ (x : ℤ). coefficient k (multiples t us) +ℤ x) (by_one k ts u us))
    ∙ exchange (at k (times t u)) (coefficient k (multiples t us)) (coefficient k (multiples u ts)) (coefficient k (products ts us))
    ∙ ap₂ (λ (x y : ℤ). (x +ℤ coefficient k (multiples u ts)) +ℤ y) (ap (at k) (times_comm t u))
    (sym (amount-append term_cmp coefficients term_order coefficients_add k (multiples t us) (products ts us)))

no_products : (p : Summands) → products p [] ≡ []
no_products [] = refl
no_products (t ∷ ts) = no_products ts

same_coefficients : (k : Powers) (p q : Summands) → coefficient k (products p q) ≡ coefficient k (products q p)
same_coefficients k p [] = ap (coefficient k) (no_products p)
same_coefficients k p (u ∷ us) =
    by_one k p u us ∙ ap (λ (x : ℤ). coefficient k (multiples u p) +ℤ x) (same_coefficients k p us)
    ∙ sym (amount-append term_cmp coefficients term_order coefficients_add k (multiples u p) (products us p))

pub product_of_comm : (p q : Summands) → product_of p q ≡ product_of q p
product_of_comm p q = canonical_same term_cmp coefficients term_order coefficients_add (products p q) (products q p) (λ k. same_coefficients k p q)
