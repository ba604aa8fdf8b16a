-- Products with zero.
use Rattle.std.proofs.Common.{◌≡◌, ◌*◌, ◌⊎◌, inl, inr, [], ◌∷◌, length, refl, ap, ◌∙◌, arith}
use Rattle.geo_poly.specs.Polynomials.{Summands, polynomial_of, product_of, products}

products-by_none : (p : Summands) → products p [] ≡ []
products-by_none [] = refl
products-by_none (t ∷ ts) = products-by_none ts

pub product_of-zero : (p q : Summands) → (p ≡ []) ⊎ (q ≡ []) → product_of p q ≡ []
product_of-zero p q (inl left) = ap (λ (r : Summands). product_of r q) left
product_of-zero p q (inr right) = ap (λ (r : Summands). product_of p r) right ∙ ap polynomial_of (products-by_none p)

pub no_products : (p q : Summands) → (p ≡ []) ⊎ (q ≡ []) → length p * length q ≡ 0
no_products p q (inl left) = ap (λ (r : Summands). length r * length q) left ∙ omega arith
no_products p q (inr right) = ap (λ (r : Summands). length p * length r) right ∙ omega arith
