-- What a division finds, of a factor as the code has it.
use Rattle.std.proofs.Common.{◌≡◌, ℤ, [], ◌∷◌, sym, ap, subst, ◌∙◌, FitsSigned, to_z, of_z, arith}
use Rattle.std.specs.Int.{w128}
use Rattle.std.proofs.lemmas.Int.{to_z-of_z, fits_signed_from_abs}
use Rattle.sparse_lists.specs.SparseLists.{AllKeys}
use Rattle.geo_poly.specs.Monomials.{Powers, IsMonomial}
use Rattle.geo_poly.specs.Polynomials.{Summands, IsPolynomial, multiples, product_of}
use Rattle.geo_poly.specs.Factors.{IsFactor}
use Rattle.geo_poly.proofs.Reflected.{IsPolynomial-reflected}
use Rattle.geo_poly.proofs.FactorLaws.{multiples-product}

-- the coefficient that the code passes on is that of the factor
pub passed : (f : Powers × ℤ) → IsFactor f → (f.0, to_z w128 (of_z w128 f.1)) ≡ f
passed f h = let fits : FitsSigned w128 f.1 = fits_signed_from_abs w128 f.1 (omega (arith, h.fits)) in ap (λ (z : ℤ). (f.0, z)) (to_z-of_z w128 f.1 fits)

pub found : (f : Powers × ℤ) (p p' q : Summands) → IsFactor f → multiples (f.0, to_z w128 (of_z w128 f.1)) q ≡ p' → p' ≡ p → multiples f q ≡ p
found f p p' q h e same = subst (λ (g : Powers × ℤ). multiples g q ≡ p) (passed f h) (e ∙ same)

pub quotient_is : (f : Powers × ℤ) (p q : Summands) → IsFactor f → IsPolynomial p → AllKeys IsMonomial q → multiples f q ≡ p → IsPolynomial q
quotient_is f p q h g monomials e = IsPolynomial-reflected f q p h.nonzero monomials e g

pub product_is : (f : Powers × ℤ) (p q : Summands) → IsFactor f → IsPolynomial q → multiples f q ≡ p → product_of (f ∷ []) q ≡ p
product_is f p q h g e = sym (multiples-product f q h.nonzero g.monomials g.in_order) ∙ e
