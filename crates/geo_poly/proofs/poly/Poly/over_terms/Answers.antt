use Rattle.std.proofs.Common.{◌≡◌, ℤ, [], ◌∷◌, sym, ap, subst, ◌∙◌, unsigned_abs}
use Rattle.sparse_lists.specs.SparseLists.{AllKeys}
use Rattle.geo_poly.specs.Monomials.{Powers, IsMonomial}
use Rattle.geo_poly.specs.Polynomials.{Summands, IsPolynomial, multiples, product_of}
use Rattle.geo_poly.proofs.FactorLaws.{multiples-product}
use Rattle.geo_poly.proofs.Dividing.{found, passed, product_is, quotient_is}
use Rattle.geo_poly.proofs.poly.Poly.over_terms.Goals as goal

pub from_terms-requires : goal.from_terms-requires
from_terms-requires c =
    let f : Powers × ℤ = (c.by.inside.monomial, c.by.inside.coefficient) in
    let p = c.args.self.now in
    let q = c.in-Some.quotient.items in
    let some = rw c.in-Some.is at c.in_ok-quotient.ensures.some in
    let monomials : AllKeys IsMonomial c.in-Some.quotient.items = rw c.in-Some.is at c.in_ok-quotient.ensures.monomials in
    subst IsPolynomial (sym c.deref-in-Some.ensures.value)
    (quotient_is f p q c.by.invariant c.in_ok-terms.ensures.valid monomials (found f p c.deref.result.now q c.by.invariant some (c.deref.ensures.value ∙ c.in_ok-terms.ensures.terms)))

pub returns-in-Some-clause-polynomial : goal.returns-in-Some-clause-polynomial
returns-in-Some-clause-polynomial c =
    let f : Powers × ℤ = (c.by.inside.monomial, c.by.inside.coefficient) in
    let p = c.args.self.now in
    let q = c.in-Some.quotient.items in
    let some = rw c.in-Some.is at c.in_ok-quotient.ensures.some in
    let monomials : AllKeys IsMonomial c.in-Some.quotient.items = rw c.in-Some.is at c.in_ok-quotient.ensures.monomials in
    subst IsPolynomial (sym (c.in_ok-from_terms-in-Some.ensures ∙ c.deref-in-Some.ensures.value))
    (quotient_is f p q c.by.invariant c.in_ok-terms.ensures.valid monomials (found f p c.deref.result.now q c.by.invariant some (c.deref.ensures.value ∙ c.in_ok-terms.ensures.terms)))

pub returns-in-Some-clause-some : goal.returns-in-Some-clause-some
returns-in-Some-clause-some c =
    let f : Powers × ℤ = (c.by.inside.monomial, c.by.inside.coefficient) in
    let p = c.args.self.now in
    let q = c.in-Some.quotient.items in
    let some = rw c.in-Some.is at c.in_ok-quotient.ensures.some in
    let monomials : AllKeys IsMonomial c.in-Some.quotient.items = rw c.in-Some.is at c.in_ok-quotient.ensures.monomials in
    let whole = found f p c.deref.result.now q c.by.invariant some (c.deref.ensures.value ∙ c.in_ok-terms.ensures.terms) in
    let quotient = quotient_is f p q c.by.invariant c.in_ok-terms.ensures.valid monomials whole in
    subst (λ (r : Summands). product_of (c.args.by.now ∷ []) r ≡ c.args.self.now) (sym (c.in_ok-from_terms-in-Some.ensures ∙ c.deref-in-Some.ensures.value))
    (subst (λ (g : Powers × ℤ). product_of (g ∷ []) q ≡ c.args.self.now) c.by.view_is (product_is f p q c.by.invariant quotient whole))

pub returns-in-Some-clause-multiples : goal.returns-in-Some-clause-multiples
returns-in-Some-clause-multiples c =
    let f : Powers × ℤ = (c.by.inside.monomial, c.by.inside.coefficient) in
    let p = c.args.self.now in
    let q = c.in-Some.quotient.items in
    let some = rw c.in-Some.is at c.in_ok-quotient.ensures.some in
    subst (λ (r : Summands). multiples c.args.by.now r ≡ c.args.self.now) (sym (c.in_ok-from_terms-in-Some.ensures ∙ c.deref-in-Some.ensures.value))
    (subst (λ (g : Powers × ℤ). multiples g q ≡ c.args.self.now) c.by.view_is (found f p c.deref.result.now q c.by.invariant some (c.deref.ensures.value ∙ c.in_ok-terms.ensures.terms)))

pub returns-clause-no_multiples : goal.returns-clause-no_multiples
returns-clause-no_multiples c = λ q e.
    let f : Powers × ℤ = (c.by.inside.monomial, c.by.inside.coefficient) in
    let none = rw c.in-None.is at c.in_ok-quotient.ensures.none in
    none q
    (subst (λ (g : Powers × ℤ). multiples g q ≡ c.deref.result.now) (sym (c.by.view_is) ∙ sym (passed f c.by.invariant))
    (e ∙ sym (c.deref.ensures.value ∙ c.in_ok-terms.ensures.terms)))

pub returns-clause-none : goal.returns-clause-none
returns-clause-none c = λ q h e.
    let f : Powers × ℤ = (c.by.inside.monomial, c.by.inside.coefficient) in
    let none = rw c.in-None.is at c.in_ok-quotient.ensures.none in
    let nonzero : unsigned_abs c.args.by.now.1 ≡ 0 → ⊥ = λ z. c.by.invariant.nonzero (ap (λ (g : Powers × ℤ). unsigned_abs g.1) c.by.view_is ∙ z) in
    none q
    (subst (λ (g : Powers × ℤ). multiples g q ≡ c.deref.result.now) (sym (c.by.view_is) ∙ sym (passed f c.by.invariant))
    (multiples-product c.args.by.now q nonzero h.monomials h.in_order ∙ e ∙ sym (c.deref.ensures.value ∙ c.in_ok-terms.ensures.terms)))
