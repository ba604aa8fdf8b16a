use Rattle.std.proofs.Common.{◌≡◌, ℤ, [], ◌∷◌, sym, ap, subst, ◌∙◌, to_z, of_z, unsigned_abs}
use Rattle.std.specs.Int.{w128}
use Rattle.sparse_lists.specs.SparseLists.{AllKeys}
use Rattle.geo_poly.specs.Monomials.{Powers, IsMonomial}
use Rattle.geo_poly.specs.Polynomials.{Summands, IsPolynomial, multiples, product_of}
use Rattle.geo_poly.specs.Shared.{IsIndexOf, terms_of, told}
use Rattle.geo_poly.proofs.Dividing.{found, passed, product_is, quotient_is}
use Rattle.geo_poly.proofs.FactorLaws.{multiples-product}
use Rattle.geo_poly.proofs.poly.Poly.over_number.Goals as goal

-- a factor with no variable
number_alone : (m : Powers) (z : ℤ) (f : Powers × ℤ) → (m, z) ≡ f → f.0 ≡ [] → m ≡ []
number_alone m z f e none = ap (λ (g : Powers × ℤ). g.0) e ∙ none

pub over-requires : goal.over-requires
over-requires c =
    let f : Powers × ℤ = (c.by.inside.monomial, c.by.inside.coefficient) in
    let p = c.args.self.now in
    let q = terms_of c.shared-p.result.vars.now c.shared-p.result.monos.now c.in-Some.list.items in
    let some = rw c.in-Some.is at c.in_ok-list.ensures.some in
    let monomials : AllKeys IsMonomial (terms_of c.shared-p.result.vars.now c.shared-p.result.monos.now c.in-Some.list.items) = rw c.in-Some.is at c.in_ok-list.ensures.monomials in
    let valid = subst IsPolynomial c.shared-p.ensures.terms c.shared-p.ensures.valid.polynomial in
    let whole = found f p (told c.shared-p.result) q c.by.invariant
    (subst (λ (m : Powers). multiples (m, to_z w128 (of_z w128 c.by.inside.coefficient))
    (terms_of c.shared-p.result.vars.now c.shared-p.result.monos.now c.in-Some.list.items) ≡ told c.shared-p.result)
    (sym (number_alone c.by.inside.monomial c.by.inside.coefficient c.args.by.now c.by.view_is c.requires)) some)
    c.shared-p.ensures.terms in
    record {
      rising = c.shared-p.ensures.valid.rising;
      indices = (let h : AllKeys (IsIndexOf c.shared-p.result) c.in-Some.list.items = rw c.in-Some.is at c.in_ok-list.ensures.indices in h);
      polynomial = quotient_is f p q c.by.invariant valid monomials whole;
    }

pub returns-in_ok-over-in-Some-clause-polynomial : goal.returns-in_ok-over-in-Some-clause-polynomial
returns-in_ok-over-in-Some-clause-polynomial c =
    let f : Powers × ℤ = (c.by.inside.monomial, c.by.inside.coefficient) in
    let p = c.args.self.now in
    let q = terms_of c.shared-p.result.vars.now c.shared-p.result.monos.now c.in-Some.list.items in
    let some = rw c.in-Some.is at c.in_ok-list.ensures.some in
    let monomials : AllKeys IsMonomial (terms_of c.shared-p.result.vars.now c.shared-p.result.monos.now c.in-Some.list.items) = rw c.in-Some.is at c.in_ok-list.ensures.monomials in
    let valid = subst IsPolynomial c.shared-p.ensures.terms c.shared-p.ensures.valid.polynomial in
    let whole = found f p (told c.shared-p.result) q c.by.invariant
    (subst (λ (m : Powers). multiples (m, to_z w128 (of_z w128 c.by.inside.coefficient))
    (terms_of c.shared-p.result.vars.now c.shared-p.result.monos.now c.in-Some.list.items) ≡ told c.shared-p.result)
    (sym (number_alone c.by.inside.monomial c.by.inside.coefficient c.args.by.now c.by.view_is c.requires)) some)
    c.shared-p.ensures.terms in
    subst IsPolynomial (sym c.in_ok-over-in-Some.ensures) (quotient_is f p q c.by.invariant valid monomials whole)

pub returns-in_ok-over-in-Some-clause-some : goal.returns-in_ok-over-in-Some-clause-some
returns-in_ok-over-in-Some-clause-some c =
    let f : Powers × ℤ = (c.by.inside.monomial, c.by.inside.coefficient) in
    let p = c.args.self.now in
    let q = terms_of c.shared-p.result.vars.now c.shared-p.result.monos.now c.in-Some.list.items in
    let some = rw c.in-Some.is at c.in_ok-list.ensures.some in
    let monomials : AllKeys IsMonomial (terms_of c.shared-p.result.vars.now c.shared-p.result.monos.now c.in-Some.list.items) = rw c.in-Some.is at c.in_ok-list.ensures.monomials in
    let valid = subst IsPolynomial c.shared-p.ensures.terms c.shared-p.ensures.valid.polynomial in
    let whole = found f p (told c.shared-p.result) q c.by.invariant
    (subst (λ (m : Powers). multiples (m, to_z w128 (of_z w128 c.by.inside.coefficient))
    (terms_of c.shared-p.result.vars.now c.shared-p.result.monos.now c.in-Some.list.items) ≡ told c.shared-p.result)
    (sym (number_alone c.by.inside.monomial c.by.inside.coefficient c.args.by.now c.by.view_is c.requires)) some)
    c.shared-p.ensures.terms in
    subst (λ (r : Summands). product_of (c.args.by.now ∷ []) r ≡ c.args.self.now) (sym c.in_ok-over-in-Some.ensures)
    (subst (λ (g : Powers × ℤ). product_of (g ∷ []) q ≡ c.args.self.now) c.by.view_is (product_is f p q c.by.invariant (quotient_is f p q c.by.invariant valid monomials whole) whole))

pub returns-in_ok-over-in-Some-clause-multiples : goal.returns-in_ok-over-in-Some-clause-multiples
returns-in_ok-over-in-Some-clause-multiples c =
    let f : Powers × ℤ = (c.by.inside.monomial, c.by.inside.coefficient) in
    let p = c.args.self.now in
    let q = terms_of c.shared-p.result.vars.now c.shared-p.result.monos.now c.in-Some.list.items in
    let some = rw c.in-Some.is at c.in_ok-list.ensures.some in
    let monomials : AllKeys IsMonomial (terms_of c.shared-p.result.vars.now c.shared-p.result.monos.now c.in-Some.list.items) = rw c.in-Some.is at c.in_ok-list.ensures.monomials in
    let valid = subst IsPolynomial c.shared-p.ensures.terms c.shared-p.ensures.valid.polynomial in
    let whole = found f p (told c.shared-p.result) q c.by.invariant
    (subst (λ (m : Powers). multiples (m, to_z w128 (of_z w128 c.by.inside.coefficient))
    (terms_of c.shared-p.result.vars.now c.shared-p.result.monos.now c.in-Some.list.items) ≡ told c.shared-p.result)
    (sym (number_alone c.by.inside.monomial c.by.inside.coefficient c.args.by.now c.by.view_is c.requires)) some)
    c.shared-p.ensures.terms in
    subst (λ (r : Summands). multiples c.args.by.now r ≡ c.args.self.now) (sym c.in_ok-over-in-Some.ensures)
    (subst (λ (g : Powers × ℤ). multiples g q ≡ c.args.self.now) c.by.view_is whole)

pub returns-in-None-clause-no_multiples : goal.returns-in-None-clause-no_multiples
returns-in-None-clause-no_multiples c = λ q e.
    let f : Powers × ℤ = (c.by.inside.monomial, c.by.inside.coefficient) in
    let none = rw c.in-None.is at c.in_ok-list.ensures.none in
    let plain : ([], to_z w128 (of_z w128 c.by.inside.coefficient)) ≡ c.args.by.now =
    ap (λ (m : Powers). (m, to_z w128 (of_z w128 c.by.inside.coefficient)))
    (sym (number_alone c.by.inside.monomial c.by.inside.coefficient c.args.by.now c.by.view_is c.requires)) ∙ passed f c.by.invariant
    ∙ c.by.view_is in
    none q (subst (λ (g : Powers × ℤ). multiples g q ≡ told c.shared-p.result) (sym plain) (e ∙ sym c.shared-p.ensures.terms))

pub returns-in-None-clause-none : goal.returns-in-None-clause-none
returns-in-None-clause-none c = λ q h e.
    let f : Powers × ℤ = (c.by.inside.monomial, c.by.inside.coefficient) in
    let none = rw c.in-None.is at c.in_ok-list.ensures.none in
    let plain : ([], to_z w128 (of_z w128 c.by.inside.coefficient)) ≡ c.args.by.now =
    ap (λ (m : Powers). (m, to_z w128 (of_z w128 c.by.inside.coefficient)))
    (sym (number_alone c.by.inside.monomial c.by.inside.coefficient c.args.by.now c.by.view_is c.requires)) ∙ passed f c.by.invariant
    ∙ c.by.view_is in
    let nonzero : unsigned_abs c.args.by.now.1 ≡ 0 → ⊥ = λ z. c.by.invariant.nonzero (ap (λ (g : Powers × ℤ). unsigned_abs g.1) c.by.view_is ∙ z) in
    none q (subst (λ (g : Powers × ℤ). multiples g q ≡ told c.shared-p.result) (sym plain) (multiples-product c.args.by.now q nonzero h.monomials h.in_order ∙ e ∙ sym c.shared-p.ensures.terms))
