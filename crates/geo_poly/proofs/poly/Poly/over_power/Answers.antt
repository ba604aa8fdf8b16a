use Rattle.std.proofs.Common.{◌≡◌, ℤ, [], ◌∷◌, sym, subst, ◌∙◌, to_z, of_z}
use Rattle.std.specs.Int.{w128}
use Rattle.sparse_lists.specs.SparseLists.{AllKeys}
use Rattle.geo_poly.specs.Monomials.{Powers, IsMonomial}
use Rattle.geo_poly.specs.Polynomials.{Summands, IsPolynomial, multiples, product_of}
use Rattle.geo_poly.specs.Shared.{IsIndexOf, terms_of, told}
use Rattle.geo_poly.proofs.Dividing.{found, product_is, quotient_is}
use Rattle.geo_poly.proofs.poly.Poly.over_power.Goals as goal

pub over-requires : goal.over-requires
over-requires c =
    let f : Powers × ℤ = (c.by.inside.monomial, c.by.inside.coefficient) in
    let p = c.args.self.now in
    let q = terms_of c.shared-p.result.vars.now c.shared-p.result.monos.now c.in-Some-2.list.items in
    let some = rw c.in-Some-2.is at c.in_ok-list.ensures.some in
    let monomials : AllKeys IsMonomial (terms_of c.shared-p.result.vars.now c.shared-p.result.monos.now c.in-Some-2.list.items) = rw c.in-Some-2.is at c.in_ok-list.ensures.monomials in
    let valid = subst IsPolynomial c.shared-p.ensures.terms c.shared-p.ensures.valid.polynomial in
    let whole = found f p (told c.shared-p.result) q c.by.invariant
    (subst (λ (m : Powers). multiples (m, to_z w128 (of_z w128 c.by.inside.coefficient))
    (terms_of c.shared-p.result.vars.now c.shared-p.result.monos.now c.in-Some-2.list.items) ≡ told c.shared-p.result)
    (sym (c.in-Some.ensures.powers) ∙ c.powers.ensures) some)
    c.shared-p.ensures.terms in
    record {
      rising = c.shared-p.ensures.valid.rising;
      indices = (let h : AllKeys (IsIndexOf c.shared-p.result) c.in-Some-2.list.items = rw c.in-Some-2.is at c.in_ok-list.ensures.indices in h);
      polynomial = quotient_is f p q c.by.invariant valid monomials whole;
    }

pub returns-in_ok-over-in-Some-2-clause-polynomial : goal.returns-in_ok-over-in-Some-2-clause-polynomial
returns-in_ok-over-in-Some-2-clause-polynomial c =
    let f : Powers × ℤ = (c.by.inside.monomial, c.by.inside.coefficient) in
    let p = c.args.self.now in
    let q = terms_of c.shared-p.result.vars.now c.shared-p.result.monos.now c.in-Some-2.list.items in
    let some = rw c.in-Some-2.is at c.in_ok-list.ensures.some in
    let monomials : AllKeys IsMonomial (terms_of c.shared-p.result.vars.now c.shared-p.result.monos.now c.in-Some-2.list.items) = rw c.in-Some-2.is at c.in_ok-list.ensures.monomials in
    let valid = subst IsPolynomial c.shared-p.ensures.terms c.shared-p.ensures.valid.polynomial in
    let whole = found f p (told c.shared-p.result) q c.by.invariant
    (subst (λ (m : Powers). multiples (m, to_z w128 (of_z w128 c.by.inside.coefficient))
    (terms_of c.shared-p.result.vars.now c.shared-p.result.monos.now c.in-Some-2.list.items) ≡ told c.shared-p.result)
    (sym (c.in-Some.ensures.powers) ∙ c.powers.ensures) some)
    c.shared-p.ensures.terms in
    subst IsPolynomial (sym c.in_ok-over-in-Some-2.ensures) (quotient_is f p q c.by.invariant valid monomials whole)

pub returns-in_ok-over-in-Some-2-clause-some : goal.returns-in_ok-over-in-Some-2-clause-some
returns-in_ok-over-in-Some-2-clause-some c =
    let f : Powers × ℤ = (c.by.inside.monomial, c.by.inside.coefficient) in
    let p = c.args.self.now in
    let q = terms_of c.shared-p.result.vars.now c.shared-p.result.monos.now c.in-Some-2.list.items in
    let some = rw c.in-Some-2.is at c.in_ok-list.ensures.some in
    let monomials : AllKeys IsMonomial (terms_of c.shared-p.result.vars.now c.shared-p.result.monos.now c.in-Some-2.list.items) = rw c.in-Some-2.is at c.in_ok-list.ensures.monomials in
    let valid = subst IsPolynomial c.shared-p.ensures.terms c.shared-p.ensures.valid.polynomial in
    let whole = found f p (told c.shared-p.result) q c.by.invariant
    (subst (λ (m : Powers). multiples (m, to_z w128 (of_z w128 c.by.inside.coefficient))
    (terms_of c.shared-p.result.vars.now c.shared-p.result.monos.now c.in-Some-2.list.items) ≡ told c.shared-p.result)
    (sym (c.in-Some.ensures.powers) ∙ c.powers.ensures) some)
    c.shared-p.ensures.terms in
    subst (λ (r : Summands). product_of (c.args.by.now ∷ []) r ≡ c.args.self.now) (sym c.in_ok-over-in-Some-2.ensures)
    (subst (λ (g : Powers × ℤ). product_of (g ∷ []) q ≡ c.args.self.now) c.by.view_is (product_is f p q c.by.invariant (quotient_is f p q c.by.invariant valid monomials whole) whole))

pub returns-in_ok-over-in-Some-2-clause-multiples : goal.returns-in_ok-over-in-Some-2-clause-multiples
returns-in_ok-over-in-Some-2-clause-multiples c =
    let f : Powers × ℤ = (c.by.inside.monomial, c.by.inside.coefficient) in
    let p = c.args.self.now in
    let q = terms_of c.shared-p.result.vars.now c.shared-p.result.monos.now c.in-Some-2.list.items in
    let some = rw c.in-Some-2.is at c.in_ok-list.ensures.some in
    let monomials : AllKeys IsMonomial (terms_of c.shared-p.result.vars.now c.shared-p.result.monos.now c.in-Some-2.list.items) = rw c.in-Some-2.is at c.in_ok-list.ensures.monomials in
    let valid = subst IsPolynomial c.shared-p.ensures.terms c.shared-p.ensures.valid.polynomial in
    let whole = found f p (told c.shared-p.result) q c.by.invariant
    (subst (λ (m : Powers). multiples (m, to_z w128 (of_z w128 c.by.inside.coefficient))
    (terms_of c.shared-p.result.vars.now c.shared-p.result.monos.now c.in-Some-2.list.items) ≡ told c.shared-p.result)
    (sym (c.in-Some.ensures.powers) ∙ c.powers.ensures) some)
    c.shared-p.ensures.terms in
    subst (λ (r : Summands). multiples c.args.by.now r ≡ c.args.self.now) (sym c.in_ok-over-in-Some-2.ensures)
    (subst (λ (g : Powers × ℤ). multiples g q ≡ c.args.self.now) c.by.view_is whole)
