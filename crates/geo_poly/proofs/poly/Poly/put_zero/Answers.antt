use Rattle.std.proofs.Common.{List, pos, sym, ap, ap₂, ◌∙◌, refl}
use Rattle.geo_poly.specs.declared.variables.Var.{Var}
use Rattle.geo_poly.specs.Polynomials.{IsPolynomial, Summands}
use Rattle.geo_poly.specs.Shared.{Indices, terms_of}
use Rattle.geo_poly.specs.Specialise.{specialised}
use Rattle.geo_poly.proofs.LeadingVariables.{lacking_stays}
use Rattle.geo_poly.proofs.poly.Poly.put_zero.Goals as goal

pub returns-in-Some : goal.returns-in-Some
returns-in-Some c =
    let s = c.self.inside.stored in
    let told = ap (λ (vs : List Var). terms_of vs s.monos s.list.items) c.as_slice-vars.ensures ∙ c.self.view_is in
    ap (λ (vs : List Var). terms_of vs s.monos c.keep_lacking.new.list.items) (sym c.as_slice-vars.ensures) ∙ c.keep_lacking.ensures.terms
    ∙ ap₂ (λ (w : Var) (q : Summands). specialised w (pos 0) q) c.in-Some.ensures.variable told

pub returns-in_default : goal.returns-in_default
returns-in_default c =
    let s = c.self.inside.stored in
    let vars = c.as_slice-vars.result.now in
    let list = c.as_slice.result.now in
    let same =
    ap₂ (λ (vs : List Var) (l : Indices). terms_of vs s.monos l) c.as_slice-vars.ensures c.as_slice.ensures.value ∙ c.self.view_is in
    let whole : IsPolynomial (terms_of vars s.monos list) = rw (c.as_slice-vars.ensures, c.as_slice.ensures.value) c.self.invariant.polynomial in
    sym (lacking_stays c.args.v (pos 0) (terms_of vars s.monos list) _ same whole c.in_default.ensures.none)

pub returns-then-is_number : goal.returns-then-is_number
returns-then-is_number c =
    sym (lacking_stays c.args.v (pos 0) _ _ refl c.is_number.ensures.valid (c.is_number.ensures.lacks c.if-is_number.true c.args.v))
