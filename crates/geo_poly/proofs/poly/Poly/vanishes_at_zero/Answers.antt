use Rattle.std.proofs.Common.{◌≡◌, pos, [], filter, sym, ap, subst, ◌∙◌, refl}
use Rattle.std.specs.Prelude.{◌↔◌, IsTrue}
use Rattle.geo_poly.specs.Inner.Parts.{lacks}
use Rattle.geo_poly.specs.declared.variables.Var.{Var}
use Rattle.geo_poly.specs.Polynomials.{Summands}
use Rattle.geo_poly.specs.Shared.{told}
use Rattle.geo_poly.specs.Specialise.{specialised}
use Rattle.geo_poly.proofs.ZeroPut.{specialised-zero}
use Rattle.geo_poly.proofs.LeadingVariables.{lacking_stays}
use Rattle.geo_poly.proofs.poly.Poly.vanishes_at_zero.Goals as goal

pub returns-in-Some : goal.returns-in-Some
returns-in-Some c =
    let p = c.shared.result in
    let valid = c.shared.ensures.valid.polynomial in
    let same =
    ap (λ (w : Var). filter (lacks w) (told p)) c.in-Some.ensures.variable ∙ sym (specialised-zero c.args.v (told p) valid.in_order valid.monomials)
    ∙ ap (specialised c.args.v (pos 0)) c.shared.ensures.terms in
    subst (λ (q : Summands). IsTrue c.all_have.result ↔ (q ≡ [])) same c.all_have.ensures

pub returns-in-None : goal.returns-in-None
returns-in-None c =
    let stays = lacking_stays c.args.v (pos 0) (told c.shared.result) c.args.self.now c.shared.ensures.terms c.shared.ensures.valid.polynomial c.in-None.ensures.none in
    subst (λ (q : Summands). IsTrue c.is_zero-in-None.result ↔ (q ≡ [])) (sym stays) c.is_zero-in-None.ensures

pub returns-then-is_number : goal.returns-then-is_number
returns-then-is_number c =
    let stays = lacking_stays c.args.v (pos 0) c.args.self.now c.args.self.now refl c.is_number.ensures.valid (c.is_number.ensures.lacks c.if-is_number.true c.args.v) in
    subst (λ (q : Summands). IsTrue c.is_zero.result ↔ (q ≡ [])) (sym stays) c.is_zero.ensures
