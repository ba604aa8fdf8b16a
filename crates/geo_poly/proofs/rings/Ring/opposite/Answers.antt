use Rattle.std.proofs.Common.{◌≡◌, List, ap, ap₂, ◌∙◌}
use Rattle.geo_poly.specs.declared.variables.Var.{Var}
use Rattle.geo_poly.specs.Polynomials.{negated}
use Rattle.geo_poly.specs.Rings.{RingValue, polynomial_in}
use Rattle.geo_poly.specs.Shared.{Indices}
use Rattle.geo_poly.proofs.Elements.{made_element}
use Rattle.geo_poly.proofs.Negated.{IsPolynomial-negated}
use Rattle.geo_poly.proofs.rings.Ring.opposite.Goals as goal

pub returns : goal.returns
returns c =
    let r = c.args.self.now in
    let store = c.self.inside.monos in
    let whole : record { vars = c.as_slice.result.now; store = c.self.inside.monos } ≡ c.args.self.now = ap
    (λ (vs : List Var). record { vars = vs; store = store }) c.as_slice.ensures ∙ c.self.view_is in
    let same = ap₂ (λ (x : RingValue) (list : Indices). polynomial_in x list) whole (c.as_slice-2.ensures.value ∙ c.element.view_is) in
    made_element r c.as_slice.result.now store c.in_ok-list.list.items _ whole (rw c.as_slice.ensures c.self.invariant) c.in_ok-list.ensures.indices (c.in_ok-list.ensures.negated ∙ ap negated same)
    (IsPolynomial-negated (polynomial_in r c.args.element.now) c.requires.polynomial)
