use Rattle.std.proofs.Common.{◌≡◌, List, ap, ap₂, ◌∙◌}
use Rattle.geo_poly.specs.declared.variables.Var.{Var}
use Rattle.geo_poly.specs.Polynomials.{sum_of}
use Rattle.geo_poly.specs.Rings.{RingValue, polynomial_in}
use Rattle.geo_poly.specs.Shared.{Indices}
use Rattle.geo_poly.proofs.Elements.{made_element}
use Rattle.geo_poly.proofs.PolynomialLaws.{IsPolynomial-sum_of}
use Rattle.geo_poly.proofs.rings.Ring.sum.Goals as goal

pub returns : goal.returns
returns c =
    let r = c.args.self.now in
    let store = c.self.inside.monos in
    let whole : record { vars = c.as_slice.result.now; store = c.self.inside.monos } ≡ c.args.self.now = ap
    (λ (vs : List Var). record { vars = vs; store = store }) c.as_slice.ensures ∙ c.self.view_is in
    let left = ap₂ (λ (x : RingValue) (list : Indices). polynomial_in x list) whole (c.deref.ensures.value ∙ c.left.view_is) in
    let right = ap₂ (λ (x : RingValue) (list : Indices). polynomial_in x list) whole (c.deref-2.ensures.value ∙ c.right.view_is) in
    made_element r c.as_slice.result.now store c.in_ok-list.list.items _ whole (rw c.as_slice.ensures c.self.invariant) c.in_ok-list.ensures.indices (c.in_ok-list.ensures.sum ∙ ap₂ sum_of left right)
    (IsPolynomial-sum_of (polynomial_in r c.args.left.now) (polynomial_in r c.args.right.now) c.requires.left.polynomial c.requires.right.polynomial c.requires.fits)
