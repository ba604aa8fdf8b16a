use Rattle.std.proofs.Common.{◌≡◌, List, ap, ap₂, ◌∙◌}
use Rattle.geo_poly.specs.declared.variables.Var.{Var}
use Rattle.geo_poly.specs.Polynomials.{product_of}
use Rattle.geo_poly.specs.Rings.{RingValue, polynomial_in}
use Rattle.geo_poly.specs.Shared.{Indices}
use Rattle.geo_poly.proofs.Elements.{made_element}
use Rattle.geo_poly.proofs.ProductLaws.{IsPolynomial-product_of}
use Rattle.geo_poly.proofs.rings.Ring.product.Goals as goal

pub returns-clause-element : goal.returns-clause-element
returns-clause-element c =
    let r = c.args.self.now in
    let old = c.self.inside.monos in
    let new = c.product_list.new.store in
    let whole : record { vars = c.as_slice.result.now; store = c.self.inside.monos } ≡ c.args.self.now = ap
    (λ (vs : List Var). record { vars = vs; store = old }) c.as_slice.ensures ∙ c.self.view_is in
    let left = ap₂ (λ (x : RingValue) (list : Indices). polynomial_in x list) whole (c.deref.ensures.value ∙ c.left.view_is) in
    let right = ap₂ (λ (x : RingValue) (list : Indices). polynomial_in x list) whole (c.deref-2.ensures.value ∙ c.right.view_is) in
    made_element _ c.as_slice.result.now new c.in_ok-list.list.items _
    (ap (λ (vs : List Var). record { vars = vs; store = new }) c.as_slice.ensures)
    (rw c.as_slice.ensures c.self.invariant) c.in_ok-list.ensures.indices (c.in_ok-list.ensures.product ∙ ap₂ product_of left right)
    (IsPolynomial-product_of (polynomial_in r c.args.left.now) (polynomial_in r c.args.right.now) c.requires.fits.norm_fits c.requires.fits.degree_fits)
