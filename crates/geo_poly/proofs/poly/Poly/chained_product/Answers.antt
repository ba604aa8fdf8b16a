use Rattle.std.proofs.Common.{List, sym, ap, ap₂, subst, ◌∙◌}
use Rattle.std.proofs.lemmas.Result.{IfOk-weaker}
use Rattle.geo_poly.specs.declared.variables.Var.{Var}
use Rattle.geo_poly.specs.Chained.{StandsFor}
use Rattle.geo_poly.specs.Polynomials.{CanMultiply, Summands, product_of}
use Rattle.geo_poly.specs.Shared.{terms_of}
use Rattle.geo_poly.proofs.IndexSums.{in_grown}
use Rattle.geo_poly.proofs.Told.{indices-kept}
use Rattle.geo_poly.proofs.poly.Poly.chained_product.Goals as goal

pub moved-requires-clause-known : goal.moved-requires-clause-known
moved-requires-clause-known g c = rw (c.as_slice-vars.ensures, c.shared.ensures.terms) c.requires.left

pub moved-requires-2-clause-known : goal.moved-requires-2-clause-known
moved-requires-2-clause-known g c = rw (c.as_slice-vars.ensures, c.shared-2.ensures.terms) c.requires.right

pub product_chain-requires-clause-left : goal.product_chain-requires-clause-left
product_chain-requires-clause-left g c =
    rw c.deref.ensures.value (indices-kept c.as_slice-vars.result.now c.moved.new.store c.moved-2.new.store c.in_ok-left.left.items c.in_ok-right.ensures.kept c.in_ok-left.ensures.indices)

pub product_chain-requires-clause-right : goal.product_chain-requires-clause-right
product_chain-requires-clause-right g c = rw c.deref-2.ensures.value c.in_ok-right.ensures.indices

pub product_chain-requires-clause-fits : goal.product_chain-requires-clause-fits
product_chain-requires-clause-fits g c =
    let left = in_grown c.as_slice-vars.result.now c.moved.new.store c.moved-2.new.store c.in_ok-left.left.items c.deref.result.now
    c.args.self.now c.deref.ensures.value c.in_ok-right.ensures.kept c.in_ok-left.ensures.indices
    (c.in_ok-left.ensures.terms ∙ c.shared.ensures.terms) in
    let right = ap (terms_of c.as_slice-vars.result.now c.moved-2.new.store) c.deref-2.ensures.value ∙ c.in_ok-right.ensures.terms ∙ c.shared-2.ensures.terms in
    subst (λ (p : Summands). CanMultiply p (terms_of c.as_slice-vars.result.now c.moved-2.new.store c.deref-2.result.now)) (sym left)
    (subst (λ (q : Summands). CanMultiply c.args.self.now q) (sym right) c.requires.fits)

pub returns-clause-chain : goal.returns-clause-chain
returns-clause-chain g c =
    let vars = c.as_slice-vars.result.now in
    let left = in_grown c.as_slice-vars.result.now c.moved.new.store c.moved-2.new.store c.in_ok-left.left.items c.deref.result.now
    c.args.self.now c.deref.ensures.value c.in_ok-right.ensures.kept c.in_ok-left.ensures.indices
    (c.in_ok-left.ensures.terms ∙ c.shared.ensures.terms) in
    let right = ap (terms_of c.as_slice-vars.result.now c.moved-2.new.store) c.deref-2.ensures.value ∙ c.in_ok-right.ensures.terms ∙ c.shared-2.ensures.terms in
    IfOk-weaker c.product_chain.result _ _
    (λ v h. subst (λ (vs : List Var). StandsFor vs c.product_chain.new.keys c.product_chain.new.arena v (product_of c.args.self.now c.args.other.now)) c.as_slice-vars.ensures
    (subst (λ (p : Summands). StandsFor vars c.product_chain.new.keys c.product_chain.new.arena v p) (ap₂ product_of left right) h))
    c.product_chain.ensures.chain
