use Rattle.std.proofs.Common.{sym, ap, ap₂, subst, ◌∙◌}
use Rattle.std.proofs.lemmas.Result.{IfOk-weaker}
use Rattle.geo_poly.specs.Polynomials.{CanMultiply, Summands, product_of}
use Rattle.geo_poly.specs.Shared.{terms_of, told}
use Rattle.geo_poly.proofs.IndexSums.{in_grown}
use Rattle.geo_poly.proofs.Told.{indices-kept}
use Rattle.geo_poly.proofs.products.product_of_moved.Goals as goal

pub product_list-requires-clause-left : goal.product_list-requires-clause-left
product_list-requires-clause-left c =
    rw c.deref.ensures.value (indices-kept c.args.vars.now c.moved.new.store c.moved-2.new.store c.in_ok-left.left.items c.in_ok-right.ensures.kept c.in_ok-left.ensures.indices)

pub product_list-requires-clause-fits : goal.product_list-requires-clause-fits
product_list-requires-clause-fits c =
    let left = in_grown c.args.vars.now c.moved.new.store c.moved-2.new.store c.in_ok-left.left.items c.deref.result.now
    (told c.args.p.now) c.deref.ensures.value c.in_ok-right.ensures.kept c.in_ok-left.ensures.indices c.in_ok-left.ensures.terms in
    let right = ap (terms_of c.args.vars.now c.moved-2.new.store) c.deref-2.ensures.value ∙ c.in_ok-right.ensures.terms in
    subst (λ (p : Summands). CanMultiply p (terms_of c.args.vars.now c.moved-2.new.store c.deref-2.result.now)) (sym left)
    (subst (λ (q : Summands). CanMultiply (told c.args.p.now) q) (sym right) c.requires.fits)

pub returns-clause-product : goal.returns-clause-product
returns-clause-product c =
    let left = in_grown c.args.vars.now c.moved.new.store c.moved-2.new.store c.in_ok-left.left.items c.deref.result.now
    (told c.args.p.now) c.deref.ensures.value c.in_ok-right.ensures.kept c.in_ok-left.ensures.indices c.in_ok-left.ensures.terms in
    let right = ap (terms_of c.args.vars.now c.moved-2.new.store) c.deref-2.ensures.value ∙ c.in_ok-right.ensures.terms in
    IfOk-weaker c.product_list.result _ _ (λ list h. h ∙ ap₂ product_of left right) c.product_list.ensures.product
