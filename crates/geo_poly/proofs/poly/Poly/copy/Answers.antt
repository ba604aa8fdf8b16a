use Rattle.std.proofs.Common.{ap, ◌∙◌}
use Rattle.std.proofs.lemmas.Result.{IfOk-weaker}
use Rattle.geo_poly.specs.Shared.{terms_of}
use Rattle.geo_poly.proofs.poly.Poly.copy.Goals as goal

pub over-requires : goal.over-requires
over-requires c = rw c.in_ok-list.ensures.items c.shared-p.ensures.valid

pub returns : goal.returns
returns c =
    let p = c.shared-p.result in
    IfOk-weaker c.over.result _ _ (λ q h. h ∙ ap (terms_of p.vars.now p.monos.now) c.in_ok-list.ensures.items ∙ c.shared-p.ensures.terms) c.over.ensures
