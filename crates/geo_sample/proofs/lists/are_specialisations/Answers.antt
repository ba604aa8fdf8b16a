use Rattle.std.proofs.Common.{List, All, subst}
use Rattle.std.proofs.lemmas.List.{take_all}
use Rattle.std.proofs.lemmas.List.Elements.{All-more}
use Rattle.geo_poly.specs.Polynomials.{Summands, IsPolynomial}
use Rattle.geo_sample.proofs.lists.are_specialisations.Goals as goal

pub loop-poly-preserved : goal.loop-poly-preserved
loop-poly-preserved c =
    let p = c.poly-item.result in
    All-more IsPolynomial c.args.polys.now c.loop-poly.poly-index p c.loop-poly-test.true c.loop-poly.invariant (subst IsPolynomial c.poly-item.is c.is_valid.ensures.valid)

pub returns-clause-valid : goal.returns-clause-valid
returns-clause-valid c = subst (λ (ps : List Summands). All IsPolynomial ps) (take_all c.loop-poly.poly-index c.args.polys.now c.loop-poly-test.false) c.loop-poly.invariant
