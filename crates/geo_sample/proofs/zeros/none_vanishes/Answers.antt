use Rattle.std.proofs.Common.{pos, List, refl, sym, subst, ◌∙◌}
use Rattle.std.proofs.lemmas.Bool.{false≢true}
use Rattle.std.proofs.lemmas.List.{take_all}
use Rattle.geo_poly.specs.Polynomials.{Summands}
use Rattle.geo_poly.specs.Specialise.{NoneZero}
use Rattle.geo_sample.specs.Tries.{all_specialised}
use Rattle.geo_sample.proofs.Changes.{one_stays, one_vanishes}
use Rattle.geo_sample.proofs.zeros.none_vanishes.Goals as goal

pub returns-then-vanishes_at_zero : goal.returns-then-vanishes_at_zero
returns-then-vanishes_at_zero c =
    let gone = c.vanishes_at_zero.ensures.0 c.if-vanishes_at_zero.true in
    (λ f. absurd (cc), λ h. absurd (one_vanishes c.args.v (pos 0) c.args.polys.now c.loop-poly.poly-index c.poly-item.result c.loop-poly-test.true c.poly-item.is gone h))

pub loop-poly-preserved : goal.loop-poly-preserved
loop-poly-preserved c =
    one_stays c.args.v (pos 0) c.args.polys.now c.loop-poly.poly-index c.poly-item.result c.loop-poly-test.true c.poly-item.is c.loop-poly.invariant
    (λ gone. false≢true (sym c.if-vanishes_at_zero.false ∙ c.vanishes_at_zero.ensures.1 gone))

pub returns : goal.returns
returns c =
    let all = subst (λ (ps : List Summands). NoneZero (all_specialised c.args.v (pos 0) ps)) (take_all c.loop-poly.poly-index c.args.polys.now c.loop-poly-test.false) c.loop-poly.invariant in
    (λ t. all, λ h. refl)
