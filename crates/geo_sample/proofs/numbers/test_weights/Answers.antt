use Rattle.std.proofs.Common.{◌^◌, ◌<◌, ◌≤◌, unsigned_abs, to_z, of_z, sym, subst, ◌∙◌, arith}
use Rattle.std.specs.Int.{w128}
use Rattle.std.proofs.lemmas.Bool.{false≢true}
use Rattle.std.proofs.lemmas.Int.{to_z-of_z}
use Rattle.std.proofs.lemmas.List.Elements.{All-more}
use Rattle.geo_poly.specs.Polynomials.{Summands}
use Rattle.geo_poly.specs.Specialise.{specialised_weight}
use Rattle.geo_sample.proofs.Changes.{small_fits}
use Rattle.geo_sample.proofs.numbers.test_weights.Goals as goal

pub returns-then-unsigned_abs-le1-clause-fit : goal.returns-then-unsigned_abs-le1-clause-fit
returns-then-unsigned_abs-le1-clause-fit c =
    let size = rw (to_z-of_z w128 c.args.number c.ranges.number) at c.unsigned_abs.ensures.value in
    let one : unsigned_abs c.args.number ≤ 1 = omega (arith, size, c.if-unsigned_abs-le1.true) in
    small_fits c.args.v c.args.number c.args.polys.now one c.are_specialisations.ensures.valid

pub loop-poly-preserved : goal.loop-poly-preserved
loop-poly-preserved c =
    let P : Summands → Type 0 = λ p. specialised_weight c.args.v (to_z w128 (of_z w128 c.args.number)) p < 2 ^ 127 in
    let not_large : 2 ^ 127 ≤ specialised_weight c.args.v (to_z w128 (of_z w128 c.args.number)) c.poly-item.result → ⊥ =
    λ le. false≢true (sym c.if-is_too_heavy.false ∙ c.is_too_heavy.ensures.1 le) in
    let small : P c.poly-item.result = omega (arith, not_large) in
    All-more P c.args.polys.now c.loop-poly.poly-index c.poly-item.result c.loop-poly-test.true c.loop-poly.invariant (subst P c.poly-item.is small)
