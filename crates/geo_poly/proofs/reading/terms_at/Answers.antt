use Rattle.std.proofs.Common.{◌∙◌, ap₂, sym, refl, ℤ, ◌++◌, ◌∷◌, [], FitsSigned, rules}
use Rattle.std.specs.Int.{w128}
use Rattle.std.proofs.lemmas.Int.{to_z-of_z}
use Rattle.geo_poly.specs.Monomials.{Powers}
use Rattle.geo_poly.specs.Polynomials.{Summands}
use Rattle.geo_poly.proofs.Told.{index_at, item, monomial_at, told-take}
use Rattle.geo_poly.proofs.reading.terms_at.Goals as goal

pub monomial_at-requires-clause-index : goal.monomial_at-requires-clause-index
monomial_at-requires-clause-index c = index_at c.args.p.now c.loop-id.id-index c.loop-id-test.true c.requires

pub monomial_at-requires-clause-monomial : goal.monomial_at-requires-clause-monomial
monomial_at-requires-clause-monomial c = monomial_at c.args.p.now c.loop-id.id-index c.loop-id-test.true c.requires

pub loop-id-preserved : goal.loop-id-preserved
loop-id-preserved c =
    let p = c.args.p.now in
    let i = c.loop-id.id-index in
    let fits : FitsSigned w128 (item c.args.p.now.list.now c.loop-id.id-index).1 = search rules in
    c.in_ok-push.ensures.items
    ∙ ap₂ (λ (ts : Summands) (z : ℤ). ts ++ (c.in_ok-monomial_at.field-0, z) ∷ []) c.loop-id.invariant (to_z-of_z w128 (item p.list.now i).1 fits)
    ∙ ap₂ (λ (ts : Summands) (m : Powers). ts ++ (m, (item p.list.now i).1) ∷ []) refl c.in_ok-monomial_at.ensures
    ∙ sym (told-take p i c.loop-id-test.true)
