use Rattle.std.proofs.Common.{◌≡◌, max, subst, arith}
use Rattle.geo_poly.specs.Polynomials.{Summands}
use Rattle.geo_poly.specs.Replace.{denominators, most_denominators}
use Rattle.geo_poly.specs.Shared.{told, told_powers}
use Rattle.geo_poly.proofs.Told.{index_at, item, monomial_at, told-drop}
use Rattle.geo_poly.proofs.replacement_bounds.most_denominators_of.Goals as goal
use Rattle.geo_poly.proofs.replacement_bounds.most_denominators_of.Goals.{then-denominators-most, else-denominators-most}

pub denominators_at-denominators-requires-clause-index : goal.denominators_at-denominators-requires-clause-index
denominators_at-denominators-requires-clause-index c = index_at c.args.p.now c.loop-id.id-index c.loop-id-test.true c.requires.parts

pub denominators_at-denominators-requires-clause-monomial : goal.denominators_at-denominators-requires-clause-monomial
denominators_at-denominators-requires-clause-monomial c = monomial_at c.args.p.now c.loop-id.id-index c.loop-id-test.true c.requires.parts

pub loop-id-preserved : goal.loop-id-preserved
loop-id-preserved c =
    let p = c.args.p.now in
    let rows = c.args.rows.now in
    let i = c.loop-id.id-index in
    let shown = told-drop p i c.loop-id-test.true in
    let so_far = subst (λ (left : Summands). max c.loop-id.most (most_denominators rows left) ≡ most_denominators rows (told p)) shown c.loop-id.invariant in
    let here : c.denominators_at-denominators.result ≡ denominators rows (told_powers p (item p.list.now i).0) = c.denominators_at-denominators.ensures in
    let joined : c.if-denominators-most.most ≡ max c.loop-id.most c.denominators_at-denominators.result =
    elim c.if-denominators-most.branch [ then-denominators-most w ↦ omega arith | else-denominators-most w ↦ omega arith ] in
    omega (arith, joined, here, so_far)
