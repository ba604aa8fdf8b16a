use Rattle.std.proofs.Common.{◌≡◌, ◌-◌, ◌^◌, ◌≤◌, min, max, pos, subst, arith}
use Rattle.std.proofs.lemmas.List.{drop_all}
use Rattle.geo_poly.specs.Polynomials.{Summands}
use Rattle.geo_poly.specs.Replace.{degree_bound, most_denominators, term_degree}
use Rattle.geo_poly.specs.Shared.{told, told_powers, told_term}
use Rattle.geo_poly.proofs.Told.{index_at, item, length-terms_of, monomial_at, told-drop}
use Rattle.geo_poly.proofs.replacement_bounds.degree_of_terms.Goals as goal
use Rattle.geo_poly.proofs.replacement_bounds.degree_of_terms.Goals.{then-of_term-degree, else-of_term-degree}

pub degree_at-of_term-requires-clause-index : goal.degree_at-of_term-requires-clause-index
degree_at-of_term-requires-clause-index c = index_at c.args.p.now c.loop-id.id-index c.loop-id-test.true c.requires.parts

pub degree_at-of_term-requires-clause-monomial : goal.degree_at-of_term-requires-clause-monomial
degree_at-of_term-requires-clause-monomial c = monomial_at c.args.p.now c.loop-id.id-index c.loop-id-test.true c.requires.parts

pub degree_at-of_term-requires-clause-top : goal.degree_at-of_term-requires-clause-top
degree_at-of_term-requires-clause-top c =
    let shown = told-drop c.args.p.now c.loop-id.id-index c.loop-id-test.true in
    let fits = subst (λ (left : Summands). most_denominators c.args.rows.now left ≤ c.args.top) shown c.loop-id.invariant.top_fits in
    omega (arith, fits)

pub loop-id-preserved : goal.loop-id-preserved
loop-id-preserved c =
    let p = c.args.p.now in
    let rows = c.args.rows.now in
    let den = c.args.den.now in
    let top = c.args.top in
    let i = c.loop-id.id-index in
    let t = told_term p (item p.list.now i) in
    let x = min (degree_bound rows den top (told p)) (2 ^ 128 - 1) in
    let d = c.loop-id.degree in
    let shown = told-drop p i c.loop-id-test.true in
    let so_far = subst (λ (left : Summands). min (max d (degree_bound rows den top left)) (2 ^ 128 - 1) ≡ x) shown c.loop-id.invariant.so_far in
    let fits = subst (λ (left : Summands). most_denominators rows left ≤ top) shown c.loop-id.invariant.top_fits in
    let of_term : c.degree_at-of_term.result ≡ min (term_degree rows den top (told_powers p (item p.list.now i).0, pos 1)) (2 ^ 128 - 1) = c.degree_at-of_term.ensures in
    let joined : c.if-of_term-degree.degree ≡ max c.loop-id.degree c.degree_at-of_term.result =
    elim c.if-of_term-degree.branch [ then-of_term-degree w ↦ omega arith | else-of_term-degree w ↦ omega arith ] in
    record {
      fits = omega (arith, joined, of_term, c.loop-id.invariant.fits);
      so_far = omega (arith, joined, of_term, so_far);
      top_fits = omega (arith, fits);
    }

pub returns : goal.returns
returns c =
    let p = c.args.p.now in
    let past = drop_all c.loop-id.id-index (told p) (omega (arith, length-terms_of p.vars.now p.monos.now p.list.now, c.loop-id-test.false)) in
    let whole = subst (λ (left : Summands). min (max c.loop-id.degree (degree_bound c.args.rows.now c.args.den.now c.args.top left))
    (2 ^ 128 - 1) ≡ min (degree_bound c.args.rows.now c.args.den.now c.args.top (told p)) (2 ^ 128 - 1))
    past c.loop-id.invariant.so_far in
    omega (arith, whole, c.loop-id.invariant.fits)
