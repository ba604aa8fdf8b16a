use Rattle.std.proofs.Common.{◌≡◌, ◌+◌, ◌-◌, ◌^◌, ◌≤◌, min, drop, subst, arith}
use Rattle.std.proofs.lemmas.List.{drop_all}
use Rattle.std.proofs.lemmas.List.Sums.{sum_by-cons}
use Rattle.geo_poly.specs.Polynomials.{Summands}
use Rattle.geo_poly.specs.Replace.{most_denominators, term_weight, weight_of}
use Rattle.geo_poly.specs.Shared.{told, told_term}
use Rattle.geo_poly.proofs.Told.{index_at, item, length-terms_of, told-drop}
use Rattle.geo_poly.proofs.replacement_bounds.weight_of_terms.Goals as goal

pub weight_at-requires-clause-index : goal.weight_at-requires-clause-index
weight_at-requires-clause-index c = index_at c.args.p.now c.loop-t.t-index c.loop-t-test.true c.requires.parts

pub weight_at-requires-clause-top : goal.weight_at-requires-clause-top
weight_at-requires-clause-top c =
    let shown = told-drop c.args.p.now c.loop-t.t-index c.loop-t-test.true in
    let fits = subst (λ (left : Summands). most_denominators c.args.rows.now left ≤ c.args.top) shown c.loop-t.invariant.top_fits in
    omega (arith, fits)

pub loop-t-preserved : goal.loop-t-preserved
loop-t-preserved c =
    let p = c.args.p.now in
    let rows = c.args.rows.now in
    let den = c.args.den.now in
    let top = c.args.top in
    let i = c.loop-t.t-index in
    let t = told_term p (item p.list.now i) in
    let x = min (weight_of rows den top (told p)) (2 ^ 128 - 1) in
    let shown = told-drop p i c.loop-t-test.true in
    let so_far = subst (λ (left : Summands). min (c.loop-t.weight + weight_of rows den top left) (2 ^ 128 - 1) ≡ x) shown c.loop-t.invariant.so_far in
    let fits = subst (λ (left : Summands). most_denominators rows left ≤ top) shown c.loop-t.invariant.top_fits in
    record {
      fits = omega (arith, c.saturating_add-weight.ensures);
      so_far = omega (arith, so_far, sum_by-cons (term_weight rows den top) t (drop (i + 1) (told p)), c.saturating_add-weight.ensures, c.weight_at.ensures);
      top_fits = omega (arith, fits);
    }

pub returns : goal.returns
returns c =
    let p = c.args.p.now in
    let past = drop_all c.loop-t.t-index (told p) (omega (arith, length-terms_of p.vars.now p.monos.now p.list.now, c.loop-t-test.false)) in
    let whole = subst (λ (left : Summands). min (c.loop-t.weight + weight_of c.args.rows.now c.args.den.now c.args.top left)
    (2 ^ 128 - 1) ≡ min (weight_of c.args.rows.now c.args.den.now c.args.top (told p)) (2 ^ 128 - 1))
    past c.loop-t.invariant.so_far in
    omega (arith, whole, c.loop-t.invariant.fits)
