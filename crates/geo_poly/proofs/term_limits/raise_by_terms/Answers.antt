use Rattle.std.proofs.Common.{◌∙◌, ◌≤◌, take, ap, subst, arith, length}
use Rattle.std.proofs.lemmas.List.{take_all}
use Rattle.geo_poly.specs.Inner.ReplacedExponents.{exponent_bound}
use Rattle.geo_poly.specs.Polynomials.{Summands}
use Rattle.geo_poly.specs.Replace.{most_denominators}
use Rattle.geo_poly.specs.Shared.{told, told_term}
use Rattle.geo_poly.proofs.ExponentLimits.{AreLimits-less}
use Rattle.geo_poly.proofs.TermLimits.{exponent_bound-more}
use Rattle.geo_poly.proofs.Told.{index_at, item, length-terms_of, told-drop, told-take}
use Rattle.geo_poly.proofs.term_limits.raise_by_terms.Goals as goal

pub sum_up_term-requires-clause-index : goal.sum_up_term-requires-clause-index
sum_up_term-requires-clause-index c = index_at c.args.p.now c.loop-id.id-index c.loop-id-test.true c.requires.parts

pub sum_up_term-requires-clause-top : goal.sum_up_term-requires-clause-top
sum_up_term-requires-clause-top c =
    let shown = told-drop c.args.p.now c.loop-id.id-index c.loop-id-test.true in
    let fits = subst (λ (left : Summands). most_denominators c.args.rows.now left ≤ c.args.top) shown c.loop-id.invariant.top_fits in
    omega (arith, fits)

pub loop-id-init : goal.loop-id-init
loop-id-init c = record {
  room = c.requires.whole;
  whole = c.raise_by_rows.ensures.whole;
  top_fits = c.requires.top;
  so_far = λ den bound h g.
      AreLimits-less c.args.vars.now _ _ c.raise_by_rows.new.limits (λ v. omega arith)
      (c.raise_by_rows.ensures.limits c.args.vars.now c.args.rows.now bound c.requires.nums g);
}

pub loop-id-preserved : goal.loop-id-preserved
loop-id-preserved c =
    let p = c.args.p.now in
    let vars = c.args.vars.now in
    let rows = c.args.rows.now in
    let top = c.args.top in
    let i = c.loop-id.id-index in
    let t = told_term p (item p.list.now i) in
    let shown = told-drop p i c.loop-id-test.true in
    let fits = subst (λ (left : Summands). most_denominators rows left ≤ top) shown c.loop-id.invariant.top_fits in
    record {
      room = c.sum_up_term.ensures.whole;
      whole = c.raise_all.ensures.whole ∙ c.loop-id.invariant.whole;
      top_fits = omega (arith, fits);
      so_far = λ den bound h g.
          AreLimits-less vars _ _ c.raise_all.new.limits
          (λ v. omega (
            arith,
            ap (λ (q : Summands). exponent_bound v rows den top q) (told-take p i c.loop-id-test.true)
                ∙ exponent_bound-more v rows den top (take i (told p)) t,
          ))
          (c.raise_all.ensures.limits vars _ _ (c.loop-id.invariant.so_far den bound h g) (c.sum_up_term.ensures.limits den t.1 h));
    }

pub returns-clause-limits : goal.returns-clause-limits
returns-clause-limits c = λ den bound h g.
    let p = c.args.p.now in
    let past : length (told p) ≤ c.loop-id.id-index =
    omega (arith, c.loop-id-test.false, length-terms_of p.vars.now p.monos.now p.list.now) in
    AreLimits-less c.args.vars.now _ _ c.loop-id.limits
    (λ v. omega (arith, ap (λ (q : Summands). exponent_bound v c.args.rows.now den c.args.top q) (take_all c.loop-id.id-index (told p) past)))
    (c.loop-id.invariant.so_far den bound h g)
