use Rattle.std.proofs.Common.{ℕ, List, ◌+◌, ◌*◌, max, take, ap, arith, ◌∙◌}
use Rattle.std.proofs.lemmas.List.{take_all}
use Rattle.geo_poly.specs.declared.rows.Row.{Row}
use Rattle.geo_poly.specs.declared.variables.Var.{Var}
use Rattle.geo_poly.specs.Inner.Keyed.{greatest_exponent}
use Rattle.geo_poly.specs.Inner.Limits.{exponents_of_rows}
use Rattle.geo_poly.specs.Monomials.{exponent}
use Rattle.geo_poly.specs.Polynomials.{Summands}
use Rattle.geo_poly.proofs.ExponentLimits.{AreLimits-capped, AreLimits-less, exponents_of_rows-take}
use Rattle.geo_poly.proofs.exponent_limits.add_rows.Goals as goal

pub loop-row-preserved : goal.loop-row-preserved
loop-row-preserved c = λ bound h.
    let vars = c.args.vars.now in
    let own = c.args.own.now in
    let rows = c.args.rows.now in
    let i = c.loop-row.row-index in
    let r = c.row-item.result in
    let t = c.max.result in
    let limits = c.add_bounds.new.limits.items in
    let so_far = λ (v : Var). bound v + exponents_of_rows v (take i rows) own in
    AreLimits-capped vars so_far (λ v. greatest_exponent v r.num.poly) _ (exponent r.var own) t limits
    (λ v. omega (arith, exponents_of_rows-take v rows own i r c.loop-row-test.true c.row-item.is))
    (c.max.ensures ∙ ap (λ (k : ℕ). max k 1) c.exponent_in-times.ensures)
    (AreLimits-less vars _ (λ v. so_far v + greatest_exponent v r.num.poly * t) limits
    (λ v. omega (arith, ap (λ (q : Summands). greatest_exponent v q * t) c.shared.ensures.terms))
    (c.in_ok-add_bounds.ensures so_far (c.loop-row.invariant bound h)))

pub returns : goal.returns
returns c = λ bound h.
    let own = c.args.own.now in
    AreLimits-less c.args.vars.now _ _ c.loop-row.limits.items
    (λ v. omega (arith, ap (λ (rs : List Row). exponents_of_rows v rs own) (take_all c.loop-row.row-index c.args.rows.now (omega arith))))
    (c.loop-row.invariant bound h)
