use Rattle.std.proofs.Common.{List, ◌++◌, ◌∷◌, [], take, sym, ap, subst, arith}
use Rattle.geo_poly.specs.declared.rows.Row.{Row}
use Rattle.geo_poly.specs.declared.term_limits.ExponentLimits.{ExponentLimits}
use Rattle.geo_poly.specs.Inner.Keyed.{greatest_exponent}
use Rattle.geo_poly.specs.Inner.Limits.{AreLimitsOfRows}
use Rattle.geo_poly.proofs.ExponentLimits.{AreLimits-less}
use Rattle.geo_poly.proofs.TermLimits.{AreLimitsOfRows-push}
use Rattle.geo_poly.proofs.Told.{take_more}
use Rattle.geo_poly.proofs.term_limits.limits_of_rows.Goals as goal

pub loop-row-init : goal.loop-row-init
loop-row-init c = subst (λ (nums : List ExponentLimits). AreLimitsOfRows c.args.vars.now [] nums) (sym c.in_ok-nums.ensures.items) tt

pub loop-row-preserved : goal.loop-row-preserved
loop-row-preserved c =
    let vars = c.args.vars.now in
    let rows = c.args.rows.now in
    let row = c.row-item.result in
    let i = c.loop-row.row-index in
    let nums = c.loop-row.nums.items in
    let num : ExponentLimits = record { items = c.in_ok-items.items } in
    rw c.in_ok-push.ensures.items
    (subst (λ (rs : List Row). AreLimitsOfRows vars rs (nums ++ num ∷ [])) (sym (take_more rows i row c.loop-row-test.true c.row-item.is))
    (AreLimitsOfRows-push vars (take i rows) nums row num c.loop-row.invariant
    (AreLimits-less vars _ _ c.in_ok-items.items.items (λ v. omega (arith, ap (greatest_exponent v) c.shared.ensures.terms)) c.in_ok-items.ensures)))
