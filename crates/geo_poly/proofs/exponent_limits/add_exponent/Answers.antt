use Rattle.std.proofs.Common.{◌+◌, ◌*◌, arith}
use Rattle.geo_poly.proofs.ExponentLimits.{AreLimits-at, AreLimits-less, AreLimits-none, exponent_of}
use Rattle.geo_poly.proofs.exponent_limits.add_exponent.Goals as goal

pub returns-in-Some : goal.returns-in-Some
returns-in-Some c = λ bound h.
    let vars = c.args.vars.now in
    let w = c.args.power.0 in
    let e = c.args.power.1 in
    let old = c.args.limits.now.items in
    let new = c.add_at.new.numbers.items in
    AreLimits-less vars (λ v. bound v + exponent_of v w e * c.args.times) _ new (λ v. omega arith)
    (AreLimits-at vars c.requires.rising w e c.args.times bound old new c.in-Some.place c.saturating_mul.result c.in-Some.ensures.0 c.in-Some.ensures.1
    c.saturating_mul.ensures (c.add_at.ensures.place (omega (arith, c.in-Some.ensures.0, h.whole))) c.add_at.ensures.others c.add_at.ensures.whole h)

pub returns-in-None : goal.returns-in-None
returns-in-None c = λ bound h.
    let vars = c.args.vars.now in
    AreLimits-less vars (λ v. bound v + exponent_of v c.args.power.0 c.args.power.1 * c.args.times) _ c.args.limits.now.items (λ v. omega arith)
    (AreLimits-none vars c.requires.rising c.args.power.0 c.args.power.1 c.args.times bound c.args.limits.now.items c.in-None.ensures h)
