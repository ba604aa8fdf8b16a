use Rattle.std.proofs.Common.{sym, subst}
use Rattle.geo_poly.specs.Inner.Limits.{HaveRoom}
use Rattle.mono_store.specs.Words.{Limits}
use Rattle.geo_poly.proofs.ExponentLimits.{HaveRoom-limits, some_weaker}
use Rattle.geo_poly.proofs.exponent_limits.digits_for.Goals as goal

pub returns : goal.returns
returns c = λ bound h.
    let vars = c.args.vars.now in
    let limits = c.args.limits.now in
    some_weaker c.in_ok-new.field-0 _ _
    (λ f is. subst (λ (ws : Limits). HaveRoom vars ws bound) (sym is)
    (HaveRoom-limits vars bound limits (c.is_saturated.ensures c.if-is_saturated.false) h))
    c.in_ok-new.ensures.digits
