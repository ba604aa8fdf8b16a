use Rattle.std.proofs.Common.{ℕ, ◌+◌, ◌*◌, ap, arith}
use Rattle.geo_poly.proofs.ExponentLimits.{AreLimits-less}
use Rattle.geo_poly.proofs.term_limits.add_times.Goals as goal

pub returns-then-times-eq1-clause-limits : goal.returns-then-times-eq1-clause-limits
returns-then-times-eq1-clause-limits c = λ vars bound more h g.
    AreLimits-less vars (λ v. bound v + more v * 1) _ c.add_all.new.limits
    (λ v. omega (arith, ap (λ (n : ℕ). more v * n) c.if-times-eq1.true)) (c.add_all.ensures.limits vars bound more h g)
