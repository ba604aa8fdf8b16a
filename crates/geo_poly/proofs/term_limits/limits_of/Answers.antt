use Rattle.std.proofs.Common.{arith}
use Rattle.geo_poly.proofs.ExponentLimits.{AreLimits-less}
use Rattle.geo_poly.proofs.term_limits.limits_of.Goals as goal

pub returns : goal.returns
returns c =
    AreLimits-less c.args.vars.now _ _ c.add_polynomial.new.limits.items (λ v. omega arith)
    (c.in_ok-add_polynomial.ensures (λ v. 0) c.in_ok-limits.ensures)
