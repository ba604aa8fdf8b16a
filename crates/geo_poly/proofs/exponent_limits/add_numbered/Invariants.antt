use Rattle.std.proofs.Common.{ℕ, ◌+◌, ◌*◌}
use Rattle.geo_poly.specs.declared.variables.Var.{Var}
use Rattle.geo_poly.specs.Inner.Limits.{AreLimits}
use Rattle.geo_poly.specs.Monomials.{Powers, exponent}
use Rattle.geo_poly.proofs.ExponentLimits.{AreNamed}
use Rattle.geo_poly.proofs.exponent_limits.add_numbered.Given as goal

abbrev pub invariant-loop-i : goal.invariant-loop-i
invariant-loop-i l =
    (bound : Var → ℕ) → AreLimits l.vars bound l.initial.limits.items
    → (ps : Powers) × AreNamed l.p.vars.now l.numbers l.i ps × AreLimits l.vars (λ v. bound v + exponent v ps * l.times) l.limits.items
