use Rattle.std.proofs.Common.{ℕ, ◌+◌, ◌*◌, take}
use Rattle.geo_poly.specs.declared.variables.Var.{Var}
use Rattle.geo_poly.specs.Inner.Limits.{AreLimits}
use Rattle.geo_poly.specs.Monomials.{exponent}
use Rattle.geo_poly.specs.Replace.{others}
use Rattle.geo_poly.proofs.exponent_limits.add_others.Given as goal

abbrev pub invariant-loop-i : goal.invariant-loop-i
invariant-loop-i l =
    (bound : Var → ℕ) → AreLimits l.vars bound l.initial.limits.items
    → AreLimits l.vars (λ v. bound v + exponent v (others l.rows (take l.i l.exponents)) * 1) l.limits.items
