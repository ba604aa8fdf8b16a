use Rattle.std.proofs.Common.{ℕ, ◌+◌, take}
use Rattle.geo_poly.specs.declared.variables.Var.{Var}
use Rattle.geo_poly.specs.Inner.Limits.{AreLimits, exponents_of_rows}
use Rattle.geo_poly.proofs.exponent_limits.add_rows.Given as goal

abbrev pub invariant-loop-row : goal.invariant-loop-row
invariant-loop-row l =
    (bound : Var → ℕ) → AreLimits l.vars bound l.initial.limits.items
    → AreLimits l.vars (λ v. bound v + exponents_of_rows v (take l.row-index l.rows) l.own) l.limits.items
