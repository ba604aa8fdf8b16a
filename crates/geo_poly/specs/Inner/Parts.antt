-- The terms of a polynomial that have a variable, and those that lack it.
use Rattle.std.specs.Prelude.{Bool, ◌==◌, not, ℤ}
use Rattle.geo_poly.specs.declared.variables.Var.{Var}
use Rattle.geo_poly.specs.Monomials.{Powers, exponent}

-- the term lacks the variable
abbrev pub lacks : Var → Powers × ℤ → Bool
lacks v t = exponent v t.0 == 0

-- the term has the variable
abbrev pub has : Var → Powers × ℤ → Bool
has v t = not (lacks v t)
