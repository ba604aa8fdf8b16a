-- The value of a polynomial in a commutative ring, where each variable has a value.
use Rattle.std.specs.Prelude.{ℕ, suc, ℤ, pos, negsuc, [], ◌∷◌}
use Rattle.ring_laws.specs.Ring.{Ring}
use Rattle.ring_laws.specs.Solver.{natural}
use Rattle.ring_laws.specs.Powers.{power}
use Rattle.ring_laws.specs.Fraction.{Fraction}
use Rattle.geo_points.specs.Points.{Point, ratio, signed_area, pythagoras_difference, x_coordinate, y_coordinate}
use Rattle.geo_poly.specs.declared.variables.Var.{Var}
use Rattle.geo_poly.specs.declared.variables.Var.TheVariants.{R, S, P, X, Y, T}
use Rattle.geo_poly.specs.Monomials.{Powers}
use Rattle.geo_poly.specs.Polynomials.{Summands}

-- a whole number as an element of the ring
abbrev pub integer : (ring : Ring) → ℤ → ring.carrier
integer ring (pos n) = natural ring n
integer ring (negsuc n) = ring.neg (natural ring (suc n))

-- the product of the powers of the variables
abbrev pub monomial_value : (ring : Ring) → (Var → ring.carrier) → Powers → ring.carrier
monomial_value ring x [] = ring.one
monomial_value ring x (p ∷ m) = ring.mul (power ring (x p.0) p.1) (monomial_value ring x m)

-- the sum of the terms
abbrev pub value : (ring : Ring) → (Var → ring.carrier) → Summands → ring.carrier
value ring x [] = ring.zero
value ring x (t ∷ ts) = ring.add (ring.mul (integer ring t.1) (monomial_value ring x t.0)) (value ring x ts)

-- the value of a variable, where the points and the parameters have values
abbrev pub variable_value : (ℕ → Point) → (ℕ → Fraction) → Var → Fraction
variable_value at number (R a b c d) = ratio (at a.0) (at b.0) (at c.0) (at d.0)
variable_value at number (S a b c) = signed_area (at a.0) (at b.0) (at c.0)
variable_value at number (P a b c) = pythagoras_difference (at a.0) (at b.0) (at c.0)
variable_value at number (X a) = x_coordinate (at a.0)
variable_value at number (Y a) = y_coordinate (at a.0)
variable_value at number (T t) = number t.0
