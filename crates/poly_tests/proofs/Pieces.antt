-- A polynomial with its own numbers as bounds.
use Rattle.std.proofs.Common.{◌≤◌, max, length}
use Rattle.geo_poly.specs.Polynomials.{Summands, IsPolynomial, norm_of}
use Rattle.geo_poly.proofs.Lengths.{own_count_is_light}

-- its count is at most its weight, each 1 where it is 0
pub count_is_light : (p : Summands) → IsPolynomial p → max (length p) 1 ≤ max (norm_of p) 1
count_is_light = own_count_is_light
