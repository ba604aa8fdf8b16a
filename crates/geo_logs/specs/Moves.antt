-- Moves on a polynomial: what a move replaces, what it costs, where it is within its limits, and its exact result.
use Rattle.std.specs.Prelude.{◌≡◌, ◌≢◌, ℕ, zero, suc, ◌+◌, ◌*◌, ◌^◌, ◌<◌, ◌≤◌, Option, Some, None, [], sum_by}
use Rattle.std.specs.List.{filter_map}
use Rattle.geo_points.specs.declared.ids.PointId.{PointId}
use Rattle.geo_poly.specs.Counted.{term_products}
use Rattle.geo_poly.specs.declared.limits.Which.{Which}
use Rattle.geo_poly.specs.declared.limits.Which.TheVariants.{Norm, Degree}
use Rattle.geo_poly.specs.declared.rows.Piece.{Piece}
use Rattle.geo_poly.specs.declared.rows.Row.{Row}
use Rattle.geo_poly.specs.declared.variables.Var.{Var}
use Rattle.geo_poly.specs.Monomials.{Powers}
use Rattle.geo_poly.specs.Polynomials.{Summands}
use Rattle.geo_poly.specs.Replace.{most_denominators, replaced_by, replaced_weight, replaced_degree}
use Rattle.geo_terms.specs.Constructions.{Construction}
use Rattle.geo_logs.specs.declared.moves.Move.{Move}
use Rattle.geo_logs.specs.declared.moves.Move.TheVariants.{Ratio, Point, Coords}
use Rattle.geo_logs.specs.declared.moves.Replacement.{Replacement}
use Rattle.geo_poly.specs.PolynomialVariables.{variables_of}

-- STOPS
-- the charges pass the steps that were given, or a size passes its limit
pub data Stop : Type 0 where
  spent : Stop
  too_large : Which → Stop

-- the line is not paid; else its weight, and else its degree, passes its limit
abbrev pub IsLineStopped : ℕ → ℕ → ℕ → ℕ → Stop → Type 0
IsLineStopped left charge weight degree spent = left < charge
IsLineStopped left charge weight degree (too_large Norm) = (charge ≤ left) × (2 ^ 127 ≤ weight)
IsLineStopped left charge weight degree (too_large Degree) = (charge ≤ left) × (weight < 2 ^ 127) × (65535 < degree)

-- THE LEMMA TABLE
-- for a move: the row of a variable that it replaces, the denominator of its rows, and the charge of its step's number; and for a
-- point and a ratio with it the number of the first lemma by which the ratio goes
pub record Table : Type 0 where
  pub row : Construction → Move → Var → Option Row
  pub denominator : Construction → Move → Piece
  pub charge : Construction → Move → ℕ
  pub first_lemma : Construction → PointId → Var → ℕ

-- the point that a lemma looks at: lemma 0 looks at none
abbrev pub place_of_lemma : ℕ → PointId → Option PointId
place_of_lemma zero at = None
place_of_lemma (suc k) at = Some at

-- the point whose step a move looks at
abbrev pub place_of : Move → Option PointId
place_of (Ratio v lemma at) = place_of_lemma lemma at
place_of (Point at) = Some at
place_of Coords = None

-- what a move replaces in a polynomial: each of its variables that has a row
abbrev pub replacement : Table → Construction → Move → Summands → Replacement
replacement table c move q = record {
  rows = filter_map (table.row c move) (variables_of q);
  den = table.denominator c move;
  charge = table.charge c move;
}

-- THE CHARGE OF A MOVE
-- one more than the number of factors, times the counts of the factors: so many products of monomials it may take
abbrev pub term_charge : Replacement → ℕ → Powers → ℕ
term_charge made top m = term_products made.rows made.den top m

-- the charge of the step's number, 4 times the counts of the numerators and of the denominator, and the charges of the terms
abbrev pub move_charge : Replacement → Summands → ℕ
move_charge made q =
    made.charge + 4 * (sum_by (λ r. r.num.count) made.rows + made.den.count)
    + sum_by (λ t. term_charge made (most_denominators made.rows q) t.0) q

-- THE RESULT OF A MOVE
-- the move replaces something in q, is within its limits with so many steps left, and has the result r
pub record IsMoved (made : Replacement) (left : ℕ) (q r : Summands) : Type 0 where
  pub replaces : made.rows ≢ []
  pub paid : move_charge made q ≤ left
  pub weight_fits : replaced_weight made.rows made.den q < 2 ^ 127
  pub degree_fits : replaced_degree made.rows made.den q ≤ 65535
  pub result : r ≡ replaced_by made.rows made.den.poly q

-- the move is stopped: it is not paid; else its weight, and else its degree, passes its limit
abbrev pub IsMoveStopped : Replacement → ℕ → Summands → Stop → Type 0
IsMoveStopped made left q =
    IsLineStopped left (move_charge made q) (replaced_weight made.rows made.den q) (replaced_degree made.rows made.den q)
