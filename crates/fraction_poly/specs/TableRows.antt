-- The rows of the lemma table: what they are, and what they promise.
use Rattle.std.specs.Prelude.{◌≡◌, ℕ, ◌<◌, ◌≤◌, max, Option, Some, slice_get}
use Rattle.ring_laws.specs.Powers.{power}
use Rattle.fraction_poly.specs.declared.table.RowNumbers.{RowNumbers}
use Rattle.fraction_poly.specs.Forms.{Form, PieceFits, piece_of}
use Rattle.fraction_poly.specs.Laws.{polynomial_value}
use Rattle.fraction_poly.specs.Measures.{capped_number}
use Rattle.ring_laws.proofs.Fractions.{fractions}
use Rattle.geo_points.specs.declared.ids.PointId.{PointId}
use Rattle.ring_laws.specs.Fraction.{IsNonzero, Same, times}
use Rattle.geo_points.specs.Placements.{Placement}
use Rattle.geo_points.specs.Points.{HasRatio}
use Rattle.geo_poly.specs.declared.rows.Piece.{Piece}
use Rattle.geo_poly.specs.declared.rows.Row.{Row}
use Rattle.geo_poly.specs.declared.variables.Var.{Var}
use Rattle.geo_poly.specs.declared.variables.Var.TheVariants.{R, S, P, X, Y, T}
use Rattle.geo_poly.specs.Values.{variable_value}
use Rattle.geo_terms.specs.declared.steps.Step.{Step}
use Rattle.geo_terms.specs.Constructions.{Construction, IsStepMet}

-- a row says of a variable that the variable times `den` to the power is `num`; `charge` is that of the numbers of the step that it uses
pub record TableRow : Type 0 where
  pub power : ℕ
  pub num : Form
  pub den : Form
  pub charge : ℕ

-- the rows of the variables at a point of a construction
abbrev pub RowTable : Type 0
RowTable = Construction → PointId → Var → Option TableRow

-- NUMBERS

-- the power, the weight, the count and the degree of both sides, and the charge
abbrev pub row_numbers : TableRow → RowNumbers
row_numbers r = record {
  power = r.power;
  wa = capped_number (piece_of r.num).weight;
  ka = capped_number (piece_of r.num).count;
  ga = capped_number (piece_of r.num).degree;
  wb = capped_number (piece_of r.den).weight;
  kb = capped_number (piece_of r.den).count;
  gb = capped_number (piece_of r.den).degree;
  charge = capped_number r.charge;
}

-- both sides are within the bounds of a polynomial
pub record RowFits (r : TableRow) : Type 0 where
  pub num : PieceFits (piece_of r.num)
  pub den : PieceFits (piece_of r.den)

-- the power is at most 2, and where the numerator is within the bounds of a polynomial, so is the denominator
pub record AreLight (n : RowNumbers) : Type 0 where
  pub power : n.power ≤ 2
  pub weight : n.wb ≤ max n.wa 2
  pub degree : n.gb ≤ max n.ga 1

-- THE ROW ITSELF

-- the row of a variable, with its numerator multiplied out, and the denominator
abbrev pub made_row : Var → TableRow → Row × Piece
made_row v r = (record { var = v; power = r.power; num = piece_of r.num }, piece_of r.den)

-- all points of the variable are below `points`
abbrev pub HasPointsBelow : ℕ → Var → Type 0
HasPointsBelow points (R a b c d) = (a.0 < points) × (b.0 < points) × (c.0 < points) × (d.0 < points)
HasPointsBelow points (S a b c) = (a.0 < points) × (b.0 < points) × (c.0 < points)
HasPointsBelow points (P a b c) = (a.0 < points) × (b.0 < points) × (c.0 < points)
HasPointsBelow points (X a) = a.0 < points
HasPointsBelow points (Y a) = a.0 < points
HasPointsBelow points (T t) = Unit {0}

-- WHAT A ROW PROMISES

-- the step that makes the point is met
abbrev pub IsPointMet : Placement → Construction → PointId → Type 0
IsPointMet placed c y = (step : Step) → slice_get c.steps y.0 ≡ Some step → IsStepMet placed c.nodes y.0 step

-- the variable has a value: a ratio has one where it is defined
abbrev pub HasVariable : Placement → Var → Type 0
HasVariable placed (R a b c d) = HasRatio (placed.point a.0) (placed.point b.0) (placed.point c.0) (placed.point d.0)
HasVariable placed _ = Unit {0}

-- the denominator is not 0, and the variable times the denominator to the power is the numerator
pub record RowHolds (placed : Placement) (row : Row) (den : Piece) : Type 0 where
  pub nonzero : IsNonzero (polynomial_value placed den.poly)
  pub equation : Same
      (times (variable_value placed.point placed.number row.var) (power fractions (polynomial_value placed den.poly) row.power))
      (polynomial_value placed row.num.poly)

-- each row of the table holds wherever the step of its point is met and its variable has a value
abbrev pub IsSound : RowTable → Type 0
IsSound table =
    (c : Construction) (y : PointId) (v : Var) (r : TableRow) → table c y v ≡ Some r
    → (placed : Placement) → IsPointMet placed c y → HasVariable placed v
    → RowHolds placed (made_row v r).0 (made_row v r).1

-- each row of the table holds wherever its variable has a value, whatever step makes its point
abbrev pub IsSoundAnywhere : RowTable → Type 0
IsSoundAnywhere table =
    (c : Construction) (y : PointId) (v : Var) (r : TableRow) → table c y v ≡ Some r
    → (placed : Placement) → HasVariable placed v
    → RowHolds placed (made_row v r).0 (made_row v r).1

-- each row of the table has a small power, and no denominator past the bounds of a polynomial where its numerator is within them
abbrev pub IsLight : RowTable → Type 0
IsLight table = (c : Construction) (y : PointId) (v : Var) (r : TableRow) → table c y v ≡ Some r → AreLight (row_numbers r)
