-- Lines by name: what lies on them, and their directions.
use Rattle.std.specs.Prelude.{◌≡◌, ℕ, pos, List, slice_index_or}
use Rattle.std.proofs.Common.{lit<}
use Rattle.ring_laws.specs.Fraction.{Fraction, Same, whole, plus, minus, times, negated}
use Rattle.geo_points.specs.Points.{squared_distance, Point, cross_product}
use Rattle.geo_points.specs.Vectors.{run, rise}

-- the line through A and B; that through P in the direction of another; that through P at a right angle to another; the points at equal
-- distance from A and B
pub data DrawnLine : Type 0 where
  through : Point → Point → DrawnLine
  alongside : Point → DrawnLine → DrawnLine
  upright : Point → DrawnLine → DrawnLine
  bisector : Point → Point → DrawnLine

-- a vector
pub record Direction : Type 0 where
  pub right : Fraction
  pub upwards : Fraction

-- a vector turned a quarter counter-clockwise
abbrev pub turned : Direction → Direction
turned d = record { right = negated d.upwards; upwards = d.right }

-- B - A
abbrev pub vector : Point → Point → Direction
vector A B = record { right = run A B; upwards = rise A B }

-- the direction of a line
abbrev pub direction : DrawnLine → Direction
direction (through A B) = vector A B
direction (alongside P l) = direction l
direction (upright P l) = turned (direction l)
direction (bisector A B) = turned (vector A B)

-- the cross product of two vectors: 0 where they are parallel
abbrev pub cross_direction : Direction → Direction → Fraction
cross_direction d e = minus (times d.right e.upwards) (times d.upwards e.right)

-- the dot product of two vectors: 0 where they are perpendicular
abbrev pub dot_direction : Direction → Direction → Fraction
dot_direction d e = plus (times d.right e.right) (times d.upwards e.upwards)

-- X lies on the line
abbrev pub IsOn : Point → DrawnLine → Type 0
IsOn X (through A B) = cross_product A B A X ≡ pos 0
IsOn X (alongside P l) = Same (cross_direction (vector P X) (direction l)) (whole (pos 0))
IsOn X (upright P l) = Same (dot_direction (vector P X) (direction l)) (whole (pos 0))
IsOn X (bisector A B) = Same (squared_distance X A) (squared_distance X B)

-- the directions are parallel
abbrev pub AreParallel : DrawnLine → DrawnLine → Type 0
AreParallel l m = Same (cross_direction (direction l) (direction m)) (whole (pos 0))

-- the point (0, 0)
abbrev pub zero_point : Point
zero_point = record { x = pos 0; y = pos 0; w = 1; positive = lit< tt }

-- the line at a place of a list; what stands past its end means nothing
abbrev pub line_at : List DrawnLine → ℕ → DrawnLine
line_at lines i = slice_index_or lines i (through zero_point zero_point)
