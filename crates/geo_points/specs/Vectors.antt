-- Vectors between points, with their coordinates as fractions.
use Rattle.ring_laws.specs.Fraction.{Fraction, plus, minus, times}
use Rattle.geo_points.specs.Points.{Point, x_coordinate, y_coordinate}
use Rattle.geo_points.specs.Placements.{SamePoint}

-- the triples stand for two points
abbrev pub Differ : Point → Point → Type 0
Differ A B = SamePoint A B → ⊥

-- the first coordinate of B - A
abbrev pub run : Point → Point → Fraction
run A B = minus (x_coordinate B) (x_coordinate A)

-- the second coordinate of B - A
abbrev pub rise : Point → Point → Fraction
rise A B = minus (y_coordinate B) (y_coordinate A)

-- (B - A) . (D - C)
abbrev pub dot_value : Point → Point → Point → Point → Fraction
dot_value A B C D = plus (times (run A B) (run C D)) (times (rise A B) (rise C D))
