-- Placements: what the points and the parameters of a construction stand for.
use Rattle.std.specs.Prelude.{ℕ, ◌<◌}
use Rattle.ring_laws.specs.Fraction.{Fraction, Same}
use Rattle.geo_points.specs.Points.{Point, x_coordinate, y_coordinate}

-- a triple for each point and a fraction for each parameter, by their numbers
pub record Placement : Type 0 where
  pub point : ℕ → Point
  pub number : ℕ → Fraction

-- two triples are the same point: both coordinates are the same fractions
pub record SamePoint (A B : Point) : Type 0 where
  pub by_x : Same (x_coordinate A) (x_coordinate B)
  pub by_y : Same (y_coordinate A) (y_coordinate B)

-- two placements of `points` points and `numbers` parameters are the same: all their triples and fractions are
pub record SamePlacement (points numbers : ℕ) (p q : Placement) : Type 0 where
  pub same_points : (k : ℕ) → k < points → SamePoint (p.point k) (q.point k)
  pub same_numbers : (k : ℕ) → k < numbers → Same (p.number k) (q.number k)
