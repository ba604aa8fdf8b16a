-- The laws that stand on the functions of `laws`.
use Rattle.std.specs.Prelude.{◌≡◌, pos, ◌↔◌}
use Rattle.ring_laws.specs.Fraction.{Fraction, Same, whole, plus, negated, minus, times}
use Rattle.geo_points.specs.Points.{Point, squared_distance, x_coordinate, y_coordinate, cross_product, signed_area, pythagoras_difference, HasRatio, ratio}
use Rattle.geo_points.specs.Placements.{SamePoint}
use Rattle.geo_points.specs.Steps.{IsAlong, IsCrossing, IsFoot, IsTurned, IsWeighted}
use Rattle.geo_points.specs.Vectors.{Differ, run, rise}

-- twice the signed area is the cross product of two sides; a swap of two corners turns its sign, a turn of all three keeps it, and it is 0
-- just where the corners lie on a line
pub record SignedAreaTurns : Type 0 where
  pub doubled : (A B C : Point)
      → Same (times (whole (pos 2)) (signed_area A B C))
      (minus (times (minus (x_coordinate B) (x_coordinate A)) (minus (y_coordinate C) (y_coordinate A)))
      (times (minus (y_coordinate B) (y_coordinate A)) (minus (x_coordinate C) (x_coordinate A))))
  pub swapped : (A B C : Point) → Same (signed_area A C B) (negated (signed_area A B C))
  pub turned : (A B C : Point) → Same (signed_area B C A) (signed_area A B C)
  pub repeated : (A B : Point) → Same (signed_area A A B) (whole (pos 0))
  pub collinear : (A B C : Point) → Same (signed_area A B C) (whole (pos 0)) ↔ (cross_product A B A C ≡ pos 0)

-- a Pythagoras difference is AB² + CB² - AC²; so its ends may be swapped, and P_ABA is P_BAB
pub record PythagorasDifferenceIsOfSquares : Type 0 where
  pub squares : (A B C : Point)
      → Same (pythagoras_difference A B C) (minus (plus (squared_distance A B) (squared_distance C B)) (squared_distance A C))
  pub swapped : (A B C : Point) → Same (pythagoras_difference C B A) (pythagoras_difference A B C)
  pub length : (A B : Point) → Same (pythagoras_difference A B A) (pythagoras_difference B A B)

-- where the ratio k = AB / CD is defined, k (D - C) = B - A in both coordinates
abbrev pub RatioScales : Type 0
RatioScales =
    (A B C D : Point) → HasRatio A B C D
    → Same (times (ratio A B C D) (minus (x_coordinate D) (x_coordinate C))) (minus (x_coordinate B) (x_coordinate A))
    × Same (times (ratio A B C D) (minus (y_coordinate D) (y_coordinate C))) (minus (y_coordinate B) (y_coordinate A))

-- an area, a Pythagoras difference and a ratio depend on the points alone: other triples for the same points give the same fractions
pub record QuantitiesAreOfPoints : Type 0 where
  pub areas : (A B C A' B' C' : Point) → SamePoint A A' → SamePoint B B' → SamePoint C C' → Same (signed_area A B C) (signed_area A' B' C')
  pub differences : (A B C A' B' C' : Point) → SamePoint A A' → SamePoint B B' → SamePoint C C'
      → Same (pythagoras_difference A B C) (pythagoras_difference A' B' C')
  pub ratios : (A B C D A' B' C' D' : Point) → SamePoint A A' → SamePoint B B' → SamePoint C C' → SamePoint D D' → HasRatio A B C D
      → HasRatio A' B' C' D' × Same (ratio A B C D) (ratio A' B' C' D')

-- the step Y - W = r (V - U) holds just where it holds in both coordinates, and some point meets it, and no other does
pub record AlongMakesOnePoint : Type 0 where
  pub coordinates : (W U V : Point) (r : Fraction) (Y : Point) → IsAlong W U V r Y
      ↔ (Same (minus (x_coordinate Y) (x_coordinate W)) (times r (minus (x_coordinate V) (x_coordinate U)))
      × Same (minus (y_coordinate Y) (y_coordinate W)) (times r (minus (y_coordinate V) (y_coordinate U))))
  pub exists : (W U V : Point) (r : Fraction) → (Y : Point) × IsAlong W U V r Y
  pub unique : (W U V : Point) (r : Fraction) (Y Z : Point) → IsAlong W U V r Y → IsAlong W U V r Z → SamePoint Y Z

-- two lines that are not parallel have one common point
pub record CrossingMakesOnePoint : Type 0 where
  pub exists : (U V P Q : Point) → (cross_product U V P Q ≡ pos 0 → ⊥) → (Y : Point) × IsCrossing U V P Q Y
  pub unique : (U V P Q Y Z : Point) → IsCrossing U V P Q Y → IsCrossing U V P Q Z → SamePoint Y Z

-- a point has one foot on the line of two points that differ
pub record FootMakesOnePoint : Type 0 where
  pub exists : (P U V : Point) → Differ U V → (Y : Point) × IsFoot P U V Y
  pub unique : (P U V Y Z : Point) → IsFoot P U V Y → IsFoot P U V Z → SamePoint Y Z

-- the step Y - U = r J (V - U) holds just where it holds in both coordinates, and some point meets it, and no other does
pub record TurnedMakesOnePoint : Type 0 where
  pub coordinates : (U V : Point) (r : Fraction) (Y : Point) → IsTurned U V r Y
      ↔ (Same (run U Y) (negated (times r (rise U V))) × Same (rise U Y) (times r (run U V)))
  pub exists : (U V : Point) (r : Fraction) → (Y : Point) × IsTurned U V r Y
  pub unique : (U V : Point) (r : Fraction) (Y Z : Point) → IsTurned U V r Y → IsTurned U V r Z → SamePoint Y Z

-- the step Y - O = r (U - O) + s (V - O) holds just where it holds in both coordinates, and some point meets it, and no other does
pub record WeightsMakeOnePoint : Type 0 where
  pub coordinates : (O U V : Point) (r s : Fraction) (Y : Point) → IsWeighted O U V r s Y
      ↔ (Same (run O Y) (plus (times r (run O U)) (times s (run O V))) × Same (rise O Y) (plus (times r (rise O U)) (times s (rise O V))))
  pub exists : (O U V : Point) (r s : Fraction) → (Y : Point) × IsWeighted O U V r s Y
  pub unique : (O U V : Point) (r s : Fraction) (Y Z : Point) → IsWeighted O U V r s Y → IsWeighted O U V r s Z → SamePoint Y Z
