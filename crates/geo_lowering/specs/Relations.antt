-- What the commands say of the point X that they make, in the points that they name. `pratio`, `tratio`, `lratio`, `online` and
-- `weights` say what their step does.
use Rattle.std.specs.Prelude.{◌≡◌, ◌*◌, pos, ◌+ℤ◌, ◌*ℤ◌}
use Rattle.std.proofs.Common.{mul-pos, lit<}
use Rattle.ring_laws.specs.Fraction.{Fraction, Same, whole, plus, minus, times}
use Rattle.geo_points.specs.Points.{squared_distance, Point, x_coordinate, y_coordinate, cross_product, dot_product}
use Rattle.geo_points.specs.Vectors.{run, rise, dot_value}

-- 1
abbrev pub one : Fraction
one = whole (pos 1)

-- 2
abbrev pub two : Fraction
two = whole (pos 2)

-- 3
abbrev pub three : Fraction
three = whole (pos 3)

-- 2/3
abbrev pub two_thirds : Fraction
two_thirds = record { numerator = pos 2; denominator = 3; positive = lit< tt }

-- X lies on the lines AB and CD
pub record IsOnBothLines (X A B C D : Point) : Type 0 where
  pub on_first : cross_product A B A X ≡ pos 0
  pub on_second : cross_product C D C X ≡ pos 0

-- X lies on the line AB, and PX is perpendicular to it
pub record IsProjection (X P A B : Point) : Type 0 where
  pub on_line : cross_product A B A X ≡ pos 0
  pub perpendicular : dot_product P X A B ≡ pos 0

-- 2 X = A + B
pub record IsMidpoint (X A B : Point) : Type 0 where
  pub by_x : Same (times two (x_coordinate X)) (plus (x_coordinate A) (x_coordinate B))
  pub by_y : Same (times two (y_coordinate X)) (plus (y_coordinate A) (y_coordinate B))

-- X - C = B - A
pub record IsTranslate (X A B C : Point) : Type 0 where
  pub by_x : Same (run C X) (run A B)
  pub by_y : Same (rise C X) (rise A B)

-- X - O = O - A
pub record IsSymmetric (X A O : Point) : Type 0 where
  pub by_x : Same (run O X) (run A O)
  pub by_y : Same (rise O X) (rise A O)

-- the middle of AB
abbrev pub middle : Point → Point → Point
middle A B = record {
  x = A.x *ℤ pos B.w +ℤ B.x *ℤ pos A.w;
  y = A.y *ℤ pos B.w +ℤ B.y *ℤ pos A.w;
  w = 2 * A.w * B.w;
  positive = mul-pos (mul-pos (lit< tt) A.positive) B.positive;
}

-- the middle of AX lies on the line PQ, and (X - A) . (Q - P) = 0
pub record IsReflection (X A P Q : Point) : Type 0 where
  pub halfway : cross_product P Q P (middle A X) ≡ pos 0
  pub perpendicular : dot_product A X P Q ≡ pos 0

-- XA² = XB² = XC²
pub record IsCircumcenter (X A B C : Point) : Type 0 where
  pub first : Same (squared_distance X A) (squared_distance X B)
  pub second : Same (squared_distance X B) (squared_distance X C)

-- (X - A) . (B - C) = 0 and (X - B) . (A - C) = 0
pub record IsOrthocenter (X A B C : Point) : Type 0 where
  pub first : dot_product A X C B ≡ pos 0
  pub second : dot_product B X C A ≡ pos 0

-- 3 X = A + B + C
pub record IsCentroid (X A B C : Point) : Type 0 where
  pub by_x : Same (times three (x_coordinate X)) (plus (plus (x_coordinate A) (x_coordinate B)) (x_coordinate C))
  pub by_y : Same (times three (y_coordinate X)) (plus (plus (y_coordinate A) (y_coordinate B)) (y_coordinate C))

-- OX² = OA², and (X - A) x ((O - A) + t J (A - O)) = 0, where J turns a vector a quarter counter-clockwise
pub record IsOnCircle (X O A : Point) (t : Fraction) : Type 0 where
  pub distance : Same (squared_distance O X) (squared_distance O A)
  pub aligned : Same
      (minus (times (run A X) (plus (rise A O) (times t (run O A)))) (times (rise A X) (minus (run A O) (times t (rise O A)))))
      (whole (pos 0))

-- X lies on the line AB, and OX² = OA²
pub record IsOnLineAndCircle (X A B O : Point) : Type 0 where
  pub on_line : cross_product A B A X ≡ pos 0
  pub distance : Same (squared_distance O X) (squared_distance O A)

-- OX² = OA² and PX² = PA²
pub record IsOnBothCircles (X O P A : Point) : Type 0 where
  pub first : Same (squared_distance O X) (squared_distance O A)
  pub second : Same (squared_distance P X) (squared_distance P A)

-- (P - O) x (X - O) = 0 and (X - O) . (P - O) = OA²
pub record IsInverse (X P O A : Point) : Type 0 where
  pub on_line : cross_product O P O X ≡ pos 0
  pub product : Same (dot_value O X O P) (squared_distance O A)

-- ---- four points on a circle or on a line
-- x² + y²
abbrev pub squared_norm : Point → Fraction
squared_norm A = plus (times (x_coordinate A) (x_coordinate A)) (times (y_coordinate A) (y_coordinate A))

-- the determinant of the rows (x, y, 1) of A, B and C
abbrev pub minor : Point → Point → Point → Fraction
minor A B C =
    plus
    (plus (minus (times (x_coordinate A) (y_coordinate B)) (times (x_coordinate B) (y_coordinate A)))
    (minus (times (x_coordinate B) (y_coordinate C)) (times (x_coordinate C) (y_coordinate B))))
    (minus (times (x_coordinate C) (y_coordinate A)) (times (x_coordinate A) (y_coordinate C)))

-- the determinant of the rows (x² + y², x, y, 1) of A, B, C and D, by its first column
abbrev pub circle_determinant : Point → Point → Point → Point → Fraction
circle_determinant A B C D =
    minus (plus (minus (times (squared_norm A) (minor B C D)) (times (squared_norm B) (minor A C D)))
    (times (squared_norm C) (minor A B D)))
    (times (squared_norm D) (minor A B C))
