-- Points of the plane with rational coordinates, and the quantities of the area method on them.
use Rattle.std.specs.Prelude.{◌≡◌, ℕ, zero, suc, Bool, true, false, ◌*◌, ◌<◌, ℤ, pos, negsuc, ◌+ℤ◌, ◌-ℤ◌, ◌*ℤ◌}
use Rattle.std.proofs.Common.{mul-pos, lit<}
use Rattle.ring_laws.specs.Fraction.{Fraction, minus, plus, quotient, times}

-- the point (x / w, y / w), as a triple of whole numbers with w at least 1
pub record Point : Type 0 where
  pub x : ℤ
  pub y : ℤ
  pub w : ℕ
  pub positive : 0 < w

-- the first coordinate of a point
abbrev pub x_coordinate : Point → Fraction
x_coordinate A = record { numerator = A.x; denominator = A.w; positive = A.positive }

-- the second coordinate of a point
abbrev pub y_coordinate : Point → Fraction
y_coordinate A = record { numerator = A.y; denominator = A.w; positive = A.positive }

-- ---- vectors
-- the first coordinate of the vector from A to B, times A.w B.w
abbrev pub x_difference : Point → Point → ℤ
x_difference A B = B.x *ℤ pos A.w -ℤ A.x *ℤ pos B.w

-- the second coordinate of the vector from A to B, times A.w B.w
abbrev pub y_difference : Point → Point → ℤ
y_difference A B = B.y *ℤ pos A.w -ℤ A.y *ℤ pos B.w

-- the first coordinate of the vector from A to B
abbrev pub x_component : Point → Point → Fraction
x_component A B = record { numerator = x_difference A B; denominator = A.w * B.w; positive = mul-pos A.positive B.positive }

-- the second coordinate of the vector from A to B
abbrev pub y_component : Point → Point → Fraction
y_component A B = record { numerator = y_difference A B; denominator = A.w * B.w; positive = mul-pos A.positive B.positive }

-- the cross product of the vectors AB and CD, times A.w B.w C.w D.w: 0 where they are parallel
abbrev pub cross_product : Point → Point → Point → Point → ℤ
cross_product A B C D = x_difference A B *ℤ y_difference C D -ℤ y_difference A B *ℤ x_difference C D

-- the dot product of the vectors AB and CD, times A.w B.w C.w D.w: 0 where they are perpendicular
abbrev pub dot_product : Point → Point → Point → Point → ℤ
dot_product A B C D = x_difference A B *ℤ x_difference C D +ℤ y_difference A B *ℤ y_difference C D

-- ---- areas
-- the 3 by 3 determinant of the rows (x, y, w) of A, B and C
abbrev pub determinant : Point → Point → Point → ℤ
determinant A B C =
    A.x *ℤ (B.y *ℤ pos C.w -ℤ C.y *ℤ pos B.w) -ℤ A.y *ℤ (B.x *ℤ pos C.w -ℤ C.x *ℤ pos B.w)
    +ℤ pos A.w *ℤ (B.x *ℤ C.y -ℤ C.x *ℤ B.y)

-- the signed area of the triangle ABC, half of (B - A) × (C - A): above 0 where A, B, C run counter-clockwise
unfoldable pub signed_area : Point → Point → Point → Fraction
signed_area A B C = record {
  numerator = determinant A B C;
  denominator = 2 * A.w * B.w * C.w;
  positive = mul-pos (mul-pos (mul-pos (lit< tt) A.positive) B.positive) C.positive;
}

-- ---- Pythagoras differences
-- the Pythagoras difference of A, B and C, 2 (A - B) · (C - B), which is AB² + CB² - AC²
unfoldable pub pythagoras_difference : Point → Point → Point → Fraction
pythagoras_difference A B C = record {
  numerator =
      pos 2
      *ℤ ((A.x *ℤ pos B.w -ℤ B.x *ℤ pos A.w) *ℤ (C.x *ℤ pos B.w -ℤ B.x *ℤ pos C.w)
      +ℤ (A.y *ℤ pos B.w -ℤ B.y *ℤ pos A.w) *ℤ (C.y *ℤ pos B.w -ℤ B.y *ℤ pos C.w));
  denominator = A.w * C.w * B.w * B.w;
  positive = mul-pos (mul-pos (mul-pos A.positive C.positive) B.positive) B.positive;
}

-- the square of the distance of A and B
abbrev pub squared_distance : Point → Point → Fraction
squared_distance A B =
    let x = minus (x_coordinate B) (x_coordinate A) in
    let y = minus (y_coordinate B) (y_coordinate A) in
    plus (times x x) (times y y)

-- ---- ratios
-- the ratio AB / CD is defined: C differs from D, and AB is parallel to CD
pub record HasRatio (A B C D : Point) : Type 0 where
  pub parallel : cross_product A B C D ≡ pos 0
  pub apart : x_difference C D ≡ pos 0 → y_difference C D ≡ pos 0 → ⊥

-- a whole number is 0
abbrev pub is_null : ℤ → Bool
is_null (pos zero) = true
is_null (pos (suc k)) = false
is_null (negsuc k) = false

-- the ratio AB / CD, where it is defined: the quotient of the first coordinates in which CD is not 0
abbrev pub ratio : Point → Point → Point → Point → Fraction
ratio A B C D =
    elim (is_null (x_difference C D)) [
      | true ↦ quotient (y_component A B) (y_component C D)
      | false ↦ quotient (x_component A B) (x_component C D)
    ]
