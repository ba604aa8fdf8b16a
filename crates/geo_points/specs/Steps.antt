-- The steps that make a point, as equations of whole numbers: all denominators are multiplied out.
use Rattle.std.specs.Prelude.{◌≡◌, pos, ◌+ℤ◌, ◌*ℤ◌, neg_ℤ}
use Rattle.ring_laws.specs.Fraction.{Fraction}
use Rattle.geo_points.specs.Points.{Point, x_difference, y_difference, cross_product, dot_product}

-- Y - W = r (V - U): from W, Y lies r times the vector UV on
pub record IsAlong (W U V : Point) (r : Fraction) (Y : Point) : Type 0 where
  pub by_x : pos r.denominator *ℤ pos U.w *ℤ pos V.w *ℤ x_difference W Y ≡ r.numerator *ℤ pos W.w *ℤ pos Y.w *ℤ x_difference U V
  pub by_y : pos r.denominator *ℤ pos U.w *ℤ pos V.w *ℤ y_difference W Y ≡ r.numerator *ℤ pos W.w *ℤ pos Y.w *ℤ y_difference U V

-- Y lies on the lines UV and PQ, which are not parallel
pub record IsCrossing (U V P Q Y : Point) : Type 0 where
  pub on_first : cross_product U V U Y ≡ pos 0
  pub on_second : cross_product P Q P Y ≡ pos 0
  pub crosses : cross_product U V P Q ≡ pos 0 → ⊥

-- Y lies on the line UV of two points that differ, and PY is perpendicular to it
pub record IsFoot (P U V Y : Point) : Type 0 where
  pub on_line : cross_product U V U Y ≡ pos 0
  pub perpendicular : dot_product P Y U V ≡ pos 0
  pub apart : x_difference U V ≡ pos 0 → y_difference U V ≡ pos 0 → ⊥

-- Y - U = r J (V - U): from U, Y lies r times the vector UV, turned a quarter counter-clockwise, on
pub record IsTurned (U V : Point) (r : Fraction) (Y : Point) : Type 0 where
  pub by_x : pos r.denominator *ℤ pos U.w *ℤ pos V.w *ℤ x_difference U Y ≡ neg_ℤ (r.numerator *ℤ pos U.w *ℤ pos Y.w *ℤ y_difference U V)
  pub by_y : pos r.denominator *ℤ pos U.w *ℤ pos V.w *ℤ y_difference U Y ≡ r.numerator *ℤ pos U.w *ℤ pos Y.w *ℤ x_difference U V

-- Y - O = r (U - O) + s (V - O): seen from O, Y has the weight r at U and s at V
pub record IsWeighted (O U V : Point) (r s : Fraction) (Y : Point) : Type 0 where
  pub by_x :
      pos r.denominator *ℤ pos s.denominator *ℤ pos U.w *ℤ pos V.w *ℤ x_difference O Y
      ≡ r.numerator *ℤ pos s.denominator *ℤ pos V.w *ℤ pos Y.w *ℤ x_difference O U
      +ℤ s.numerator *ℤ pos r.denominator *ℤ pos U.w *ℤ pos Y.w *ℤ x_difference O V
  pub by_y :
      pos r.denominator *ℤ pos s.denominator *ℤ pos U.w *ℤ pos V.w *ℤ y_difference O Y
      ≡ r.numerator *ℤ pos s.denominator *ℤ pos V.w *ℤ pos Y.w *ℤ y_difference O U
      +ℤ s.numerator *ℤ pos r.denominator *ℤ pos U.w *ℤ pos Y.w *ℤ y_difference O V
