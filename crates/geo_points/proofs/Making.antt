-- Each step makes a point, and no other.
use Rattle.std.proofs.Common.{◌≡◌, pos, [], ◌∷◌}
use Rattle.ring_laws.specs.Fraction.{Fraction, plus, minus, times, IsNonzero, quotient}
use Rattle.geo_points.specs.Placements.{SamePoint}
use Rattle.geo_points.specs.Points.{Point, x_coordinate, y_coordinate, cross_product}
use Rattle.geo_points.specs.Steps.{IsCrossing, IsFoot, IsTurned}
use Rattle.geo_points.proofs.AreaRows.{cross'}
use Rattle.geo_points.proofs.Expressions.{abscissa, ordinate, whole_number, given_number, ◌+'◌, ◌-'◌, ◌*'◌, opposite', fact}
use Rattle.geo_points.proofs.Geometry.{geo_combination}
use Rattle.ring_laws.proofs.Quotients.{quotient-times}
use Rattle.geo_points.proofs.Placed.{point_exists}
use Rattle.geo_points.specs.Vectors.{Differ, run, rise}
use Rattle.geo_points.proofs.Coordinates.{dot', dot_null, turned_back}
use Rattle.geo_points.proofs.Lines.{cross_of, dot_of, cross_product-is, dot_product-is, turned-x, turned-y, cross_null}
use Rattle.geo_points.proofs.Zeros.{is_nonzero, geo_cancel, same_point, apart, differ, squares_null}

-- the denominators, as fractions
pub cross_nonzero : (A B C D : Point) → (cross_product A B C D ≡ pos 0 → ⊥) → IsNonzero (cross_of A B C D)
cross_nonzero A B C D n = is_nonzero (cross_of A B C D) (λ h. n (cross_null A B C D h))

pub length_nonzero : (A B : Point) → Differ A B → IsNonzero (dot_of A B A B)
length_nonzero A B n = is_nonzero (dot_of A B A B) (λ h. let s = squares_null (run A B) (rise A B) h in n (same_point A B s.0 s.1))

pub crossing_exists : (U V P Q : Point) → (cross_product U V P Q ≡ pos 0 → ⊥) → (Y : Point) × IsCrossing U V P Q Y
crossing_exists U V P Q n =
    let m = cross_nonzero U V P Q n in
    let k = quotient (cross_of U P P Q) (cross_of U V P Q) in
    let e = quotient-times (cross_of U P P Q) (cross_of U V P Q) m in
    let made = point_exists (plus (x_coordinate U) (times k (run U V))) (plus (y_coordinate U) (times k (rise U V))) in
    let Y = made.0 in (
      Y,
      record {
        on_first = cross_null U V U Y (geo_combination (U ∷ V ∷ P ∷ Q ∷ Y ∷ []) (k ∷ [])
            (fact (opposite' (ordinate 1 -' ordinate 0)) (abscissa 4) (abscissa 0 +' given_number 0 *' (abscissa 1 -' abscissa 0))
            ∷ fact (abscissa 1 -' abscissa 0) (ordinate 4) (ordinate 0 +' given_number 0 *' (ordinate 1 -' ordinate 0)) ∷ [])
            (cross' 0 1 0 4) (whole_number 0) (made.1, (made.2, tt)) tt);
        on_second = cross_null P Q P Y
            (geo_combination (U ∷ V ∷ P ∷ Q ∷ Y ∷ []) (k ∷ [])
            (fact (opposite' (ordinate 3 -' ordinate 2)) (abscissa 4) (abscissa 0 +' given_number 0 *' (abscissa 1 -' abscissa 0))
            ∷ fact (abscissa 3 -' abscissa 2) (ordinate 4) (ordinate 0 +' given_number 0 *' (ordinate 1 -' ordinate 0))
            ∷ fact (opposite' (whole_number 1)) (given_number 0 *' cross' 0 1 2 3) (cross' 0 2 2 3) ∷ []) (cross' 2 3 2 4) (whole_number 0)
            (made.1, (made.2, (e, tt))) tt);
        crosses = n;
      },
    )

pub crossing_unique : (U V P Q Y Z : Point) → IsCrossing U V P Q Y → IsCrossing U V P Q Z → SamePoint Y Z
crossing_unique U V P Q Y Z c d =
    record {
      by_x = geo_cancel (U ∷ V ∷ P ∷ Q ∷ Y ∷ Z ∷ []) []
          (fact (abscissa 3 -' abscissa 2) (cross' 0 1 0 4) (whole_number 0) ∷ fact (opposite' (abscissa 3 -' abscissa 2)) (cross' 0 1 0 5)
          (whole_number 0) ∷ fact (opposite' (abscissa 1 -' abscissa 0)) (cross' 2 3 2 4) (whole_number 0) ∷ fact (abscissa 1 -' abscissa 0)
          (cross' 2 3 2 5) (whole_number 0) ∷ []) (abscissa 4) (abscissa 5) (cross' 0 1 2 3) (cross_nonzero U V P Q c.crosses) (
            cross_product-is U V U Y c.on_first,
            (cross_product-is U V U Z d.on_first, (cross_product-is P Q P Y c.on_second, (cross_product-is P Q P Z d.on_second, tt))),
          ) tt;
      by_y = geo_cancel (U ∷ V ∷ P ∷ Q ∷ Y ∷ Z ∷ []) []
          (fact (ordinate 3 -' ordinate 2) (cross' 0 1 0 4) (whole_number 0) ∷ fact (opposite' (ordinate 3 -' ordinate 2)) (cross' 0 1 0 5)
          (whole_number 0) ∷ fact (opposite' (ordinate 1 -' ordinate 0)) (cross' 2 3 2 4) (whole_number 0) ∷ fact (ordinate 1 -' ordinate 0)
          (cross' 2 3 2 5) (whole_number 0) ∷ []) (ordinate 4) (ordinate 5) (cross' 0 1 2 3) (cross_nonzero U V P Q c.crosses) (
            cross_product-is U V U Y c.on_first,
            (cross_product-is U V U Z d.on_first, (cross_product-is P Q P Y c.on_second, (cross_product-is P Q P Z d.on_second, tt))),
          ) tt;
    }

pub foot_exists : (P U V : Point) → Differ U V → (Y : Point) × IsFoot P U V Y
foot_exists P U V n =
    let m = length_nonzero U V n in
    let k = quotient (dot_of U P U V) (dot_of U V U V) in
    let e = quotient-times (dot_of U P U V) (dot_of U V U V) m in
    let made = point_exists (plus (x_coordinate U) (times k (run U V))) (plus (y_coordinate U) (times k (rise U V))) in
    let Y = made.0 in (
      Y,
      record {
        on_line = cross_null U V U Y (geo_combination (P ∷ U ∷ V ∷ Y ∷ []) (k ∷ [])
            (fact (opposite' (ordinate 2 -' ordinate 1)) (abscissa 3) (abscissa 1 +' given_number 0 *' (abscissa 2 -' abscissa 1))
            ∷ fact (abscissa 2 -' abscissa 1) (ordinate 3) (ordinate 1 +' given_number 0 *' (ordinate 2 -' ordinate 1)) ∷ [])
            (cross' 1 2 1 3) (whole_number 0) (made.1, (made.2, tt)) tt);
        perpendicular =
            dot_null P Y U V (geo_combination (P ∷ U ∷ V ∷ Y ∷ []) (k ∷ [])
            (fact (abscissa 2 -' abscissa 1) (abscissa 3) (abscissa 1 +' given_number 0 *' (abscissa 2 -' abscissa 1))
            ∷ fact (ordinate 2 -' ordinate 1) (ordinate 3) (ordinate 1 +' given_number 0 *' (ordinate 2 -' ordinate 1))
            ∷ fact (whole_number 1) (given_number 0 *' dot' 1 2 1 2) (dot' 1 0 1 2) ∷ []) (dot' 0 3 1 2) (whole_number 0)
            (made.1, (made.2, (e, tt))) tt);
        apart = apart U V n;
      },
    )

pub foot_unique : (P U V Y Z : Point) → IsFoot P U V Y → IsFoot P U V Z → SamePoint Y Z
foot_unique P U V Y Z c d =
    record {
      by_x = geo_cancel (P ∷ U ∷ V ∷ Y ∷ Z ∷ []) []
          (fact (abscissa 2 -' abscissa 1) (dot' 0 3 1 2) (whole_number 0) ∷ fact (opposite' (abscissa 2 -' abscissa 1)) (dot' 0 4 1 2)
          (whole_number 0) ∷ fact (opposite' (ordinate 2 -' ordinate 1)) (cross' 1 2 1 3) (whole_number 0)
          ∷ fact (opposite' (opposite' (ordinate 2 -' ordinate 1))) (cross' 1 2 1 4) (whole_number 0) ∷ []) (abscissa 3) (abscissa 4)
          (dot' 1 2 1 2) (length_nonzero U V (differ U V c.apart)) (
            dot_product-is P Y U V c.perpendicular,
            (dot_product-is P Z U V d.perpendicular, (cross_product-is U V U Y c.on_line, (cross_product-is U V U Z d.on_line, tt))),
          ) tt;
      by_y = geo_cancel (P ∷ U ∷ V ∷ Y ∷ Z ∷ []) []
          (fact (ordinate 2 -' ordinate 1) (dot' 0 3 1 2) (whole_number 0) ∷ fact (opposite' (ordinate 2 -' ordinate 1)) (dot' 0 4 1 2)
          (whole_number 0) ∷ fact (abscissa 2 -' abscissa 1) (cross' 1 2 1 3) (whole_number 0) ∷ fact (opposite' (abscissa 2 -' abscissa 1))
          (cross' 1 2 1 4) (whole_number 0) ∷ []) (ordinate 3) (ordinate 4) (dot' 1 2 1 2) (length_nonzero U V (differ U V c.apart)) (
            dot_product-is P Y U V c.perpendicular,
            (dot_product-is P Z U V d.perpendicular, (cross_product-is U V U Y c.on_line, (cross_product-is U V U Z d.on_line, tt))),
          ) tt;
    }

pub turned_exists : (U V : Point) (r : Fraction) → (Y : Point) × IsTurned U V r Y
turned_exists U V r =
    let made = point_exists (minus (x_coordinate U) (times r (rise U V))) (plus (y_coordinate U) (times r (run U V))) in
    let Y = made.0 in (
      Y,
      turned_back U V r Y
          (geo_combination (U ∷ V ∷ Y ∷ []) (r ∷ [])
          (fact (whole_number 1) (abscissa 2) (abscissa 0 -' given_number 0 *' (ordinate 1 -' ordinate 0)) ∷ [])
          (abscissa 2 -' abscissa 0) (opposite' (given_number 0 *' (ordinate 1 -' ordinate 0))) (made.1, tt) tt)
          (geo_combination (U ∷ V ∷ Y ∷ []) (r ∷ [])
          (fact (whole_number 1) (ordinate 2) (ordinate 0 +' given_number 0 *' (abscissa 1 -' abscissa 0)) ∷ [])
          (ordinate 2 -' ordinate 0) (given_number 0 *' (abscissa 1 -' abscissa 0)) (made.2, tt) tt),
    )

pub turned_unique : (U V : Point) (r : Fraction) (Y Z : Point) → IsTurned U V r Y → IsTurned U V r Z → SamePoint Y Z
turned_unique U V r Y Z c d =
    record {
      by_x = geo_combination (U ∷ V ∷ Y ∷ Z ∷ []) (r ∷ [])
          (fact (whole_number 1) (abscissa 2 -' abscissa 0) (opposite' (given_number 0 *' (ordinate 1 -' ordinate 0)))
          ∷ fact (opposite' (whole_number 1)) (abscissa 3 -' abscissa 0) (opposite' (given_number 0 *' (ordinate 1 -' ordinate 0))) ∷ [])
          (abscissa 2) (abscissa 3) (turned-x U V r Y c, (turned-x U V r Z d, tt)) tt;
      by_y = geo_combination (U ∷ V ∷ Y ∷ Z ∷ []) (r ∷ [])
          (fact (whole_number 1) (ordinate 2 -' ordinate 0) (given_number 0 *' (abscissa 1 -' abscissa 0))
          ∷ fact (opposite' (whole_number 1)) (ordinate 3 -' ordinate 0) (given_number 0 *' (abscissa 1 -' abscissa 0)) ∷ []) (ordinate 2)
          (ordinate 3) (turned-y U V r Y c, (turned-y U V r Z d, tt)) tt;
    }
