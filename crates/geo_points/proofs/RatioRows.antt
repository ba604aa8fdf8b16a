-- The rows of ratios.
use Rattle.std.proofs.Common.{◌≡◌, Bool, true, false, pos, [], ◌∷◌, refl}
use Rattle.ring_laws.specs.Fraction.{Fraction, Same, whole, plus, minus, times, negated}
use Rattle.geo_points.specs.Points.{Point, signed_area, pythagoras_difference, x_coordinate, y_coordinate, x_difference, y_difference, cross_product, ratio, HasRatio, is_null}
use Rattle.geo_points.specs.Steps.{IsCrossing, IsAlong, IsFoot}
use Rattle.geo_points.proofs.AreaRows.{cross'}
use Rattle.geo_points.proofs.Expressions.{abscissa, ordinate, area, pythagoras, whole_number, one_half, given_number, ◌+'◌, ◌-'◌, ◌*'◌, opposite', fact}
use Rattle.geo_points.proofs.Geometry.{geo_combination}
use Rattle.geo_points.proofs.LinearRows.{dot'}
use Rattle.geo_points.proofs.Lines.{cross_product-is, dot_product-is, cross_null, x_difference_null, y_difference_null}
use Rattle.ring_laws.proofs.Quotients.{cancel_fraction, same_of_zero}
use Rattle.geo_points.proofs.Ratios.{ratio-is, null-true, null-false}
use Rattle.geo_points.proofs.Steps.{along-x, along-y}

pub ratio-zero : (A B C D : Point) → HasRatio A B C D
    → Same (times (ratio A B C D) (pythagoras_difference C D C)) (minus (pythagoras_difference B C D) (pythagoras_difference A C D))
ratio-zero A B C D h =
    let k = ratio-is A B C D h in
    geo_combination (A ∷ B ∷ C ∷ D ∷ []) (ratio A B C D ∷ [])
    (fact (whole_number 2 *' (abscissa 3 -' abscissa 2)) (given_number 0 *' (abscissa 3 -' abscissa 2)) (abscissa 1 -' abscissa 0)
    ∷ fact (whole_number 2 *' (ordinate 3 -' ordinate 2)) (given_number 0 *' (ordinate 3 -' ordinate 2)) (ordinate 1 -' ordinate 0)
    ∷ [])
    (given_number 0 *' pythagoras 2 3 2) (pythagoras 1 2 3 -' pythagoras 0 2 3)
    (k.by_x, (k.by_y, tt)) tt

-- the points are A U V P Q Y
pub ratio-inter_first : (A U V P Q Y : Point) → IsCrossing U V P Q Y → HasRatio A Y U V
    → Same (times (ratio A Y U V) (minus (signed_area U P Q) (signed_area V P Q))) (signed_area A P Q)
ratio-inter_first A U V P' Q Y' c h =
    let k = ratio-is A Y' U V h in
    geo_combination (A ∷ U ∷ V ∷ P' ∷ Q ∷ Y' ∷ []) (ratio A Y' U V ∷ [])
    (fact (one_half *' (ordinate 4 -' ordinate 3)) (given_number 0 *' (abscissa 2 -' abscissa 1)) (abscissa 5 -' abscissa 0)
    ∷ fact (opposite' (one_half *' (abscissa 4 -' abscissa 3))) (given_number 0 *' (ordinate 2 -' ordinate 1))
    (ordinate 5 -' ordinate 0)
    ∷ fact (opposite' one_half) (cross' 3 4 3 5) (whole_number 0) ∷ [])
    (given_number 0 *' (area 1 3 4 -' area 2 3 4)) (area 0 3 4)
    (k.by_x, (k.by_y, (cross_product-is P' Q P' Y' c.on_second, tt))) tt

-- the points are A D P Q Y, with Y on PQ
pub ratio-inter_both : (A D P Q Y : Point) → cross_product P Q P Y ≡ pos 0 → HasRatio A Y D Y
    → Same (times (ratio A Y D Y) (signed_area D P Q)) (signed_area A P Q)
ratio-inter_both A D P' Q Y' c h =
    let k = ratio-is A Y' D Y' h in
    geo_combination (A ∷ D ∷ P' ∷ Q ∷ Y' ∷ []) (ratio A Y' D Y' ∷ [])
    (fact (one_half *' (ordinate 3 -' ordinate 2)) (given_number 0 *' (abscissa 4 -' abscissa 1)) (abscissa 4 -' abscissa 0)
    ∷ fact (opposite' (one_half *' (abscissa 3 -' abscissa 2))) (given_number 0 *' (ordinate 4 -' ordinate 1))
    (ordinate 4 -' ordinate 0)
    ∷ fact (one_half *' (given_number 0 -' whole_number 1)) (cross' 2 3 2 4) (whole_number 0) ∷ [])
    (given_number 0 *' area 1 2 3) (area 0 2 3)
    (k.by_x, (k.by_y, (cross_product-is P' Q P' Y' c, tt))) tt

-- the points are A P U V Y
pub ratio-foot : (A P U V Y : Point) → IsFoot P U V Y → HasRatio A Y U V
    → Same (times (ratio A Y U V) (pythagoras_difference U V U)) (minus (pythagoras_difference P U V) (pythagoras_difference A U V))
ratio-foot A P' U V Y' c h =
    let k = ratio-is A Y' U V h in
    geo_combination (A ∷ P' ∷ U ∷ V ∷ Y' ∷ []) (ratio A Y' U V ∷ [])
    (fact (whole_number 2 *' (abscissa 3 -' abscissa 2)) (given_number 0 *' (abscissa 3 -' abscissa 2)) (abscissa 4 -' abscissa 0)
    ∷ fact (whole_number 2 *' (ordinate 3 -' ordinate 2)) (given_number 0 *' (ordinate 3 -' ordinate 2)) (ordinate 4 -' ordinate 0)
    ∷ fact (whole_number 2) (dot' 1 4 2 3) (whole_number 0) ∷ [])
    (given_number 0 *' pythagoras 2 3 2) (pythagoras 1 2 3 -' pythagoras 0 2 3)
    (k.by_x, (k.by_y, (dot_product-is P' Y' U V c.perpendicular, tt))) tt

-- a factor of both coordinates of a vector that is not 0 cancels
pub cancel_vector : (U V : Point) (a b : Fraction) → (x_difference U V ≡ pos 0 → y_difference U V ≡ pos 0 → ⊥)
    → Same (times a (minus (x_coordinate V) (x_coordinate U))) (times b (minus (x_coordinate V) (x_coordinate U)))
    → Same (times a (minus (y_coordinate V) (y_coordinate U))) (times b (minus (y_coordinate V) (y_coordinate U))) → Same a b
unfolding whole plus negated times minus
cancel_vector U V a b apart hx hy = go (is_null (minus (x_coordinate V) (x_coordinate U)).numerator) refl
  where
    go : (t : Bool) → is_null (minus (x_coordinate V) (x_coordinate U)).numerator ≡ t → Same a b
    go true e =
        let x0 : x_difference U V ≡ pos 0 = x_difference_null U V (same_of_zero (minus (x_coordinate V) (x_coordinate U)) (null-true (minus (x_coordinate V) (x_coordinate U)).numerator e)) in
        cancel_fraction a b (minus (y_coordinate V) (y_coordinate U)) (λ z. apart x0 (y_difference_null U V (same_of_zero (minus (y_coordinate V) (y_coordinate U)) z))) hy
    go false e = cancel_fraction a b (minus (x_coordinate V) (x_coordinate U)) (null-false (minus (x_coordinate V) (x_coordinate U)).numerator e) hx

-- the points are A W U V Y
pub ratio-pratio : (A W U V Y : Point) (r n d : Fraction) → IsAlong W U V r Y → Same (times r d) n → HasRatio A Y U V
    → HasRatio A W U V × Same (times (ratio A Y U V) d) (plus (times d (ratio A W U V)) n)
ratio-pratio A W U V Y' r n d c e h =
    let k = ratio-is A Y' U V h in
    let parallel : cross_product A W U V ≡ pos 0 =
    cross_null A W U V
    (geo_combination (A ∷ W ∷ U ∷ V ∷ Y' ∷ []) (ratio A Y' U V ∷ r ∷ [])
    (fact (opposite' (ordinate 3 -' ordinate 2)) (given_number 0 *' (abscissa 3 -' abscissa 2)) (abscissa 4 -' abscissa 0)
    ∷ fact (abscissa 3 -' abscissa 2) (given_number 0 *' (ordinate 3 -' ordinate 2)) (ordinate 4 -' ordinate 0)
    ∷ fact (opposite' (ordinate 3 -' ordinate 2)) (abscissa 4 -' abscissa 1) (given_number 1 *' (abscissa 3 -' abscissa 2))
    ∷ fact (abscissa 3 -' abscissa 2) (ordinate 4 -' ordinate 1) (given_number 1 *' (ordinate 3 -' ordinate 2)) ∷ [])
    (cross' 0 1 2 3) (whole_number 0)
    (k.by_x, (k.by_y, (along-x W U V r Y' c, (along-y W U V r Y' c, tt)))) tt) in
    let g : HasRatio A W U V = record { parallel = parallel; apart = h.apart } in
    let l = ratio-is A W U V g in (
      g,
      cancel_vector U V (times (ratio A Y' U V) d) (plus (times d (ratio A W U V)) n) h.apart
          (geo_combination (A ∷ W ∷ U ∷ V ∷ Y' ∷ []) (ratio A Y' U V ∷ ratio A W U V ∷ r ∷ n ∷ d ∷ [])
          (fact (given_number 4) (given_number 0 *' (abscissa 3 -' abscissa 2)) (abscissa 4 -' abscissa 0)
          ∷ fact (opposite' (given_number 4)) (given_number 1 *' (abscissa 3 -' abscissa 2)) (abscissa 1 -' abscissa 0)
          ∷ fact (given_number 4) (abscissa 4 -' abscissa 1) (given_number 2 *' (abscissa 3 -' abscissa 2)) ∷ fact (abscissa 3 -' abscissa 2) (given_number 2 *' given_number 4) (given_number 3) ∷ [])
          (given_number 0 *' given_number 4 *' (abscissa 3 -' abscissa 2)) ((given_number 4 *' given_number 1 +' given_number 3) *' (abscissa 3 -' abscissa 2))
          (k.by_x, (l.by_x, (along-x W U V r Y' c, (e, tt)))) tt)
          (geo_combination (A ∷ W ∷ U ∷ V ∷ Y' ∷ []) (ratio A Y' U V ∷ ratio A W U V ∷ r ∷ n ∷ d ∷ [])
          (fact (given_number 4) (given_number 0 *' (ordinate 3 -' ordinate 2)) (ordinate 4 -' ordinate 0)
          ∷ fact (opposite' (given_number 4)) (given_number 1 *' (ordinate 3 -' ordinate 2)) (ordinate 1 -' ordinate 0)
          ∷ fact (given_number 4) (ordinate 4 -' ordinate 1) (given_number 2 *' (ordinate 3 -' ordinate 2)) ∷ fact (ordinate 3 -' ordinate 2) (given_number 2 *' given_number 4) (given_number 3) ∷ [])
          (given_number 0 *' given_number 4 *' (ordinate 3 -' ordinate 2)) ((given_number 4 *' given_number 1 +' given_number 3) *' (ordinate 3 -' ordinate 2))
          (k.by_y, (l.by_y, (along-y W U V r Y' c, (e, tt)))) tt),
    )
