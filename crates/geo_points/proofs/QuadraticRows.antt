-- The rows of Pythagoras differences with the point in the middle.
use Rattle.std.proofs.Common.{pos, [], ◌∷◌}
use Rattle.ring_laws.specs.Fraction.{Fraction, Same, whole, plus, minus, times}
use Rattle.geo_points.specs.Points.{Point, signed_area, pythagoras_difference, x_coordinate, y_coordinate}
use Rattle.geo_points.specs.Steps.{IsCrossing, IsAlong, IsFoot, IsTurned}
use Rattle.geo_points.proofs.AreaRows.{cross', two_halves}
use Rattle.geo_points.proofs.Expressions.{abscissa, ordinate, area, pythagoras, whole_number, one_half, given_number, ◌+'◌, ◌-'◌, ◌*'◌, opposite', fact}
use Rattle.geo_points.proofs.Geometry.{geo_combination}
use Rattle.geo_points.proofs.LinearRows.{dot', twice'}
use Rattle.geo_points.proofs.Lines.{cross_product-is, dot_product-is, turned-x, turned-y}
use Rattle.geo_points.proofs.Steps.{along-x, along-y}

-- INTER in two stages: where Y lies on UV, and then the row, with the two areas as mere numbers s and t
-- (s - t) (Y - U) = s (V - U)
pub record Moves (U V Y : Point) (s t : Fraction) : Type 0 where
  pub by_x : Same (times (minus s t) (minus (x_coordinate Y) (x_coordinate U))) (times s (minus (x_coordinate V) (x_coordinate U)))
  pub by_y : Same (times (minus s t) (minus (y_coordinate Y) (y_coordinate U))) (times s (minus (y_coordinate V) (y_coordinate U)))

pub crossing-moves : (U V P Q Y : Point) → IsCrossing U V P Q Y → Moves U V Y (signed_area U P Q) (signed_area V P Q)
crossing-moves U V P' Q Y' c = record {
  by_x =
      geo_combination (U ∷ V ∷ P' ∷ Q ∷ Y' ∷ []) []
      (fact (one_half *' (abscissa 3 -' abscissa 2)) (cross' 0 1 0 4) (whole_number 0) ∷ fact (one_half *' (abscissa 0 -' abscissa 1)) (cross' 2 3 2 4) (whole_number 0) ∷ [])
      ((area 0 2 3 -' area 1 2 3) *' (abscissa 4 -' abscissa 0)) (area 0 2 3 *' (abscissa 1 -' abscissa 0))
      (cross_product-is U V U Y' c.on_first, (cross_product-is P' Q P' Y' c.on_second, tt)) tt;
  by_y =
      geo_combination (U ∷ V ∷ P' ∷ Q ∷ Y' ∷ []) []
      (fact (one_half *' (ordinate 3 -' ordinate 2)) (cross' 0 1 0 4) (whole_number 0) ∷ fact (one_half *' (ordinate 0 -' ordinate 1)) (cross' 2 3 2 4) (whole_number 0) ∷ [])
      ((area 0 2 3 -' area 1 2 3) *' (ordinate 4 -' ordinate 0)) (area 0 2 3 *' (ordinate 1 -' ordinate 0))
      (cross_product-is U V U Y' c.on_first, (cross_product-is P' Q P' Y' c.on_second, tt)) tt;
}

pub moves-quadratic : (A B U V Y : Point) (s t : Fraction) → Moves U V Y s t
    → Same (times (pythagoras_difference A Y B) (times (minus s t) (minus s t)))
    (plus (times (minus (times s (pythagoras_difference A V B)) (times t (pythagoras_difference A U B))) (minus s t)) (times (times s t) (pythagoras_difference U V U)))
moves-quadratic A B U V Y' s t m =
    let d = given_number 0 -' given_number 1 in
    let qx = whole_number 2 *' (d *' (abscissa 4 -' abscissa 2) +' given_number 0 *' (abscissa 3 -' abscissa 2) -' d *' (abscissa 0 -' abscissa 2) -' d *' (abscissa 1 -' abscissa 2)) in
    let qy = whole_number 2 *' (d *' (ordinate 4 -' ordinate 2) +' given_number 0 *' (ordinate 3 -' ordinate 2) -' d *' (ordinate 0 -' ordinate 2) -' d *' (ordinate 1 -' ordinate 2)) in
    geo_combination (A ∷ B ∷ U ∷ V ∷ Y' ∷ []) (s ∷ t ∷ [])
    (fact qx (d *' (abscissa 4 -' abscissa 2)) (given_number 0 *' (abscissa 3 -' abscissa 2)) ∷ fact qy (d *' (ordinate 4 -' ordinate 2)) (given_number 0 *' (ordinate 3 -' ordinate 2)) ∷ [])
    (pythagoras 0 4 1 *' (d *' d)) ((given_number 0 *' pythagoras 0 3 1 -' given_number 1 *' pythagoras 0 2 1) *' d +' given_number 0 *' given_number 1 *' pythagoras 2 3 2)
    (m.by_x, (m.by_y, tt)) tt

pub inter-quadratic : (A B U V P Q Y : Point) → IsCrossing U V P Q Y
    → Same (times (pythagoras_difference A Y B) (times (minus (signed_area U P Q) (signed_area V P Q)) (minus (signed_area U P Q) (signed_area V P Q))))
    (plus (times (minus (times (signed_area U P Q) (pythagoras_difference A V B)) (times (signed_area V P Q) (pythagoras_difference A U B))) (minus (signed_area U P Q) (signed_area V P Q)))
    (times (times (signed_area U P Q) (signed_area V P Q)) (pythagoras_difference U V U)))
inter-quadratic A B U V P' Q Y' c = moves-quadratic A B U V Y' (signed_area U P' Q) (signed_area V P' Q) (crossing-moves U V P' Q Y' c)

pub foot-quadratic : (A B P U V Y : Point) → IsFoot P U V Y
    → Same (times (pythagoras_difference A Y B) (pythagoras_difference U V U))
    (minus (plus (times (pythagoras_difference P U V) (pythagoras_difference A V B))
    (times (pythagoras_difference P V U) (pythagoras_difference A U B)))
    (times (pythagoras_difference P U V) (pythagoras_difference P V U)))
foot-quadratic A B P' U V Y' c =
    let dx = abscissa 4 -' abscissa 3 in let dy = ordinate 4 -' ordinate 3 in
    let sx = (abscissa 0 -' abscissa 3) +' (abscissa 1 -' abscissa 3) in let sy = (ordinate 0 -' ordinate 3) +' (ordinate 1 -' ordinate 3) in
    geo_combination (A ∷ B ∷ P' ∷ U ∷ V ∷ Y' ∷ []) []
    (fact (whole_number 4 *' (cross' 3 4 3 5 +' sx *' dy -' sy *' dx)) (cross' 3 4 3 5) (whole_number 0)
    ∷ fact (whole_number 4 *' (whole_number 2 *' dot' 3 2 3 4 +' dot' 2 5 3 4 -' sx *' dx -' sy *' dy)) (dot' 2 5 3 4) (whole_number 0) ∷ [])
    (pythagoras 0 5 1 *' pythagoras 3 4 3) (pythagoras 2 3 4 *' pythagoras 0 4 1 +' pythagoras 2 4 3 *' pythagoras 0 3 1 -' pythagoras 2 3 4 *' pythagoras 2 4 3)
    (cross_product-is U V U Y' c.on_line, (dot_product-is P' Y' U V c.perpendicular, tt)) tt

pub pratio-quadratic : (A B W U V Y : Point) (r n d : Fraction) → IsAlong W U V r Y → Same (times r d) n
    → Same (times (pythagoras_difference A Y B) (times d d))
    (minus (plus (times (times d d) (pythagoras_difference A W B))
    (times (times n d) (plus (minus (pythagoras_difference A V B) (pythagoras_difference A U B))
    (times (whole (pos 2)) (pythagoras_difference W U V)))))
    (times (times n (minus d n)) (pythagoras_difference U V U)))
pratio-quadratic A B W U V Y' r n d c e =
    let qx = whole_number 2 *' (given_number 2 *' (abscissa 5 -' abscissa 2) +' given_number 1 *' (abscissa 4 -' abscissa 3)
    -' given_number 2 *' (abscissa 0 -' abscissa 2) -' given_number 2 *' (abscissa 1 -' abscissa 2)) in
    let qy = whole_number 2 *' (given_number 2 *' (ordinate 5 -' ordinate 2) +' given_number 1 *' (ordinate 4 -' ordinate 3)
    -' given_number 2 *' (ordinate 0 -' ordinate 2) -' given_number 2 *' (ordinate 1 -' ordinate 2)) in
    geo_combination (A ∷ B ∷ W ∷ U ∷ V ∷ Y' ∷ []) (r ∷ n ∷ d ∷ [])
    (fact (given_number 2 *' qx) (abscissa 5 -' abscissa 2) (given_number 0 *' (abscissa 4 -' abscissa 3))
    ∷ fact (given_number 2 *' qy) (ordinate 5 -' ordinate 2) (given_number 0 *' (ordinate 4 -' ordinate 3))
    ∷ fact (qx *' (abscissa 4 -' abscissa 3) +' qy *' (ordinate 4 -' ordinate 3)) (given_number 0 *' given_number 2) (given_number 1) ∷ [])
    (pythagoras 0 5 1 *' (given_number 2 *' given_number 2))
    (given_number 2 *' given_number 2 *' pythagoras 0 2 1
    +' given_number 1 *' given_number 2 *' (pythagoras 0 4 1 -' pythagoras 0 3 1 +' whole_number 2 *' pythagoras 2 3 4)
    -' given_number 1 *' (given_number 2 -' given_number 1) *' pythagoras 3 4 3)
    (along-x W U V r Y' c, (along-y W U V r Y' c, (e, tt))) tt

pub tratio-quadratic : (A B U V Y : Point) (r n d : Fraction) → IsTurned U V r Y → Same (times r d) n
    → Same (times (pythagoras_difference A Y B) (times (times (whole (pos 4)) d) (times (whole (pos 4)) d)))
    (minus (plus (times (times (times (whole (pos 16)) d) d) (pythagoras_difference A U B)) (times (times (times (whole (pos 16)) n) n) (pythagoras_difference U V U)))
    (times (times (times (whole (pos 64)) n) d) (plus (signed_area A U V) (signed_area B U V))))
tratio-quadratic A B U V Y' r n d c e =
    let dx = abscissa 3 -' abscissa 2 in let dy = ordinate 3 -' ordinate 2 in
    let qx = whole_number 32 *' (given_number 2 *' (abscissa 4 -' abscissa 2) -' given_number 1 *' dy
    -' given_number 2 *' (abscissa 0 -' abscissa 2) -' given_number 2 *' (abscissa 1 -' abscissa 2)) in
    let qy = whole_number 32 *' (given_number 2 *' (ordinate 4 -' ordinate 2) +' given_number 1 *' dx
    -' given_number 2 *' (ordinate 0 -' ordinate 2) -' given_number 2 *' (ordinate 1 -' ordinate 2)) in
    geo_combination (A ∷ B ∷ U ∷ V ∷ Y' ∷ []) (r ∷ n ∷ d ∷ [])
    (fact (qx *' given_number 2) (abscissa 4 -' abscissa 2) (opposite' (given_number 0 *' dy))
    ∷ fact (qy *' given_number 2) (ordinate 4 -' ordinate 2) (given_number 0 *' dx)
    ∷ fact (qy *' dx -' qx *' dy) (given_number 0 *' given_number 2) (given_number 1)
    ∷ fact (whole_number 32 *' given_number 1 *' given_number 2 *' (twice' 0 2 3 +' twice' 1 2 3)) (whole_number 2 *' one_half) (whole_number 1) ∷ [])
    (pythagoras 0 4 1 *' (whole_number 4 *' given_number 2 *' (whole_number 4 *' given_number 2)))
    (whole_number 16 *' given_number 2 *' given_number 2 *' pythagoras 0 2 1
    +' whole_number 16 *' given_number 1 *' given_number 1 *' pythagoras 2 3 2
    -' whole_number 64 *' given_number 1 *' given_number 2 *' (area 0 2 3 +' area 1 2 3))
    (turned-x U V r Y' c, (turned-y U V r Y' c, (e, (two_halves, tt)))) tt
