-- The row of a Pythagoras difference of free points.
use Rattle.std.proofs.Common.{pos, [], ◌∷◌}
use Rattle.ring_laws.specs.Fraction.{Same, whole, plus, minus, times}
use Rattle.geo_points.specs.Points.{Point, pythagoras_difference, x_coordinate, y_coordinate}
use Rattle.geo_points.proofs.Expressions.{abscissa, ordinate, pythagoras, whole_number, ◌+'◌, ◌-'◌, ◌*'◌}
use Rattle.geo_points.proofs.Geometry.{geo_combination}

-- xA xC - xA xB - xB xC + xB xB + yA yC - yA yB - yB yC + yB yB, twice
pub free-pythagoras_difference : (A B C : Point)
    → Same (pythagoras_difference A B C)
    (times (whole (pos 2))
    (plus (minus (minus (plus (plus
    (minus (minus (times (x_coordinate A) (x_coordinate C)) (times (x_coordinate A) (x_coordinate B)))
    (times (x_coordinate B) (x_coordinate C))) (times (x_coordinate B) (x_coordinate B))) (times (y_coordinate A) (y_coordinate C)))
    (times (y_coordinate A) (y_coordinate B))) (times (y_coordinate B) (y_coordinate C)))
    (times (y_coordinate B) (y_coordinate B))))
free-pythagoras_difference A B C =
    geo_combination (A ∷ B ∷ C ∷ []) [] [] (pythagoras 0 1 2)
    (whole_number 2
    *' (abscissa 0 *' abscissa 2 -' abscissa 0 *' abscissa 1 -' abscissa 1 *' abscissa 2 +' abscissa 1 *' abscissa 1
    +' ordinate 0 *' ordinate 2 -' ordinate 0 *' ordinate 1 -' ordinate 1 *' ordinate 2 +' ordinate 1 *' ordinate 1))
    tt tt
