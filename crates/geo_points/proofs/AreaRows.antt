-- The rows for signed areas of the elimination table, from the steps on triples.
use Rattle.std.proofs.Common.{ℕ, pos, [], ◌∷◌, refl}
use Rattle.ring_laws.specs.Fraction.{Fraction, Same, whole, plus, minus, times, negated}
use Rattle.geo_points.specs.Points.{Point, x_coordinate, y_coordinate, signed_area}
use Rattle.geo_points.specs.Steps.{IsAlong}
use Rattle.geo_points.proofs.Expressions.{Quantity, abscissa, ordinate, area, whole_number, one_half, given_number, ◌+'◌, ◌-'◌, ◌*'◌, opposite', half, fact}
use Rattle.geo_points.proofs.Geometry.{geo_combination}
use Rattle.geo_points.proofs.Steps.{along-x, along-y}

-- the cross product of the vectors ab and cd
abbrev pub cross' : ℕ → ℕ → ℕ → ℕ → Quantity
cross' a b c d = (abscissa b -' abscissa a) *' (ordinate d -' ordinate c) -' (ordinate b -' ordinate a) *' (abscissa d -' abscissa c)

pub two_halves : Same (times (whole (pos 2)) half) (whole (pos 1))
unfolding whole plus negated times
two_halves = record { crossed = refl }

-- the area with a point Y that lies r UV from W on, where r d is n: S_ABY d = d S_ABW + n S_ABV - n S_ABU. The points are A B W U V Y, as 0 to 5, and the numbers r, n, d
pub pratio-signed_area : (A B W U V Y : Point) (r n d : Fraction) → IsAlong W U V r Y → Same (times r d) n
    → Same (times (signed_area A B Y) d) (minus (plus (times d (signed_area A B W)) (times n (signed_area A B V))) (times n (signed_area A B U)))
pratio-signed_area A B W U V Y' r n d c e =
    geo_combination (A ∷ B ∷ W ∷ U ∷ V ∷ Y' ∷ []) (r ∷ n ∷ d ∷ [])
    (fact (opposite' (one_half *' given_number 2 *' (ordinate 1 -' ordinate 0))) (abscissa 5 -' abscissa 2) (given_number 0 *' (abscissa 4 -' abscissa 3))
    ∷ fact (one_half *' given_number 2 *' (abscissa 1 -' abscissa 0)) (ordinate 5 -' ordinate 2) (given_number 0 *' (ordinate 4 -' ordinate 3))
    ∷ fact (one_half *' cross' 0 1 3 4) (given_number 0 *' given_number 2) (given_number 1) ∷ [])
    (area 0 1 5 *' given_number 2) (given_number 2 *' area 0 1 2 +' given_number 1 *' area 0 1 4 -' given_number 1 *' area 0 1 3)
    (along-x W U V r Y' c, (along-y W U V r Y' c, (e, tt))) tt

-- the area of free points, in their coordinates
pub free-signed_area : (A B C : Point)
    → Same (times (signed_area A B C) (whole (pos 2)))
    (minus (plus (plus (minus (minus (times (x_coordinate A) (y_coordinate B)) (times (x_coordinate A) (y_coordinate C)))
    (times (y_coordinate A) (x_coordinate B))) (times (y_coordinate A) (x_coordinate C))) (times (x_coordinate B) (y_coordinate C)))
    (times (y_coordinate B) (x_coordinate C)))
free-signed_area A B C =
    geo_combination (A ∷ B ∷ C ∷ []) []
    (fact (abscissa 0 *' ordinate 1 -' abscissa 0 *' ordinate 2 -' ordinate 0 *' abscissa 1 +' ordinate 0 *' abscissa 2
    +' abscissa 1 *' ordinate 2 -' ordinate 1 *' abscissa 2) (whole_number 2 *' one_half) (whole_number 1) ∷ [])
    (area 0 1 2 *' whole_number 2)
    (abscissa 0 *' ordinate 1 -' abscissa 0 *' ordinate 2 -' ordinate 0 *' abscissa 1 +' ordinate 0 *' abscissa 2
    +' abscissa 1 *' ordinate 2 -' ordinate 1 *' abscissa 2)
    (two_halves, tt) tt
