-- The rows of areas and of Pythagoras differences that are linear in the point, from the steps on triples.
use Rattle.std.proofs.Common.{ℕ, pos, [], ◌∷◌}
use Rattle.ring_laws.specs.Fraction.{Fraction, Same, whole, plus, minus, times}
use Rattle.geo_points.specs.Points.{Point, signed_area, pythagoras_difference}
use Rattle.geo_points.specs.Steps.{IsCrossing, IsAlong, IsFoot, IsTurned}
use Rattle.geo_points.proofs.AreaRows.{cross', two_halves}
use Rattle.geo_points.proofs.Expressions.{Quantity, abscissa, ordinate, area, pythagoras, whole_number, one_half, given_number, ◌+'◌, ◌-'◌, ◌*'◌, opposite', fact}
use Rattle.geo_points.proofs.Geometry.{geo_combination}
use Rattle.geo_points.proofs.Lines.{cross_product-is, dot_product-is, turned-x, turned-y}
use Rattle.geo_points.proofs.Steps.{along-x, along-y}

-- the dot product of the vectors ab and cd
abbrev pub dot' : ℕ → ℕ → ℕ → ℕ → Quantity
dot' a b c d = (abscissa b -' abscissa a) *' (abscissa d -' abscissa c) +' (ordinate b -' ordinate a) *' (ordinate d -' ordinate c)

-- twice the area
abbrev pub twice' : ℕ → ℕ → ℕ → Quantity
twice' a b c = cross' a b a c

-- INTER. The points are A B U V P Q Y, as 0 to 6
pub inter-signed_area : (A B U V P Q Y : Point) → IsCrossing U V P Q Y
    → Same (times (signed_area A B Y) (minus (signed_area U P Q) (signed_area V P Q))) (minus (times (signed_area U P Q) (signed_area A B V)) (times (signed_area V P Q) (signed_area A B U)))
inter-signed_area A B U V P' Q Y' c =
    geo_combination (A ∷ B ∷ U ∷ V ∷ P' ∷ Q ∷ Y' ∷ []) []
    (fact (one_half *' one_half *' ((abscissa 1 -' abscissa 0) *' (ordinate 5 -' ordinate 4) -' (ordinate 1 -' ordinate 0) *' (abscissa 5 -' abscissa 4))) (cross' 2 3 2 6) (whole_number 0)
    ∷ fact (one_half *' one_half *' ((abscissa 1 -' abscissa 0) *' (ordinate 2 -' ordinate 3) -' (ordinate 1 -' ordinate 0) *' (abscissa 2 -' abscissa 3))) (cross' 4 5 4 6) (whole_number 0) ∷ [])
    (area 0 1 6 *' (area 2 4 5 -' area 3 4 5)) (area 2 4 5 *' area 0 1 3 -' area 3 4 5 *' area 0 1 2)
    (cross_product-is U V U Y' c.on_first, (cross_product-is P' Q P' Y' c.on_second, tt)) tt

pub inter-pythagoras_difference : (A B U V P Q Y : Point) → IsCrossing U V P Q Y
    → Same (times (pythagoras_difference A B Y) (minus (signed_area U P Q) (signed_area V P Q)))
    (minus (times (signed_area U P Q) (pythagoras_difference A B V)) (times (signed_area V P Q) (pythagoras_difference A B U)))
inter-pythagoras_difference A B U V P' Q Y' c =
    geo_combination (A ∷ B ∷ U ∷ V ∷ P' ∷ Q ∷ Y' ∷ []) []
    (fact (whole_number 2 *' one_half *' ((abscissa 0 -' abscissa 1) *' (abscissa 5 -' abscissa 4) +' (ordinate 0 -' ordinate 1) *' (ordinate 5 -' ordinate 4))) (cross' 2 3 2 6) (whole_number 0)
    ∷ fact (whole_number 2 *' one_half
    *' ((abscissa 0 -' abscissa 1) *' (abscissa 2 -' abscissa 3) +' (ordinate 0 -' ordinate 1) *' (ordinate 2 -' ordinate 3)))
    (cross' 4 5 4 6) (whole_number 0) ∷ [])
    (pythagoras 0 1 6 *' (area 2 4 5 -' area 3 4 5)) (area 2 4 5 *' pythagoras 0 1 3 -' area 3 4 5 *' pythagoras 0 1 2)
    (cross_product-is U V U Y' c.on_first, (cross_product-is P' Q P' Y' c.on_second, tt)) tt

-- FOOT. The points are A B P U V Y, as 0 to 5
pub foot-signed_area : (A B P U V Y : Point) → IsFoot P U V Y
    → Same (times (signed_area A B Y) (pythagoras_difference U V U)) (plus (times (pythagoras_difference P U V) (signed_area A B V)) (times (pythagoras_difference P V U) (signed_area A B U)))
foot-signed_area A B P' U V Y' c =
    let dx = abscissa 4 -' abscissa 3 in let dy = ordinate 4 -' ordinate 3 in
    geo_combination (A ∷ B ∷ P' ∷ U ∷ V ∷ Y' ∷ []) []
    (fact (whole_number 2 *' one_half *' ((abscissa 1 -' abscissa 0) *' dx +' (ordinate 1 -' ordinate 0) *' dy)) (cross' 3 4 3 5) (whole_number 0)
    ∷ fact (whole_number 2 *' one_half *' ((abscissa 1 -' abscissa 0) *' dy -' (ordinate 1 -' ordinate 0) *' dx)) (dot' 2 5 3 4) (whole_number 0) ∷ [])
    (area 0 1 5 *' pythagoras 3 4 3) (pythagoras 2 3 4 *' area 0 1 4 +' pythagoras 2 4 3 *' area 0 1 3)
    (cross_product-is U V U Y' c.on_line, (dot_product-is P' Y' U V c.perpendicular, tt)) tt

pub foot-pythagoras_difference : (A B P U V Y : Point) → IsFoot P U V Y
    → Same (times (pythagoras_difference A B Y) (pythagoras_difference U V U))
    (plus (times (pythagoras_difference P U V) (pythagoras_difference A B V))
    (times (pythagoras_difference P V U) (pythagoras_difference A B U)))
foot-pythagoras_difference A B P' U V Y' c =
    let dx = abscissa 4 -' abscissa 3 in let dy = ordinate 4 -' ordinate 3 in
    geo_combination (A ∷ B ∷ P' ∷ U ∷ V ∷ Y' ∷ []) []
    (fact (whole_number 4 *' ((ordinate 0 -' ordinate 1) *' dx -' (abscissa 0 -' abscissa 1) *' dy)) (cross' 3 4 3 5) (whole_number 0)
    ∷ fact (whole_number 4 *' ((abscissa 0 -' abscissa 1) *' dx +' (ordinate 0 -' ordinate 1) *' dy)) (dot' 2 5 3 4) (whole_number 0) ∷ [])
    (pythagoras 0 1 5 *' pythagoras 3 4 3) (pythagoras 2 3 4 *' pythagoras 0 1 4 +' pythagoras 2 4 3 *' pythagoras 0 1 3)
    (cross_product-is U V U Y' c.on_line, (dot_product-is P' Y' U V c.perpendicular, tt)) tt

-- PRATIO, for differences. The points are A B W U V Y, as 0 to 5, and the numbers r, n, d, with r d the same as n
pub pratio-pythagoras_difference : (A B W U V Y : Point) (r n d : Fraction) → IsAlong W U V r Y → Same (times r d) n
    → Same (times (pythagoras_difference A B Y) d) (minus (plus (times d (pythagoras_difference A B W)) (times n (pythagoras_difference A B V))) (times n (pythagoras_difference A B U)))
pratio-pythagoras_difference A B W U V Y' r n d c e =
    geo_combination (A ∷ B ∷ W ∷ U ∷ V ∷ Y' ∷ []) (r ∷ n ∷ d ∷ [])
    (fact (whole_number 2 *' given_number 2 *' (abscissa 0 -' abscissa 1)) (abscissa 5 -' abscissa 2) (given_number 0 *' (abscissa 4 -' abscissa 3))
    ∷ fact (whole_number 2 *' given_number 2 *' (ordinate 0 -' ordinate 1)) (ordinate 5 -' ordinate 2) (given_number 0 *' (ordinate 4 -' ordinate 3))
    ∷ fact (whole_number 2 *' dot' 1 0 3 4) (given_number 0 *' given_number 2) (given_number 1) ∷ [])
    (pythagoras 0 1 5 *' given_number 2) (given_number 2 *' pythagoras 0 1 2 +' given_number 1 *' pythagoras 0 1 4 -' given_number 1 *' pythagoras 0 1 3)
    (along-x W U V r Y' c, (along-y W U V r Y' c, (e, tt))) tt

-- TRATIO. The points are A B U V Y, as 0 to 4
pub tratio-signed_area : (A B U V Y : Point) (r n d : Fraction) → IsTurned U V r Y → Same (times r d) n
    → Same (times (signed_area A B Y) (times (whole (pos 4)) d))
    (minus (times (times (whole (pos 4)) d) (signed_area A B U)) (times n (minus (pythagoras_difference U A B) (pythagoras_difference V A B))))
tratio-signed_area A B U V Y' r n d c e =
    let dx = abscissa 3 -' abscissa 2 in let dy = ordinate 3 -' ordinate 2 in
    let cx = opposite' (whole_number 4 *' one_half *' (ordinate 1 -' ordinate 0)) in let cy = whole_number 4 *' one_half *' (abscissa 1 -' abscissa 0) in
    geo_combination (A ∷ B ∷ U ∷ V ∷ Y' ∷ []) (r ∷ n ∷ d ∷ [])
    (fact (cx *' given_number 2) (abscissa 4 -' abscissa 2) (opposite' (given_number 0 *' dy))
    ∷ fact (cy *' given_number 2) (ordinate 4 -' ordinate 2) (given_number 0 *' dx)
    ∷ fact (cy *' dx -' cx *' dy) (given_number 0 *' given_number 2) (given_number 1)
    ∷ fact (whole_number 2 *' given_number 1 *' dot' 0 1 2 3) (whole_number 2 *' one_half) (whole_number 1) ∷ [])
    (area 0 1 4 *' (whole_number 4 *' given_number 2)) (whole_number 4 *' given_number 2 *' area 0 1 2 -' given_number 1 *' (pythagoras 2 0 1 -' pythagoras 3 0 1))
    (turned-x U V r Y' c, (turned-y U V r Y' c, (e, (two_halves, tt)))) tt

pub tratio-pythagoras_difference : (A B U V Y : Point) (r n d : Fraction) → IsTurned U V r Y → Same (times r d) n
    → Same (times (pythagoras_difference A B Y) (times (whole (pos 4)) d))
    (minus (times (times (whole (pos 4)) d) (pythagoras_difference A B U)) (times (times (whole (pos 16)) n) (minus (signed_area U A B) (signed_area V A B))))
tratio-pythagoras_difference A B U V Y' r n d c e =
    let dx = abscissa 3 -' abscissa 2 in let dy = ordinate 3 -' ordinate 2 in
    let cx = whole_number 8 *' (abscissa 0 -' abscissa 1) in let cy = whole_number 8 *' (ordinate 0 -' ordinate 1) in
    geo_combination (A ∷ B ∷ U ∷ V ∷ Y' ∷ []) (r ∷ n ∷ d ∷ [])
    (fact (cx *' given_number 2) (abscissa 4 -' abscissa 2) (opposite' (given_number 0 *' dy))
    ∷ fact (cy *' given_number 2) (ordinate 4 -' ordinate 2) (given_number 0 *' dx)
    ∷ fact (cy *' dx -' cx *' dy) (given_number 0 *' given_number 2) (given_number 1)
    ∷ fact (whole_number 8 *' given_number 1 *' cross' 2 3 0 1) (whole_number 2 *' one_half) (whole_number 1) ∷ [])
    (pythagoras 0 1 4 *' (whole_number 4 *' given_number 2)) (whole_number 4 *' given_number 2 *' pythagoras 0 1 2 -' whole_number 16 *' given_number 1 *' (area 2 0 1 -' area 3 0 1))
    (turned-x U V r Y' c, (turned-y U V r Y' c, (e, (two_halves, tt)))) tt
