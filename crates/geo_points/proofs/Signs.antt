-- What a swap or a turn of the points does to a signed area and to a Pythagoras difference.
use Rattle.std.proofs.Common.{ℕ, pos, [], ◌∷◌}
use Rattle.ring_laws.specs.Fraction.{Same, whole, plus, negated, minus, times}
use Rattle.geo_points.proofs.Expressions.{Quantity, abscissa, ordinate, area, pythagoras, whole_number, one_half, ◌+'◌, ◌-'◌, ◌*'◌, opposite', fact, x_coordinate, y_coordinate}
use Rattle.geo_points.specs.Points.{Point, signed_area, pythagoras_difference, squared_distance}
use Rattle.geo_points.proofs.Geometry.{geo_combination}
use Rattle.geo_points.proofs.AreaRows.{cross', two_halves}

-- the square of the distance of i and j
abbrev square' : ℕ → ℕ → Quantity
square' i j = (abscissa j -' abscissa i) *' (abscissa j -' abscissa i) +' (ordinate j -' ordinate i) *' (ordinate j -' ordinate i)

pub signed_area-doubled : (A B C : Point)
    → Same (times (whole (pos 2)) (signed_area A B C))
    (minus (times (minus (x_coordinate B) (x_coordinate A)) (minus (y_coordinate C) (y_coordinate A))) (times (minus (y_coordinate B) (y_coordinate A)) (minus (x_coordinate C) (x_coordinate A))))
signed_area-doubled A B C =
    geo_combination (A ∷ B ∷ C ∷ []) [] (fact (cross' 0 1 0 2) (whole_number 2 *' one_half) (whole_number 1) ∷ [])
    (whole_number 2 *' area 0 1 2) (cross' 0 1 0 2) (two_halves, tt) tt

pub signed_area-swap : (A B C : Point) → Same (signed_area A C B) (negated (signed_area A B C))
signed_area-swap A B C = geo_combination (A ∷ B ∷ C ∷ []) [] [] (area 0 2 1) (opposite' (area 0 1 2)) tt tt

pub signed_area-turn : (A B C : Point) → Same (signed_area B C A) (signed_area A B C)
signed_area-turn A B C = geo_combination (A ∷ B ∷ C ∷ []) [] [] (area 1 2 0) (area 0 1 2) tt tt

pub signed_area-twice : (A B : Point) → Same (signed_area A A B) (whole (pos 0))
signed_area-twice A B = geo_combination (A ∷ B ∷ []) [] [] (area 0 0 1) (whole_number 0) tt tt

pub pythagoras_difference-swap : (A B C : Point) → Same (pythagoras_difference C B A) (pythagoras_difference A B C)
pythagoras_difference-swap A B C = geo_combination (A ∷ B ∷ C ∷ []) [] [] (pythagoras 2 1 0) (pythagoras 0 1 2) tt tt

pub pythagoras_difference-length : (A B : Point) → Same (pythagoras_difference A B A) (pythagoras_difference B A B)
pythagoras_difference-length A B = geo_combination (A ∷ B ∷ []) [] [] (pythagoras 0 1 0) (pythagoras 1 0 1) tt tt

pub pythagoras_difference-squares : (A B C : Point) → Same (pythagoras_difference A B C) (minus (plus (squared_distance A B) (squared_distance C B)) (squared_distance A C))
pythagoras_difference-squares A B C =
    geo_combination (A ∷ B ∷ C ∷ []) [] [] (pythagoras 0 1 2) (square' 0 1 +' square' 2 1 -' square' 0 2) tt tt

pub pythagoras_difference-first : (A C : Point) → Same (pythagoras_difference A A C) (whole (pos 0))
pythagoras_difference-first A C = geo_combination (A ∷ C ∷ []) [] [] (pythagoras 0 0 1) (whole_number 0) tt tt

pub pythagoras_difference-last : (A C : Point) → Same (pythagoras_difference A C C) (whole (pos 0))
pythagoras_difference-last A C = geo_combination (A ∷ C ∷ []) [] [] (pythagoras 0 1 1) (whole_number 0) tt tt
