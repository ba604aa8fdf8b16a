-- What is said of points holds exactly where the value of a term is 0.
use Rattle.std.proofs.Common.{◌≡◌, pos, [], ◌∷◌}
use Rattle.ring_laws.specs.Fraction.{Fraction, Same, whole, plus, minus, times, IsNonzero}
use Rattle.geo_points.specs.Points.{squared_distance, Point, x_coordinate, y_coordinate, cross_product, dot_product, signed_area, pythagoras_difference}
use Rattle.geo_points.specs.Placements.{SamePoint}
use Rattle.geo_points.proofs.AreaRows.{cross', two_halves}
use Rattle.geo_points.proofs.Expressions.{abscissa, ordinate, area, pythagoras, whole_number, one_half, ◌+'◌, ◌-'◌, ◌*'◌, opposite', fact}
use Rattle.geo_points.proofs.Geometry.{geo_combination}
use Rattle.geo_points.specs.Vectors.{Differ, run, rise}
use Rattle.geo_lowering.specs.Relations.{IsMidpoint, circle_determinant}
use Rattle.geo_points.proofs.Coordinates.{dot', dot_null}
use Rattle.geo_points.proofs.Lines.{cross_product-is, dot_product-is, cross_null}
use Rattle.geo_points.proofs.Zeros.{denied, same_of_minus, minus_of_same, same_point, squares_null}

pub collinear-is : (A B C : Point) → (cross_product A B A C ≡ pos 0 → Same (signed_area A B C) (whole (pos 0))) × (Same (signed_area A B C) (whole (pos 0)) → cross_product A B A C ≡ pos 0)
collinear-is A B C = (
  λ h. geo_combination (A ∷ B ∷ C ∷ []) [] (fact one_half (cross' 0 1 0 2) (whole_number 0) ∷ []) (area 0 1 2) (whole_number 0) (cross_product-is A B A C h, tt) tt,
  λ h. cross_null A B A C
      (geo_combination (A ∷ B ∷ C ∷ []) []
      (fact (whole_number 2) (area 0 1 2) (whole_number 0) ∷ fact (opposite' (cross' 0 1 0 2)) (whole_number 2 *' one_half)
      (whole_number 1) ∷ []) (cross' 0 1 0 2) (whole_number 0)
      (h, (two_halves, tt)) tt),
)

pub parallel-is : (A B C D : Point) → (cross_product A B C D ≡ pos 0 → Same (minus (signed_area A C D) (signed_area B C D)) (whole (pos 0)))
    × (Same (minus (signed_area A C D) (signed_area B C D)) (whole (pos 0)) → cross_product A B C D ≡ pos 0)
parallel-is A B C D = (
  λ h. geo_combination (A ∷ B ∷ C ∷ D ∷ []) [] (fact one_half (cross' 0 1 2 3) (whole_number 0) ∷ []) (area 0 2 3 -' area 1 2 3) (whole_number 0) (cross_product-is A B C D h, tt) tt,
  λ h. cross_null A B C D (geo_combination (A ∷ B ∷ C ∷ D ∷ []) []
      (fact (whole_number 2) (area 0 2 3 -' area 1 2 3) (whole_number 0) ∷ fact (opposite' (cross' 0 1 2 3)) (whole_number 2 *' one_half)
      (whole_number 1) ∷ []) (cross' 0 1 2 3) (whole_number 0) (h, (two_halves, tt)) tt),
)

pub perpendicular-is : (A B C D : Point)
    → (dot_product A B C D ≡ pos 0 → Same (minus (pythagoras_difference A C D) (pythagoras_difference B C D)) (whole (pos 0)))
    × (Same (minus (pythagoras_difference A C D) (pythagoras_difference B C D)) (whole (pos 0)) → dot_product A B C D ≡ pos 0)
perpendicular-is A B C D = (
  λ h. geo_combination (A ∷ B ∷ C ∷ D ∷ []) [] (fact (opposite' (whole_number 2)) (dot' 0 1 2 3) (whole_number 0) ∷ [])
      (pythagoras 0 2 3 -' pythagoras 1 2 3) (whole_number 0) (dot_product-is A B C D h, tt) tt,
  λ h. dot_null A B C D (geo_combination (A ∷ B ∷ C ∷ D ∷ []) []
      (fact (opposite' one_half) (pythagoras 0 2 3 -' pythagoras 1 2 3) (whole_number 0) ∷ fact (opposite' (dot' 0 1 2 3))
      (whole_number 2 *' one_half) (whole_number 1) ∷ []) (dot' 0 1 2 3) (whole_number 0) (h, (two_halves, tt)) tt),
)

pub identical-is : (A B : Point) → (SamePoint A B → Same (pythagoras_difference A B A) (whole (pos 0))) × (Same (pythagoras_difference A B A) (whole (pos 0)) → SamePoint A B)
identical-is A B = (
  λ h. geo_combination (A ∷ B ∷ []) []
      (fact (whole_number 2 *' (abscissa 0 -' abscissa 1)) (abscissa 0) (abscissa 1) ∷ fact (whole_number 2 *' (ordinate 0 -' ordinate 1))
      (ordinate 0) (ordinate 1) ∷ []) (pythagoras 0 1 0) (whole_number 0) (h.by_x, (h.by_y, tt)) tt,
  λ h. let s = squares_null (run A B) (rise A B)
      (geo_combination (A ∷ B ∷ []) []
      (fact one_half (pythagoras 0 1 0) (whole_number 0)
      ∷ fact (opposite' ((abscissa 1 -' abscissa 0) *' (abscissa 1 -' abscissa 0)
      +' (ordinate 1 -' ordinate 0) *' (ordinate 1 -' ordinate 0))) (whole_number 2 *' one_half) (whole_number 1) ∷ [])
      ((abscissa 1 -' abscissa 0) *' (abscissa 1 -' abscissa 0) +' (ordinate 1 -' ordinate 0) *' (ordinate 1 -' ordinate 0))
      (whole_number 0) (h, (two_halves, tt)) tt) in same_point A B s.0 s.1,
)

pub midpoint-is : (M A B : Point)
    → (IsMidpoint M A B → Same (minus
    (plus (times (whole (pos 2)) (pythagoras_difference A M A)) (times (whole (pos 2)) (pythagoras_difference B M B)))
    (pythagoras_difference A B A)) (whole (pos 0)))
    × (Same (minus (plus (times (whole (pos 2)) (pythagoras_difference A M A)) (times (whole (pos 2)) (pythagoras_difference B M B)))
    (pythagoras_difference A B A)) (whole (pos 0)) → IsMidpoint M A B)
midpoint-is M A B = (
  λ h. geo_combination (M ∷ A ∷ B ∷ []) []
      (fact (whole_number 2 *' (whole_number 2 *' abscissa 0 -' (abscissa 1 +' abscissa 2))) (whole_number 2 *' abscissa 0)
      (abscissa 1 +' abscissa 2) ∷ fact (whole_number 2 *' (whole_number 2 *' ordinate 0 -' (ordinate 1 +' ordinate 2)))
      (whole_number 2 *' ordinate 0) (ordinate 1 +' ordinate 2) ∷ [])
      (whole_number 2 *' pythagoras 1 0 1 +' whole_number 2 *' pythagoras 2 0 2 -' pythagoras 1 2 1) (whole_number 0)
      (h.by_x, (h.by_y, tt)) tt,
  λ h. let s = squares_null (minus (times (whole (pos 2)) (x_coordinate M)) (plus (x_coordinate A) (x_coordinate B)))
      (minus (times (whole (pos 2)) (y_coordinate M)) (plus (y_coordinate A) (y_coordinate B)))
      (geo_combination (M ∷ A ∷ B ∷ []) []
      (fact one_half (whole_number 2 *' pythagoras 1 0 1 +' whole_number 2 *' pythagoras 2 0 2 -' pythagoras 1 2 1) (whole_number 0)
      ∷ fact (opposite' ((whole_number 2 *' abscissa 0 -' (abscissa 1 +' abscissa 2))
      *' (whole_number 2 *' abscissa 0 -' (abscissa 1 +' abscissa 2))
      +' (whole_number 2 *' ordinate 0 -' (ordinate 1 +' ordinate 2)) *' (whole_number 2 *' ordinate 0 -' (ordinate 1 +' ordinate 2))))
      (whole_number 2 *' one_half) (whole_number 1) ∷ [])
      ((whole_number 2 *' abscissa 0 -' (abscissa 1 +' abscissa 2)) *' (whole_number 2 *' abscissa 0 -' (abscissa 1 +' abscissa 2))
      +' (whole_number 2 *' ordinate 0 -' (ordinate 1 +' ordinate 2)) *' (whole_number 2 *' ordinate 0 -' (ordinate 1 +' ordinate 2)))
      (whole_number 0) (h, (two_halves, tt)) tt) in record { by_x = same_of_minus _ _ s.0; by_y = same_of_minus _ _ s.1 },
)

pub same_length-is : (A B C D : Point)
    → (Same (squared_distance A B) (squared_distance C D) → Same (minus (pythagoras_difference A B A) (pythagoras_difference C D C))
    (whole (pos 0))) × (Same (minus (pythagoras_difference A B A) (pythagoras_difference C D C)) (whole (pos 0))
    → Same (squared_distance A B) (squared_distance C D))
same_length-is A B C D = (
  λ h. geo_combination (A ∷ B ∷ C ∷ D ∷ []) [] (fact (whole_number 2) (dot' 0 1 0 1) (dot' 2 3 2 3) ∷ []) (pythagoras 0 1 0 -' pythagoras 2 3 2) (whole_number 0) (h, tt) tt,
  λ h. geo_combination (A ∷ B ∷ C ∷ D ∷ []) []
      (fact one_half (pythagoras 0 1 0 -' pythagoras 2 3 2) (whole_number 0) ∷ fact (dot' 2 3 2 3 -' dot' 0 1 0 1)
      (whole_number 2 *' one_half) (whole_number 1) ∷ []) (dot' 0 1 0 1) (dot' 2 3 2 3) (h, (two_halves, tt)) tt,
)

pub concyclic-is : (A B C D : Point)
    → (Same (circle_determinant A B C D) (whole (pos 0))
    → Same (minus (times (signed_area C A D) (pythagoras_difference C B D)) (times (pythagoras_difference C A D) (signed_area C B D)))
    (whole (pos 0))) × (Same (minus (times (signed_area C A D) (pythagoras_difference C B D))
    (times (pythagoras_difference C A D) (signed_area C B D))) (whole (pos 0)) → Same (circle_determinant A B C D) (whole (pos 0)))
concyclic-is A B C D = (
  λ h. geo_combination (A ∷ B ∷ C ∷ D ∷ []) []
      (fact (whole_number 2 *' one_half)
      ((abscissa 0 *' abscissa 0 +' ordinate 0 *' ordinate 0)
      *' (abscissa 1 *' ordinate 2 -' abscissa 2 *' ordinate 1 +' (abscissa 2 *' ordinate 3 -' abscissa 3 *' ordinate 2)
      +' (abscissa 3 *' ordinate 1 -' abscissa 1 *' ordinate 3))
      -' (abscissa 1 *' abscissa 1 +' ordinate 1 *' ordinate 1)
      *' (abscissa 0 *' ordinate 2 -' abscissa 2 *' ordinate 0 +' (abscissa 2 *' ordinate 3 -' abscissa 3 *' ordinate 2)
      +' (abscissa 3 *' ordinate 0 -' abscissa 0 *' ordinate 3))
      +' (abscissa 2 *' abscissa 2 +' ordinate 2 *' ordinate 2)
      *' (abscissa 0 *' ordinate 1 -' abscissa 1 *' ordinate 0 +' (abscissa 1 *' ordinate 3 -' abscissa 3 *' ordinate 1)
      +' (abscissa 3 *' ordinate 0 -' abscissa 0 *' ordinate 3))
      -' (abscissa 3 *' abscissa 3 +' ordinate 3 *' ordinate 3)
      *' (abscissa 0 *' ordinate 1 -' abscissa 1 *' ordinate 0 +' (abscissa 1 *' ordinate 2 -' abscissa 2 *' ordinate 1)
      +' (abscissa 2 *' ordinate 0 -' abscissa 0 *' ordinate 2))) (whole_number 0) ∷ [])
      (area 2 0 3 *' pythagoras 2 1 3 -' pythagoras 2 0 3 *' area 2 1 3) (whole_number 0) (h, tt) tt,
  λ h. geo_combination (A ∷ B ∷ C ∷ D ∷ []) []
      (fact (whole_number 1) (area 2 0 3 *' pythagoras 2 1 3 -' pythagoras 2 0 3 *' area 2 1 3) (whole_number 0)
      ∷ fact (opposite' ((abscissa 0 *' abscissa 0 +' ordinate 0 *' ordinate 0)
      *' (abscissa 1 *' ordinate 2 -' abscissa 2 *' ordinate 1 +' (abscissa 2 *' ordinate 3 -' abscissa 3 *' ordinate 2)
      +' (abscissa 3 *' ordinate 1 -' abscissa 1 *' ordinate 3))
      -' (abscissa 1 *' abscissa 1 +' ordinate 1 *' ordinate 1)
      *' (abscissa 0 *' ordinate 2 -' abscissa 2 *' ordinate 0 +' (abscissa 2 *' ordinate 3 -' abscissa 3 *' ordinate 2)
      +' (abscissa 3 *' ordinate 0 -' abscissa 0 *' ordinate 3))
      +' (abscissa 2 *' abscissa 2 +' ordinate 2 *' ordinate 2)
      *' (abscissa 0 *' ordinate 1 -' abscissa 1 *' ordinate 0 +' (abscissa 1 *' ordinate 3 -' abscissa 3 *' ordinate 1)
      +' (abscissa 3 *' ordinate 0 -' abscissa 0 *' ordinate 3))
      -' (abscissa 3 *' abscissa 3 +' ordinate 3 *' ordinate 3)
      *' (abscissa 0 *' ordinate 1 -' abscissa 1 *' ordinate 0 +' (abscissa 1 *' ordinate 2 -' abscissa 2 *' ordinate 1)
      +' (abscissa 2 *' ordinate 0 -' abscissa 0 *' ordinate 2)))) (whole_number 2 *' one_half) (whole_number 1) ∷ [])
      ((abscissa 0 *' abscissa 0 +' ordinate 0 *' ordinate 0)
      *' (abscissa 1 *' ordinate 2 -' abscissa 2 *' ordinate 1 +' (abscissa 2 *' ordinate 3 -' abscissa 3 *' ordinate 2)
      +' (abscissa 3 *' ordinate 1 -' abscissa 1 *' ordinate 3))
      -' (abscissa 1 *' abscissa 1 +' ordinate 1 *' ordinate 1)
      *' (abscissa 0 *' ordinate 2 -' abscissa 2 *' ordinate 0 +' (abscissa 2 *' ordinate 3 -' abscissa 3 *' ordinate 2)
      +' (abscissa 3 *' ordinate 0 -' abscissa 0 *' ordinate 3))
      +' (abscissa 2 *' abscissa 2 +' ordinate 2 *' ordinate 2)
      *' (abscissa 0 *' ordinate 1 -' abscissa 1 *' ordinate 0 +' (abscissa 1 *' ordinate 3 -' abscissa 3 *' ordinate 1)
      +' (abscissa 3 *' ordinate 0 -' abscissa 0 *' ordinate 3))
      -' (abscissa 3 *' abscissa 3 +' ordinate 3 *' ordinate 3)
      *' (abscissa 0 *' ordinate 1 -' abscissa 1 *' ordinate 0 +' (abscissa 1 *' ordinate 2 -' abscissa 2 *' ordinate 1)
      +' (abscissa 2 *' ordinate 0 -' abscissa 0 *' ordinate 2))) (whole_number 0) (h, (two_halves, tt)) tt,
)

pub equal-is : (a b : Fraction) → (Same a b → Same (minus a b) (whole (pos 0))) × (Same (minus a b) (whole (pos 0)) → Same a b)
equal-is a b =
    (minus_of_same a b, same_of_minus a b)

-- ---- a condition's words hold exactly where its term is not 0

pub different-is : (A B : Point) → ((Differ A B) → IsNonzero (pythagoras_difference A B A)) × (IsNonzero (pythagoras_difference A B A) → Differ A B)
different-is A B =
    denied (pythagoras_difference A B A) (identical-is A B)

pub not_collinear-is : (A B C : Point) → ((cross_product A B A C ≡ pos 0 → ⊥) → IsNonzero (signed_area A B C)) × (IsNonzero (signed_area A B C) → cross_product A B A C ≡ pos 0 → ⊥)
not_collinear-is A B C =
    denied (signed_area A B C) (collinear-is A B C)

pub not_parallel-is : (A B C D : Point) → ((cross_product A B C D ≡ pos 0 → ⊥) → IsNonzero (minus (signed_area A C D) (signed_area B C D)))
    × (IsNonzero (minus (signed_area A C D) (signed_area B C D)) → cross_product A B C D ≡ pos 0 → ⊥)
not_parallel-is A B C D =
    denied (minus (signed_area A C D) (signed_area B C D)) (parallel-is A B C D)
