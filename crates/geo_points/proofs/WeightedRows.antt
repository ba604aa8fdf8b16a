-- The rows of a point by weights. The points are A B O U V Y, as 0 to 5; r d is the same as n, and s e the same as m.
use Rattle.std.proofs.Common.{ℕ, [], ◌∷◌}
use Rattle.ring_laws.specs.Fraction.{Fraction, Same, plus, minus, times}
use Rattle.geo_points.specs.Points.{Point, signed_area, pythagoras_difference}
use Rattle.geo_points.specs.Steps.{IsWeighted}
use Rattle.geo_points.specs.Vectors.{run, rise}
use Rattle.geo_points.proofs.AreaRows.{cross'}
use Rattle.geo_points.proofs.Expressions.{Quantity, abscissa, ordinate, area, pythagoras, whole_number, one_half, given_number, ◌+'◌, ◌-'◌, ◌*'◌, opposite', fact}
use Rattle.geo_points.proofs.Geometry.{geo_combination}
use Rattle.geo_points.proofs.LinearRows.{dot'}
use Rattle.geo_points.proofs.Weighted.{weighted-x, weighted-y}

-- the weights of O, U and V, times d e
abbrev pub first_weight : Fraction → Fraction → Fraction → Fraction → Fraction
first_weight n d m e = minus (minus (times d e) (times n e)) (times m d)

-- the numbers are r s n d m e, as 0 to 5
abbrev first' : Quantity
first' = given_number 3 *' given_number 5 -' given_number 2 *' given_number 5 -' given_number 4 *' given_number 3

abbrev second' : Quantity
second' = given_number 2 *' given_number 5

abbrev third' : Quantity
third' = given_number 4 *' given_number 3

-- r times the way to U and s times the way to V, by coordinates
abbrev ways : (ℕ → Quantity) → Quantity
ways coordinate = given_number 0 *' (coordinate 3 -' coordinate 2) +' given_number 1 *' (coordinate 4 -' coordinate 2)

pub weights-signed_area : (A B O U V Y : Point) (r s n d m e : Fraction) → IsWeighted O U V r s Y → Same (times r d) n → Same (times s e) m
    → Same (times (signed_area A B Y) (times d e))
    (plus (plus (times (first_weight n d m e) (signed_area A B O)) (times (times n e) (signed_area A B U))) (times (times m d) (signed_area A B V)))
weights-signed_area A B O U V Y' r s n d m e w h k =
    let both = given_number 3 *' given_number 5 in
    geo_combination (A ∷ B ∷ O ∷ U ∷ V ∷ Y' ∷ []) (r ∷ s ∷ n ∷ d ∷ m ∷ e ∷ [])
    (fact (opposite' (one_half *' (ordinate 1 -' ordinate 0) *' both)) (abscissa 5 -' abscissa 2) (ways abscissa)
    ∷ fact (one_half *' (abscissa 1 -' abscissa 0) *' both) (ordinate 5 -' ordinate 2) (ways ordinate)
    ∷ fact (one_half *' given_number 5 *' cross' 0 1 2 3) (given_number 0 *' given_number 3) (given_number 2)
    ∷ fact (one_half *' given_number 3 *' cross' 0 1 2 4) (given_number 1 *' given_number 5) (given_number 4) ∷ [])
    (area 0 1 5 *' both) (first' *' area 0 1 2 +' second' *' area 0 1 3 +' third' *' area 0 1 4)
    (weighted-x O U V r s Y' w, (weighted-y O U V r s Y' w, (h, (k, tt)))) tt

pub weights-pythagoras_difference : (A B O U V Y : Point) (r s n d m e : Fraction) → IsWeighted O U V r s Y → Same (times r d) n → Same (times s e) m
    → Same (times (pythagoras_difference A B Y) (times d e))
    (plus (plus (times (first_weight n d m e) (pythagoras_difference A B O)) (times (times n e) (pythagoras_difference A B U))) (times (times m d) (pythagoras_difference A B V)))
weights-pythagoras_difference A B O U V Y' r s n d m e w h k =
    let both = given_number 3 *' given_number 5 in
    geo_combination (A ∷ B ∷ O ∷ U ∷ V ∷ Y' ∷ []) (r ∷ s ∷ n ∷ d ∷ m ∷ e ∷ [])
    (fact (whole_number 2 *' (abscissa 0 -' abscissa 1) *' both) (abscissa 5 -' abscissa 2) (ways abscissa)
    ∷ fact (whole_number 2 *' (ordinate 0 -' ordinate 1) *' both) (ordinate 5 -' ordinate 2) (ways ordinate)
    ∷ fact (whole_number 2 *' given_number 5 *' dot' 1 0 2 3) (given_number 0 *' given_number 3) (given_number 2)
    ∷ fact (whole_number 2 *' given_number 3 *' dot' 1 0 2 4) (given_number 1 *' given_number 5) (given_number 4) ∷ [])
    (pythagoras 0 1 5 *' both) (first' *' pythagoras 0 1 2 +' second' *' pythagoras 0 1 3 +' third' *' pythagoras 0 1 4)
    (weighted-x O U V r s Y' w, (weighted-y O U V r s Y' w, (h, (k, tt)))) tt

-- the quadratic row in two stages: the step times d e, and then the row, in which r and s stand no more
record Weighs (O U V Y : Point) (n d m e : Fraction) : Type 0 where
  by_x : Same (times (times d e) (run O Y)) (plus (times (times n e) (run O U)) (times (times m d) (run O V)))
  by_y : Same (times (times d e) (rise O Y)) (plus (times (times n e) (rise O U)) (times (times m d) (rise O V)))

-- the points are O U V Y here
weights-moves : (O U V Y : Point) (r s n d m e : Fraction) → IsWeighted O U V r s Y → Same (times r d) n → Same (times s e) m → Weighs O U V Y n d m e
weights-moves O U V Y' r s n d m e w h k =
    let both = given_number 3 *' given_number 5 in
    record {
      by_x =
          geo_combination (O ∷ U ∷ V ∷ Y' ∷ []) (r ∷ s ∷ n ∷ d ∷ m ∷ e ∷ [])
          (fact both (abscissa 3 -' abscissa 0) (given_number 0 *' (abscissa 1 -' abscissa 0) +' given_number 1 *' (abscissa 2 -' abscissa 0))
          ∷ fact (given_number 5 *' (abscissa 1 -' abscissa 0)) (given_number 0 *' given_number 3) (given_number 2)
          ∷ fact (given_number 3 *' (abscissa 2 -' abscissa 0)) (given_number 1 *' given_number 5) (given_number 4) ∷ [])
          (both *' (abscissa 3 -' abscissa 0)) (second' *' (abscissa 1 -' abscissa 0) +' third' *' (abscissa 2 -' abscissa 0))
          (weighted-x O U V r s Y' w, (h, (k, tt))) tt;
      by_y =
          geo_combination (O ∷ U ∷ V ∷ Y' ∷ []) (r ∷ s ∷ n ∷ d ∷ m ∷ e ∷ [])
          (fact both (ordinate 3 -' ordinate 0) (given_number 0 *' (ordinate 1 -' ordinate 0) +' given_number 1 *' (ordinate 2 -' ordinate 0))
          ∷ fact (given_number 5 *' (ordinate 1 -' ordinate 0)) (given_number 0 *' given_number 3) (given_number 2)
          ∷ fact (given_number 3 *' (ordinate 2 -' ordinate 0)) (given_number 1 *' given_number 5) (given_number 4) ∷ [])
          (both *' (ordinate 3 -' ordinate 0)) (second' *' (ordinate 1 -' ordinate 0) +' third' *' (ordinate 2 -' ordinate 0))
          (weighted-y O U V r s Y' w, (h, (k, tt))) tt;
    }

-- the numbers are n d m e, as 0 to 3
moved-quadratic : (A B O U V Y : Point) (n d m e : Fraction) → Weighs O U V Y n d m e
    → Same (times (pythagoras_difference A Y B) (times (times d e) (times d e)))
    (minus (minus (minus
    (times (times d e) (plus (plus (times (first_weight n d m e) (pythagoras_difference A O B)) (times (times n e) (pythagoras_difference A U B))) (times (times m d) (pythagoras_difference A V B))))
    (times (times (first_weight n d m e) (times n e)) (pythagoras_difference O U O)))
    (times (times (first_weight n d m e) (times m d)) (pythagoras_difference O V O)))
    (times (times (times n e) (times m d)) (pythagoras_difference U V U)))
moved-quadratic A B O U V Y' n d m e w =
    let both = given_number 1 *' given_number 3 in let second = given_number 0 *' given_number 3 in let third = given_number 2 *' given_number 1 in
    let first = both -' second -' third in
    let side-x = second *' (abscissa 3 -' abscissa 2) +' third *' (abscissa 4 -' abscissa 2) in
    let side-y = second *' (ordinate 3 -' ordinate 2) +' third *' (ordinate 4 -' ordinate 2) in
    geo_combination (A ∷ B ∷ O ∷ U ∷ V ∷ Y' ∷ []) (n ∷ d ∷ m ∷ e ∷ [])
    (fact (whole_number 2 *' (both *' (abscissa 5 -' abscissa 2) +' side-x -' both *' (abscissa 0 -' abscissa 2) -' both *' (abscissa 1 -' abscissa 2))) (both *' (abscissa 5 -' abscissa 2)) side-x
    ∷ fact (whole_number 2 *' (both *' (ordinate 5 -' ordinate 2) +' side-y -' both *' (ordinate 0 -' ordinate 2)
    -' both *' (ordinate 1 -' ordinate 2))) (both *' (ordinate 5 -' ordinate 2)) side-y ∷ [])
    (pythagoras 0 5 1 *' (both *' both))
    (both *' (first *' pythagoras 0 2 1 +' second *' pythagoras 0 3 1 +' third *' pythagoras 0 4 1) -' first *' second *' pythagoras 2 3 2
    -' first *' third *' pythagoras 2 4 2 -' second *' third *' pythagoras 3 4 3)
    (w.by_x, (w.by_y, tt)) tt

pub weights-quadratic : (A B O U V Y : Point) (r s n d m e : Fraction) → IsWeighted O U V r s Y → Same (times r d) n → Same (times s e) m
    → Same (times (pythagoras_difference A Y B) (times (times d e) (times d e)))
    (minus (minus (minus
    (times (times d e) (plus (plus (times (first_weight n d m e) (pythagoras_difference A O B)) (times (times n e) (pythagoras_difference A U B))) (times (times m d) (pythagoras_difference A V B))))
    (times (times (first_weight n d m e) (times n e)) (pythagoras_difference O U O)))
    (times (times (first_weight n d m e) (times m d)) (pythagoras_difference O V O)))
    (times (times (times n e) (times m d)) (pythagoras_difference U V U)))
weights-quadratic A B O U V Y' r s n d m e w h k = moved-quadratic A B O U V Y' n d m e (weights-moves O U V Y' r s n d m e w h k)
