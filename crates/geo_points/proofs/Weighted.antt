-- A step by weights in coordinates; it makes a point, and no other.
use Rattle.std.proofs.Common.{ℕ, ◌*◌, ℤ, pos, [], ◌∷◌, mul-pos}
use Rattle.ring_laws.specs.Solver.{Expression, variable, numeral, ◌⊞◌, ◌⊟◌, ◌⊠◌, entry_at, given, Quotient, as_quotient, quotient_at}
use Rattle.ring_laws.specs.Fraction.{Fraction, Same, whole, plus, negated, minus, times}
use Rattle.ring_laws.proofs.Combination.{by_combination}
use Rattle.ring_laws.proofs.Fractions.{cancel}
use Rattle.ring_laws.proofs.Integers.{integers}
use Rattle.geo_points.specs.Placements.{SamePoint}
use Rattle.geo_points.specs.Points.{Point, x_coordinate, y_coordinate}
use Rattle.geo_points.specs.Steps.{IsWeighted}
use Rattle.geo_points.specs.Vectors.{run, rise}
use Rattle.geo_points.proofs.Expressions.{Quantity, abscissa, ordinate, whole_number, given_number, ◌+'◌, ◌-'◌, ◌*'◌, opposite', fact}
use Rattle.geo_points.proofs.Geometry.{geo_combination}
use Rattle.geo_points.proofs.Placed.{point_exists}
use Rattle.geo_points.proofs.Steps.{difference_of}

module _ (O U V Y : Point) (r s : Fraction) where
  -- the parts of O, U, V and Y are the variables 0 to 11, those of r are 12 and 13, those of s 14 and 15
  abbrev parts : ℕ → ℤ
  parts = entry_at integers
      (O.x ∷ O.y ∷ pos O.w ∷ U.x ∷ U.y ∷ pos U.w ∷ V.x ∷ V.y ∷ pos V.w ∷ Y.x ∷ Y.y ∷ pos Y.w
      ∷ r.numerator ∷ pos r.denominator ∷ s.numerator ∷ pos s.denominator ∷ [])

-- the coordinates of the four points, r and s
abbrev quotients : ℕ → Quotient
quotients = quotient_at
    (record { top = variable 0; bottom = variable 2 } ∷ record { top = variable 1; bottom = variable 2 }
    ∷ record { top = variable 3; bottom = variable 5 } ∷ record { top = variable 4; bottom = variable 5 }
    ∷ record { top = variable 6; bottom = variable 8 } ∷ record { top = variable 7; bottom = variable 8 }
    ∷ record { top = variable 9; bottom = variable 11 } ∷ record { top = variable 10; bottom = variable 11 }
    ∷ record { top = variable 12; bottom = variable 13 } ∷ record { top = variable 14; bottom = variable 15 } ∷ [])

-- both sides of the equation in one coordinate, on whole numbers
abbrev moved_part : Expression → Expression
moved_part to_y = variable 13 ⊠ variable 15 ⊠ variable 5 ⊠ variable 8 ⊠ to_y

abbrev weighted_parts : Expression → Expression → Expression
weighted_parts to_u to_v =
    variable 12 ⊠ variable 15 ⊠ variable 8 ⊠ variable 11 ⊠ to_u ⊞ variable 14 ⊠ variable 13 ⊠ variable 5 ⊠ variable 11 ⊠ to_v

-- both sides as fractions
abbrev moved-x : Quotient
moved-x = as_quotient quotients (variable 6 ⊟ variable 0)

abbrev moved-y : Quotient
moved-y = as_quotient quotients (variable 7 ⊟ variable 1)

abbrev combined-x : Quotient
combined-x = as_quotient quotients (variable 8 ⊠ (variable 2 ⊟ variable 0) ⊞ variable 9 ⊠ (variable 4 ⊟ variable 0))

abbrev combined-y : Quotient
combined-y = as_quotient quotients (variable 8 ⊠ (variable 3 ⊟ variable 1) ⊞ variable 9 ⊠ (variable 5 ⊟ variable 1))

pub weighted-x : (O U V : Point) (r s : Fraction) (Y : Point) → IsWeighted O U V r s Y → Same (run O Y) (plus (times r (run O U)) (times s (run O V)))
unfolding whole plus negated times minus
weighted-x O U V r s Y h =
    record {
      crossed =
          by_combination integers (parts O U V Y r s)
          (given (variable 2 ⊠ variable 2) (moved_part (difference_of 0 2 9 11)) (weighted_parts (difference_of 0 2 3 5) (difference_of 0 2 6 8)) ∷ [])
          (moved-x.top ⊠ combined-x.bottom) (combined-x.top ⊠ moved-x.bottom) (h.by_x, tt) tt;
    }

pub weighted-y : (O U V : Point) (r s : Fraction) (Y : Point) → IsWeighted O U V r s Y → Same (rise O Y) (plus (times r (rise O U)) (times s (rise O V)))
unfolding whole plus negated times minus
weighted-y O U V r s Y h =
    record {
      crossed =
          by_combination integers (parts O U V Y r s)
          (given (variable 2 ⊠ variable 2) (moved_part (difference_of 1 2 10 11)) (weighted_parts (difference_of 1 2 4 5) (difference_of 1 2 7 8)) ∷ [])
          (moved-y.top ⊠ combined-y.bottom) (combined-y.top ⊠ moved-y.bottom) (h.by_y, tt) tt;
    }

pub weighted_back : (O U V : Point) (r s : Fraction) (Y : Point)
    → Same (run O Y) (plus (times r (run O U)) (times s (run O V)))
    → Same (rise O Y) (plus (times r (rise O U)) (times s (rise O V)))
    → IsWeighted O U V r s Y
unfolding whole plus negated times minus
weighted_back O U V r s Y h k =
    let square = variable 2 ⊠ variable 2 in
    let left-x = moved_part (difference_of 0 2 9 11) in
    let right-x = weighted_parts (difference_of 0 2 3 5) (difference_of 0 2 6 8) in
    let left-y = moved_part (difference_of 1 2 10 11) in
    let right-y = weighted_parts (difference_of 1 2 4 5) (difference_of 1 2 7 8) in
    record {
      by_x =
          cancel _ _ (O.w * O.w) (mul-pos O.positive O.positive)
          (by_combination integers (parts O U V Y r s)
          (given (numeral 1) (moved-x.top ⊠ combined-x.bottom) (combined-x.top ⊠ moved-x.bottom) ∷ [])
          (left-x ⊠ square) (right-x ⊠ square) (h.crossed, tt) tt);
      by_y =
          cancel _ _ (O.w * O.w) (mul-pos O.positive O.positive)
          (by_combination integers (parts O U V Y r s)
          (given (numeral 1) (moved-y.top ⊠ combined-y.bottom) (combined-y.top ⊠ moved-y.bottom) ∷ [])
          (left-y ⊠ square) (right-y ⊠ square) (k.crossed, tt) tt);
    }

-- the points are O U V Y, as 0 to 3, and the numbers r and s
abbrev pub combination : (ℕ → Quantity) → Quantity
combination coordinate = given_number 0 *' (coordinate 1 -' coordinate 0) +' given_number 1 *' (coordinate 2 -' coordinate 0)

pub weighted_exists : (O U V : Point) (r s : Fraction) → (Y : Point) × IsWeighted O U V r s Y
weighted_exists O U V r s =
    let made = point_exists
    (plus (x_coordinate O) (plus (times r (run O U)) (times s (run O V))))
    (plus (y_coordinate O) (plus (times r (rise O U)) (times s (rise O V)))) in
    let Y = made.0 in (
      Y,
      weighted_back O U V r s Y
          (geo_combination (O ∷ U ∷ V ∷ Y ∷ []) (r ∷ s ∷ []) (fact (whole_number 1) (abscissa 3) (abscissa 0 +' combination abscissa) ∷ [])
          (abscissa 3 -' abscissa 0) (combination abscissa) (made.1, tt) tt)
          (geo_combination (O ∷ U ∷ V ∷ Y ∷ []) (r ∷ s ∷ []) (fact (whole_number 1) (ordinate 3) (ordinate 0 +' combination ordinate) ∷ [])
          (ordinate 3 -' ordinate 0) (combination ordinate) (made.2, tt) tt),
    )

-- the points are O U V Y Z, as 0 to 4
pub weighted_unique : (O U V : Point) (r s : Fraction) (Y Z : Point) → IsWeighted O U V r s Y → IsWeighted O U V r s Z → SamePoint Y Z
weighted_unique O U V r s Y Z h k =
    record {
      by_x = geo_combination (O ∷ U ∷ V ∷ Y ∷ Z ∷ []) (r ∷ s ∷ [])
          (fact (whole_number 1) (abscissa 3 -' abscissa 0) (combination abscissa) ∷ fact (opposite' (whole_number 1)) (abscissa 4 -' abscissa 0) (combination abscissa) ∷ [])
          (abscissa 3) (abscissa 4) (weighted-x O U V r s Y h, (weighted-x O U V r s Z k, tt)) tt;
      by_y = geo_combination (O ∷ U ∷ V ∷ Y ∷ Z ∷ []) (r ∷ s ∷ [])
          (fact (whole_number 1) (ordinate 3 -' ordinate 0) (combination ordinate) ∷ fact (opposite' (whole_number 1)) (ordinate 4 -' ordinate 0) (combination ordinate) ∷ [])
          (ordinate 3) (ordinate 4) (weighted-y O U V r s Y h, (weighted-y O U V r s Z k, tt)) tt;
    }
