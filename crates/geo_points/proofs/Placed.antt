-- A step along a vector makes a point, and no other.
use Rattle.std.proofs.Common.{ℕ, ◌*◌, ℤ, pos, ◌*ℤ◌, [], ◌∷◌, mul-pos}
use Rattle.ring_laws.specs.Solver.{variable, ◌⊠◌, entry_at}
use Rattle.ring_laws.specs.Fraction.{Fraction, Same, plus, minus, times}
use Rattle.geo_points.specs.Points.{Point, x_coordinate, y_coordinate}
use Rattle.geo_points.specs.Placements.{SamePoint}
use Rattle.geo_points.specs.Steps.{IsAlong}
use Rattle.ring_laws.proofs.Integers.{integers}
use Rattle.ring_laws.proofs.Sound.{agree}
use Rattle.geo_points.proofs.Expressions.{abscissa, ordinate, whole_number, given_number, ◌+'◌, ◌-'◌, ◌*'◌, opposite', fact}
use Rattle.geo_points.proofs.Geometry.{geo_combination}
use Rattle.geo_points.proofs.Steps.{along-x, along-y, along_back}

-- a point with given coordinates
pub point_exists : (p q : Fraction) → (A : Point) × Same (x_coordinate A) p × Same (y_coordinate A) q
point_exists p q =
    let a = variable 0 in let b = variable 1 in let c = variable 2 in let d = variable 3 in
    let parts : ℕ → ℤ = entry_at integers (p.numerator ∷ pos p.denominator ∷ q.numerator ∷ pos q.denominator ∷ []) in (
      record { x = p.numerator *ℤ pos q.denominator; y = q.numerator *ℤ pos p.denominator; w = p.denominator * q.denominator; positive = mul-pos p.positive q.positive },
      record { crossed = agree integers parts (a ⊠ d ⊠ b) (a ⊠ (b ⊠ d)) tt },
      record { crossed = agree integers parts (c ⊠ b ⊠ d) (c ⊠ (b ⊠ d)) tt },
    )

-- the points are W U V Y, as 0 to 3
pub along_exists : (W U V : Point) (r : Fraction) → (Y : Point) × IsAlong W U V r Y
along_exists W U V r =
    let made = point_exists
    (plus (x_coordinate W) (times r (minus (x_coordinate V) (x_coordinate U))))
    (plus (y_coordinate W) (times r (minus (y_coordinate V) (y_coordinate U)))) in
    let Y = made.0 in (
      Y,
      along_back W U V r Y
          (geo_combination (W ∷ U ∷ V ∷ Y ∷ []) (r ∷ [])
          (fact (whole_number 1) (abscissa 3) (abscissa 0 +' given_number 0 *' (abscissa 2 -' abscissa 1)) ∷ [])
          (abscissa 3 -' abscissa 0) (given_number 0 *' (abscissa 2 -' abscissa 1)) (made.1, tt) tt)
          (geo_combination (W ∷ U ∷ V ∷ Y ∷ []) (r ∷ [])
          (fact (whole_number 1) (ordinate 3) (ordinate 0 +' given_number 0 *' (ordinate 2 -' ordinate 1)) ∷ [])
          (ordinate 3 -' ordinate 0) (given_number 0 *' (ordinate 2 -' ordinate 1)) (made.2, tt) tt),
    )

-- the points are W U V Y Z, as 0 to 4
pub along_unique : (W U V : Point) (r : Fraction) (Y Z : Point) → IsAlong W U V r Y → IsAlong W U V r Z → SamePoint Y Z
along_unique W U V r Y Z h k =
    record {
      by_x = geo_combination (W ∷ U ∷ V ∷ Y ∷ Z ∷ []) (r ∷ [])
          (fact (whole_number 1) (abscissa 3 -' abscissa 0) (given_number 0 *' (abscissa 2 -' abscissa 1))
          ∷ fact (opposite' (whole_number 1)) (abscissa 4 -' abscissa 0) (given_number 0 *' (abscissa 2 -' abscissa 1)) ∷ [])
          (abscissa 3) (abscissa 4) (along-x W U V r Y h, (along-x W U V r Z k, tt)) tt;
      by_y = geo_combination (W ∷ U ∷ V ∷ Y ∷ Z ∷ []) (r ∷ [])
          (fact (whole_number 1) (ordinate 3 -' ordinate 0) (given_number 0 *' (ordinate 2 -' ordinate 1))
          ∷ fact (opposite' (whole_number 1)) (ordinate 4 -' ordinate 0) (given_number 0 *' (ordinate 2 -' ordinate 1)) ∷ [])
          (ordinate 3) (ordinate 4) (along-y W U V r Y h, (along-y W U V r Z k, tt)) tt;
    }
