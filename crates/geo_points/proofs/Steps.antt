-- The equations of a step on whole numbers are its equations on coordinates that are fractions.
use Rattle.std.proofs.Common.{ℕ, ℤ, pos, [], ◌∷◌}
use Rattle.ring_laws.specs.Solver.{Expression, variable, numeral, ◌⊟◌, ◌⊠◌, entry_at, given, Quotient, as_quotient, quotient_at}
use Rattle.ring_laws.specs.Fraction.{Fraction, Same, whole, plus, negated, minus, times}
use Rattle.geo_points.specs.Points.{Point, x_coordinate, y_coordinate}
use Rattle.geo_points.specs.Steps.{IsAlong}
use Rattle.ring_laws.proofs.Integers.{integers}
use Rattle.ring_laws.proofs.Combination.{by_combination}

module _ (A B C D : Point) (r : Fraction) where
  -- A.x, A.y, A.w are the variables 0, 1, 2, and so on; the parts of r are 12 and 13
  abbrev pub numbers : ℕ → ℤ
  numbers = entry_at integers (A.x ∷ A.y ∷ pos A.w ∷ B.x ∷ B.y ∷ pos B.w ∷ C.x ∷ C.y ∷ pos C.w ∷ D.x ∷ D.y ∷ pos D.w ∷ r.numerator ∷ pos r.denominator ∷ [])

-- the coordinates of the four points, and r
abbrev pub ratios : ℕ → Quotient
ratios = quotient_at
    (record { top = variable 0; bottom = variable 2 } ∷ record { top = variable 1; bottom = variable 2 }
    ∷ record { top = variable 3; bottom = variable 5 } ∷ record { top = variable 4; bottom = variable 5 }
    ∷ record { top = variable 6; bottom = variable 8 } ∷ record { top = variable 7; bottom = variable 8 }
    ∷ record { top = variable 9; bottom = variable 11 } ∷ record { top = variable 10; bottom = variable 11 }
    ∷ record { top = variable 12; bottom = variable 13 } ∷ [])

-- a difference of two coordinates with their denominators: j v - i w
abbrev pub difference_of : ℕ → ℕ → ℕ → ℕ → Expression
difference_of i v j w = variable j ⊠ variable v ⊟ variable i ⊠ variable w

-- W, U, V, Y are A, B, C, D here
pub along-x : (W U V : Point) (r : Fraction) (Y : Point) → IsAlong W U V r Y → Same (minus (x_coordinate Y) (x_coordinate W)) (times r (minus (x_coordinate V) (x_coordinate U)))
unfolding whole plus negated times minus
along-x W U V r Y h =
    let left : Quotient = as_quotient ratios (variable 6 ⊟ variable 0) in
    let right : Quotient = as_quotient ratios (variable 8 ⊠ (variable 4 ⊟ variable 2)) in
    record {
      crossed =
          by_combination integers (numbers W U V Y r)
          (given (numeral 1) (variable 13 ⊠ variable 5 ⊠ variable 8 ⊠ difference_of 0 2 9 11) (variable 12 ⊠ variable 2 ⊠ variable 11 ⊠ difference_of 3 5 6 8) ∷ [])
          (left.top ⊠ right.bottom) (right.top ⊠ left.bottom) (h.by_x, tt) tt;
    }

pub along-y : (W U V : Point) (r : Fraction) (Y : Point) → IsAlong W U V r Y → Same (minus (y_coordinate Y) (y_coordinate W)) (times r (minus (y_coordinate V) (y_coordinate U)))
unfolding whole plus negated times minus
along-y W U V r Y h =
    let left : Quotient = as_quotient ratios (variable 7 ⊟ variable 1) in
    let right : Quotient = as_quotient ratios (variable 8 ⊠ (variable 5 ⊟ variable 3)) in
    record {
      crossed =
          by_combination integers (numbers W U V Y r)
          (given (numeral 1) (variable 13 ⊠ variable 5 ⊠ variable 8 ⊠ difference_of 1 2 10 11) (variable 12 ⊠ variable 2 ⊠ variable 11 ⊠ difference_of 4 5 7 8) ∷ [])
          (left.top ⊠ right.bottom) (right.top ⊠ left.bottom) (h.by_y, tt) tt;
    }

pub along_back : (W U V : Point) (r : Fraction) (Y : Point)
    → Same (minus (x_coordinate Y) (x_coordinate W)) (times r (minus (x_coordinate V) (x_coordinate U)))
    → Same (minus (y_coordinate Y) (y_coordinate W)) (times r (minus (y_coordinate V) (y_coordinate U)))
    → IsAlong W U V r Y
unfolding whole plus negated times minus
along_back W U V r Y h k =
    let w = variable 2 in let u = variable 5 in let v = variable 8 in let y = variable 11 in let s = variable 13 in
    let left-x : Quotient = as_quotient ratios (variable 6 ⊟ variable 0) in
    let right-x : Quotient = as_quotient ratios (variable 8 ⊠ (variable 4 ⊟ variable 2)) in
    let left-y : Quotient = as_quotient ratios (variable 7 ⊟ variable 1) in
    let right-y : Quotient = as_quotient ratios (variable 8 ⊠ (variable 5 ⊟ variable 3)) in
    record {
      by_x =
          by_combination integers (numbers W U V Y r)
          (given (numeral 1) (left-x.top ⊠ right-x.bottom) (right-x.top ⊠ left-x.bottom) ∷ [])
          (s ⊠ u ⊠ v ⊠ difference_of 0 2 9 11) (variable 12 ⊠ w ⊠ y ⊠ difference_of 3 5 6 8) (h.crossed, tt) tt;
      by_y =
          by_combination integers (numbers W U V Y r)
          (given (numeral 1) (left-y.top ⊠ right-y.bottom) (right-y.top ⊠ left-y.bottom) ∷ [])
          (s ⊠ u ⊠ v ⊠ difference_of 1 2 10 11) (variable 12 ⊠ w ⊠ y ⊠ difference_of 4 5 7 8) (k.crossed, tt) tt;
    }
