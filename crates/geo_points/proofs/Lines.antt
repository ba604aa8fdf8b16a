-- Lines that meet at a point and lines at a right angle, as equations of fractions; and back.
use Rattle.std.proofs.Common.{◌≡◌, pos, ◌*◌, mul-pos, [], ◌∷◌}
use Rattle.ring_laws.specs.Solver.{Expression, variable, numeral, ◌⊞◌, ◌⊟◌, ◌⊠◌, opposite, entry_at, given, Quotient, as_quotient}
use Rattle.ring_laws.proofs.Integers.{integers}
use Rattle.ring_laws.proofs.Combination.{by_combination}
use Rattle.ring_laws.specs.Fraction.{Fraction, Same, whole, plus, negated, minus, times}
use Rattle.geo_points.specs.Points.{Point, x_coordinate, y_coordinate, x_difference, y_difference, cross_product, dot_product}
use Rattle.geo_points.specs.Steps.{IsTurned}
use Rattle.ring_laws.proofs.Fractions.{cancel}
use Rattle.geo_points.proofs.Steps.{numbers, ratios, difference_of}

-- the cross product of the vectors AB and CD
abbrev pub cross_of : Point → Point → Point → Point → Fraction
cross_of A B C D =
    minus (times (minus (x_coordinate B) (x_coordinate A)) (minus (y_coordinate D) (y_coordinate C)))
    (times (minus (y_coordinate B) (y_coordinate A)) (minus (x_coordinate D) (x_coordinate C)))

-- their dot product
abbrev pub dot_of : Point → Point → Point → Point → Fraction
dot_of A B C D =
    plus (times (minus (x_coordinate B) (x_coordinate A)) (minus (x_coordinate D) (x_coordinate C)))
    (times (minus (y_coordinate B) (y_coordinate A)) (minus (y_coordinate D) (y_coordinate C)))

abbrev pub cross_e : Expression
cross_e = difference_of 0 2 3 5 ⊠ difference_of 7 8 10 11 ⊟ difference_of 1 2 4 5 ⊠ difference_of 6 8 9 11

abbrev pub dot_e : Expression
dot_e = difference_of 0 2 3 5 ⊠ difference_of 6 8 9 11 ⊞ difference_of 1 2 4 5 ⊠ difference_of 7 8 10 11

pub cross_product-is : (A B C D : Point) → cross_product A B C D ≡ pos 0 → Same (cross_of A B C D) (whole (pos 0))
unfolding whole plus negated times minus
cross_product-is A B C D h =
    let left : Quotient = as_quotient ratios ((variable 2 ⊟ variable 0) ⊠ (variable 7 ⊟ variable 5) ⊟ (variable 3 ⊟ variable 1) ⊠ (variable 6 ⊟ variable 4)) in
    record {
      crossed =
          by_combination integers (numbers A B C D (whole (pos 0))) (given (variable 2 ⊠ variable 5 ⊠ variable 8 ⊠ variable 11) cross_e (numeral 0) ∷ [])
          (left.top ⊠ numeral 1) (numeral 0 ⊠ left.bottom) (h, tt) tt;
    }

pub dot_product-is : (A B C D : Point) → dot_product A B C D ≡ pos 0 → Same (dot_of A B C D) (whole (pos 0))
unfolding whole plus negated times minus
dot_product-is A B C D h =
    let left : Quotient = as_quotient ratios ((variable 2 ⊟ variable 0) ⊠ (variable 6 ⊟ variable 4) ⊞ (variable 3 ⊟ variable 1) ⊠ (variable 7 ⊟ variable 5)) in
    record {
      crossed =
          by_combination integers (numbers A B C D (whole (pos 0))) (given (variable 2 ⊠ variable 5 ⊠ variable 8 ⊠ variable 11) dot_e (numeral 0) ∷ [])
          (left.top ⊠ numeral 1) (numeral 0 ⊠ left.bottom) (h, tt) tt;
    }

-- U, V, Y are A, B, C here
pub turned-x : (U V : Point) (r : Fraction) (Y : Point) → IsTurned U V r Y → Same (minus (x_coordinate Y) (x_coordinate U)) (negated (times r (minus (y_coordinate V) (y_coordinate U))))
unfolding whole plus negated times minus
turned-x U V r Y h =
    let left : Quotient = as_quotient ratios (variable 4 ⊟ variable 0) in
    let right : Quotient = as_quotient ratios (opposite (variable 8 ⊠ (variable 3 ⊟ variable 1))) in
    record {
      crossed =
          by_combination integers (numbers U V Y Y r)
          (given (numeral 1) (variable 13 ⊠ variable 2 ⊠ variable 5 ⊠ difference_of 0 2 6 8) (opposite (variable 12 ⊠ variable 2 ⊠ variable 8 ⊠ difference_of 1 2 4 5)) ∷ [])
          (left.top ⊠ right.bottom) (right.top ⊠ left.bottom) (h.by_x, tt) tt;
    }

pub turned-y : (U V : Point) (r : Fraction) (Y : Point) → IsTurned U V r Y → Same (minus (y_coordinate Y) (y_coordinate U)) (times r (minus (x_coordinate V) (x_coordinate U)))
unfolding whole plus negated times minus
turned-y U V r Y h =
    let left : Quotient = as_quotient ratios (variable 5 ⊟ variable 1) in
    let right : Quotient = as_quotient ratios (variable 8 ⊠ (variable 2 ⊟ variable 0)) in
    record {
      crossed =
          by_combination integers (numbers U V Y Y r)
          (given (numeral 1) (variable 13 ⊠ variable 2 ⊠ variable 5 ⊠ difference_of 1 2 7 8) (variable 12 ⊠ variable 2 ⊠ variable 8 ⊠ difference_of 0 2 3 5) ∷ [])
          (left.top ⊠ right.bottom) (right.top ⊠ left.bottom) (h.by_y, tt) tt;
    }

-- BACK FROM FRACTIONS
pub cross_null : (A B C D : Point) → Same (cross_of A B C D) (whole (pos 0)) → cross_product A B C D ≡ pos 0
unfolding whole plus negated times minus
cross_null A B C D h =
    let left : Quotient = as_quotient ratios ((variable 2 ⊟ variable 0) ⊠ (variable 7 ⊟ variable 5) ⊟ (variable 3 ⊟ variable 1) ⊠ (variable 6 ⊟ variable 4)) in
    cancel (cross_product A B C D) (pos 0) (A.w * B.w * C.w * D.w) (mul-pos (mul-pos (mul-pos A.positive B.positive) C.positive) D.positive)
    (by_combination integers (numbers A B C D (whole (pos 0))) (given (numeral 1) (left.top ⊠ numeral 1) (numeral 0 ⊠ left.bottom) ∷ [])
    (cross_e ⊠ (variable 2 ⊠ variable 5 ⊠ variable 8 ⊠ variable 11)) (numeral 0 ⊠ (variable 2 ⊠ variable 5 ⊠ variable 8 ⊠ variable 11)) (h.crossed, tt) tt)

pub x_difference_null : (A B : Point) → Same (minus (x_coordinate B) (x_coordinate A)) (whole (pos 0)) → x_difference A B ≡ pos 0
unfolding whole plus negated times minus
x_difference_null A B h =
    let ax = variable 0 in let aw = variable 1 in let bx = variable 2 in let bw = variable 3 in
    by_combination integers (entry_at integers (A.x ∷ pos A.w ∷ B.x ∷ pos B.w ∷ [])) (given (numeral 1) ((bx ⊠ aw ⊞ opposite ax ⊠ bw) ⊠ numeral 1) (numeral 0 ⊠ (bw ⊠ aw)) ∷ [])
    (bx ⊠ aw ⊟ ax ⊠ bw) (numeral 0) (h.crossed, tt) tt

pub y_difference_null : (A B : Point) → Same (minus (y_coordinate B) (y_coordinate A)) (whole (pos 0)) → y_difference A B ≡ pos 0
unfolding whole plus negated times minus
y_difference_null A B h =
    let ax = variable 0 in let aw = variable 1 in let bx = variable 2 in let bw = variable 3 in
    by_combination integers (entry_at integers (A.y ∷ pos A.w ∷ B.y ∷ pos B.w ∷ [])) (given (numeral 1) ((bx ⊠ aw ⊞ opposite ax ⊠ bw) ⊠ numeral 1) (numeral 0 ⊠ (bw ⊠ aw)) ∷ [])
    (bx ⊠ aw ⊟ ax ⊠ bw) (numeral 0) (h.crossed, tt) tt
