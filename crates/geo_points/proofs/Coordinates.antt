-- Equations of whole numbers between points are equations of fractions, both ways.
use Rattle.std.proofs.Common.{◌≡◌, ℕ, ◌*◌, pos, [], ◌∷◌, mul-pos}
use Rattle.ring_laws.specs.Solver.{variable, numeral, ◌⊞◌, ◌⊟◌, ◌⊠◌, opposite, given, Quotient, as_quotient}
use Rattle.ring_laws.proofs.Integers.{integers}
use Rattle.ring_laws.proofs.Combination.{by_combination}
use Rattle.ring_laws.specs.Fraction.{Fraction, Same, whole, plus, negated, minus, times}
use Rattle.geo_points.specs.Points.{Point, dot_product}
use Rattle.geo_points.specs.Steps.{IsTurned}
use Rattle.geo_points.proofs.Expressions.{Quantity, abscissa, ordinate, ◌+'◌, ◌-'◌, ◌*'◌}
use Rattle.ring_laws.proofs.Fractions.{cancel}
use Rattle.geo_points.proofs.Lines.{dot_of, dot_e}
use Rattle.geo_points.proofs.Steps.{numbers, ratios, difference_of}
use Rattle.geo_points.specs.Vectors.{run, rise}

abbrev pub dot' : ℕ → ℕ → ℕ → ℕ → Quantity
dot' a b c d = (abscissa b -' abscissa a) *' (abscissa d -' abscissa c) +' (ordinate b -' ordinate a) *' (ordinate d -' ordinate c)

pub dot_null : (A B C D : Point) → Same (dot_of A B C D) (whole (pos 0)) → dot_product A B C D ≡ pos 0
unfolding whole plus negated times minus
dot_null A B C D h =
    let left : Quotient = as_quotient ratios ((variable 2 ⊟ variable 0) ⊠ (variable 6 ⊟ variable 4) ⊞ (variable 3 ⊟ variable 1) ⊠ (variable 7 ⊟ variable 5)) in
    cancel (dot_product A B C D) (pos 0) (A.w * B.w * C.w * D.w) (mul-pos (mul-pos (mul-pos A.positive B.positive) C.positive) D.positive)
    (by_combination integers (numbers A B C D (whole (pos 0))) (given (numeral 1) (left.top ⊠ numeral 1) (numeral 0 ⊠ left.bottom) ∷ [])
    (dot_e ⊠ (variable 2 ⊠ variable 5 ⊠ variable 8 ⊠ variable 11)) (numeral 0 ⊠ (variable 2 ⊠ variable 5 ⊠ variable 8 ⊠ variable 11)) (h.crossed, tt) tt)

pub turned_back : (U V : Point) (r : Fraction) (Y : Point)
    → Same (run U Y) (negated (times r (rise U V))) → Same (rise U Y) (times r (run U V)) → IsTurned U V r Y
unfolding whole plus negated times minus
turned_back U V r Y h k =
    let left-x : Quotient = as_quotient ratios (variable 4 ⊟ variable 0) in
    let right-x : Quotient = as_quotient ratios (opposite (variable 8 ⊠ (variable 3 ⊟ variable 1))) in
    let left-y : Quotient = as_quotient ratios (variable 5 ⊟ variable 1) in
    let right-y : Quotient = as_quotient ratios (variable 8 ⊠ (variable 2 ⊟ variable 0)) in
    record {
      by_x =
          by_combination integers (numbers U V Y Y r)
          (given (numeral 1) (left-x.top ⊠ right-x.bottom) (right-x.top ⊠ left-x.bottom) ∷ [])
          (variable 13 ⊠ variable 2 ⊠ variable 5 ⊠ difference_of 0 2 6 8) (opposite (variable 12 ⊠ variable 2 ⊠ variable 8 ⊠ difference_of 1 2 4 5)) (h.crossed, tt) tt;
      by_y =
          by_combination integers (numbers U V Y Y r)
          (given (numeral 1) (left-y.top ⊠ right-y.bottom) (right-y.top ⊠ left-y.bottom) ∷ [])
          (variable 13 ⊠ variable 2 ⊠ variable 5 ⊠ difference_of 1 2 7 8) (variable 12 ⊠ variable 2 ⊠ variable 8 ⊠ difference_of 0 2 3 5) (k.crossed, tt) tt;
    }
