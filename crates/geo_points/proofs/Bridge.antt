-- The quantities on triples are those on coordinates that are fractions.
use Rattle.std.proofs.Common.{ℕ, ℤ, pos, [], ◌∷◌}
use Rattle.ring_laws.specs.Solver.{variable, numeral, ◌⊞◌, ◌⊟◌, ◌⊠◌, entry_at, Quotient, as_quotient, quotient_at}
use Rattle.ring_laws.specs.Fraction.{Fraction, Same, whole, times, plus, negated, minus}
use Rattle.geo_points.specs.Points.{Point, x_coordinate, y_coordinate, signed_area, pythagoras_difference}
use Rattle.geo_points.proofs.Plane.{Spot, double_area, pythagoras_value, double_area_expression, pythagoras_expression, spot}
use Rattle.geo_points.proofs.Expressions.{half}
use Rattle.ring_laws.proofs.Integers.{integers}
use Rattle.ring_laws.proofs.Fractions.{fractions}
use Rattle.ring_laws.proofs.Sound.{agree}

-- the coordinates of a point
abbrev pub spot_of : Point → Spot Fraction
spot_of A = record {
  x = x_coordinate A;
  y = y_coordinate A;
}

-- A.x, A.y, A.w are the variables 0, 1, 2, and so on
abbrev coordinates : Point → Point → Point → ℕ → ℤ
coordinates A B C = entry_at integers (A.x ∷ A.y ∷ pos A.w ∷ B.x ∷ B.y ∷ pos B.w ∷ C.x ∷ C.y ∷ pos C.w ∷ [])

abbrev ratios : ℕ → Quotient
ratios = quotient_at
    (record { top = variable 0; bottom = variable 2 } ∷ record { top = variable 1; bottom = variable 2 }
    ∷ record { top = variable 3; bottom = variable 5 } ∷ record { top = variable 4; bottom = variable 5 }
    ∷ record { top = variable 6; bottom = variable 8 } ∷ record { top = variable 7; bottom = variable 8 }
    ∷ record { top = numeral 1; bottom = numeral 2 } ∷ [])

pub signed_area-is : (A B C : Point) → Same (signed_area A B C) (times half (double_area fractions (spot_of A) (spot_of B) (spot_of C)))
unfolding whole plus negated times minus signed_area pythagoras_difference
signed_area-is A B C =
    let right : Quotient = as_quotient ratios (variable 6 ⊠ double_area_expression (spot 0 1) (spot 2 3) (spot 4 5)) in
    let ax = variable 0 in let ay = variable 1 in let aw = variable 2 in let bx = variable 3 in let by = variable 4 in
    let bw = variable 5 in let cx = variable 6 in let cy = variable 7 in let cw = variable 8 in
    record {
      crossed = agree integers (coordinates A B C)
          ((ax ⊠ (by ⊠ cw ⊟ cy ⊠ bw) ⊟ ay ⊠ (bx ⊠ cw ⊟ cx ⊠ bw) ⊞ aw ⊠ (bx ⊠ cy ⊟ cx ⊠ by)) ⊠ right.bottom)
          (right.top ⊠ (numeral 2 ⊠ aw ⊠ bw ⊠ cw)) tt;
    }

pub pythagoras_difference-is : (A B C : Point) → Same (pythagoras_difference A B C) (pythagoras_value fractions (spot_of A) (spot_of B) (spot_of C))
unfolding whole plus negated times minus signed_area pythagoras_difference
pythagoras_difference-is A B C =
    let right : Quotient = as_quotient ratios (pythagoras_expression (spot 0 1) (spot 2 3) (spot 4 5)) in
    let ax = variable 0 in let ay = variable 1 in let aw = variable 2 in let bx = variable 3 in let by = variable 4 in
    let bw = variable 5 in let cx = variable 6 in let cy = variable 7 in let cw = variable 8 in
    record {
      crossed = agree integers (coordinates A B C)
          (numeral 2 ⊠ ((ax ⊠ bw ⊟ bx ⊠ aw) ⊠ (cx ⊠ bw ⊟ bx ⊠ cw) ⊞ (ay ⊠ bw ⊟ by ⊠ aw) ⊠ (cy ⊠ bw ⊟ by ⊠ cw)) ⊠ right.bottom)
          (right.top ⊠ (aw ⊠ cw ⊠ bw ⊠ bw)) tt;
    }
