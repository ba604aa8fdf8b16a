-- The numbers 1/2 and 2/3, as they stand in steps.
use Rattle.std.proofs.Common.{◌≡◌, zero, suc, ℤ, pos, negsuc, refl, ap}
use Rattle.ring_laws.specs.Fraction.{Fraction, Same, whole, quotient, quotient_at, IsNonzero}
use Rattle.geo_points.specs.Points.{Point}
use Rattle.geo_points.specs.Steps.{IsAlong}
use Rattle.geo_points.proofs.Expressions.{half}
use Rattle.ring_laws.proofs.Fractions.{fractions}
use Rattle.geo_lowering.specs.Relations.{three, two_thirds}
use Rattle.geo_points.proofs.Same.{self_point, along-same}

pub half-is : Same half (quotient (whole (pos 1)) (whole (pos 2)))
unfolding quotient quotient_at whole
half-is = record { crossed = refl }

pub two_thirds-is : Same two_thirds (quotient (whole (pos 2)) (whole (pos 3)))
unfolding quotient quotient_at whole
two_thirds-is = record { crossed = refl }

along_number : (r s : Fraction) → Same r s → (W U V Y : Point) → IsAlong W U V r Y → IsAlong W U V s Y
along_number r s e W U V Y h = along-same _ _ _ _ _ _ _ _ _ _ (self_point W) (self_point U) (self_point V) e (self_point Y) h

pub from_half : (W U V Y : Point) → IsAlong W U V (quotient (whole (pos 1)) (whole (pos 2))) Y → IsAlong W U V half Y
from_half = along_number _ _ (fractions.same_sym _ _ half-is)

pub from_two_thirds : (W U V Y : Point) → IsAlong W U V (quotient (whole (pos 2)) (whole (pos 3))) Y → IsAlong W U V two_thirds Y
from_two_thirds = along_number _ _ (fractions.same_sym _ _ two_thirds-is)

pub three_nonzero : IsNonzero three
unfolding whole
three_nonzero e = let q : suc (suc (suc zero)) ≡ zero = ap (λ (t : ℤ). elim t [ pos n ↦ n | negsuc n ↦ n ]) e in cc
