-- A whole number as a fraction.
use Rattle.std.proofs.Common.{ℕ, zero, suc, ℤ, pos, negsuc, ap, arith}
use Rattle.ring_laws.specs.Solver.{natural}
use Rattle.ring_laws.specs.Fraction.{Same, whole, plus, negated}
use Rattle.ring_laws.proofs.Fractions.{fractions, plus-same, negated-same, same_trans}
use Rattle.geo_poly.specs.Values.{integer}

next : (k : ℕ) → Same (whole (pos (suc k))) (plus (whole (pos k)) (whole (pos 1)))
unfolding whole plus
next k = record { crossed = ap pos (omega arith) }

natural-whole : (k : ℕ) → Same (whole (pos k)) (natural fractions k)
natural-whole zero = fractions.same_refl _
natural-whole (suc k) = same_trans _ _ _ (next k) (plus-same _ _ _ _ (natural-whole k) (fractions.same_refl (whole (pos 1))))

opposite : (k : ℕ) → Same (whole (negsuc k)) (negated (whole (pos (suc k))))
unfolding whole negated
opposite k = fractions.same_refl _

pub whole-integer : (z : ℤ) → Same (whole z) (integer fractions z)
whole-integer (pos n) = natural-whole n
whole-integer (negsuc n) = same_trans _ _ _ (opposite n) (negated-same _ _ (natural-whole (suc n)))
