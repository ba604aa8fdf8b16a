-- What is told of a move, from what is told of its line and of its replacement.
use Rattle.std.proofs.Common.{◌≡◌, ℕ, List, [], ◌∷◌, length, refl, arith}
use Rattle.geo_poly.specs.declared.limits.Which.{Which}
use Rattle.geo_poly.specs.declared.limits.Which.TheVariants.{Norm, Degree}
use Rattle.geo_poly.specs.Polynomials.{Summands}
use Rattle.geo_poly.specs.Replace.{replaced_degree, replaced_weight}
use Rattle.geo_logs.specs.declared.moves.Replacement.{Replacement}
use Rattle.geo_logs.specs.Moves.{IsLineStopped, IsMoveStopped, move_charge, too_large}

-- a line that is stopped is that of a move that is stopped
pub stopped_move : (made : Replacement) (left : ℕ) (q : Summands) (which : Which)
    → IsLineStopped left (move_charge made q) (replaced_weight made.rows made.den q) (replaced_degree made.rows made.den q) (too_large which) → IsMoveStopped made left q (too_large which)
stopped_move made left q Norm h = h
stopped_move made left q Degree h = h

-- a list without elements
pub no_length : {A : Type 0} (xs : List A) → length xs ≡ 0 → xs ≡ []
no_length [] e = refl
no_length (x ∷ xs) e = absurd (omega (arith, e))
