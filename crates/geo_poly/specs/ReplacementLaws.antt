-- What a replacement is worth.
use Rattle.std.specs.Prelude.{List, [], ◌∷◌}
use Rattle.ring_laws.specs.Powers.{power}
use Rattle.ring_laws.proofs.Fractions.{fractions}
use Rattle.ring_laws.specs.Fraction.{Fraction, Same, times}
use Rattle.geo_poly.specs.declared.rows.Row.{Row}
use Rattle.geo_poly.specs.declared.variables.Var.{Var}
use Rattle.geo_poly.specs.Polynomials.{Summands}
use Rattle.geo_poly.specs.Replace.{most_denominators, replaced_by}
use Rattle.geo_poly.specs.Values.{value}

-- in the assignment x each row tells its variable over d: the variable times d to the row's power is the numerator
abbrev pub RowsTell : (Var → Fraction) → Fraction → List Row → Type 0
RowsTell x d [] = Unit {0}
RowsTell x d (r ∷ rs) = Same (times (x r.var) (power fractions d r.power)) (value fractions x r.num.poly) × RowsTell x d rs

-- LAW
-- wherever each row tells its variable over the denominator, the value becomes that times the denominator to the power D
abbrev pub ReplacementHasTheValue : Type 0
ReplacementHasTheValue =
    (x : Var → Fraction) (rows : List Row) (den p : Summands) → RowsTell x (value fractions x den) rows
    → Same (value fractions x (replaced_by rows den p))
    (times (value fractions x p) (power fractions (value fractions x den) (most_denominators rows p)))
