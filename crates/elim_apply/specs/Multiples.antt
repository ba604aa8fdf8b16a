-- What a move does to the value of a polynomial.
use Rattle.std.specs.Prelude.{◌≡◌, ℕ, Some}
use Rattle.ring_laws.specs.Powers.{power}
use Rattle.fraction_poly.specs.Laws.{polynomial_value}
use Rattle.fraction_poly.specs.TableRows.{HasVariable, TableRow}
use Rattle.ring_laws.proofs.Fractions.{fractions}
use Rattle.ring_laws.specs.Fraction.{Fraction, IsNonzero, Same, times}
use Rattle.geo_points.specs.Placements.{Placement}
use Rattle.geo_poly.specs.declared.variables.Var.{Var}
use Rattle.geo_poly.specs.Polynomials.{Summands}
use Rattle.geo_poly.specs.PolynomialVariables.{AllVariables}
use Rattle.geo_terms.specs.Constructions.{Construction, IsConstruction}
use Rattle.geo_logs.specs.declared.moves.Move.{Move}
use Rattle.elim_apply.specs.LemmaTable.{lemma_table, move_denominator, number_charge, row_of_move}
use Rattle.geo_logs.specs.Moves.{IsMoved, place_of, replacement}
use Rattle.geo_logs.specs.Naming.{IsPlaceMet}

-- the value of q is that of p times a power of a number that is not 0, and each ratio in q is defined
pub record IsMultiple (placed : Placement) (q p : Summands) : Type 0 where
  pub factor : Fraction
  pub exponent : ℕ
  pub nonzero : IsNonzero factor
  pub value : Same (polynomial_value placed q) (times (polynomial_value placed p) (power fractions factor exponent))
  pub defined : AllVariables (HasVariable placed) q

-- LAWS
-- wherever the step is met that a move looks at, and each ratio of the polynomial is defined, its result is such a multiple
abbrev pub MoveKeepsValue : Type 0
MoveKeepsValue =
    (c : Construction) → IsConstruction c → (move : Move) (left : ℕ) (p q : Summands) → IsMoved (replacement lemma_table c move p) left p q
    → (placed : Placement) → IsPlaceMet placed c (place_of move) → AllVariables (HasVariable placed) p → IsMultiple placed q p

-- all rows of a move have its denominator and its charge
abbrev pub TableDenominatorsAgree : Type 0
TableDenominatorsAgree =
    (c : Construction) (move : Move) (v : Var) (row : TableRow) → row_of_move c move v ≡ Some row
    → (row.den ≡ move_denominator c move) × (row.charge ≡ number_charge c move)
