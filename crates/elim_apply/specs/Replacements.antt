-- Which moves have rows that can be made.
use Rattle.std.specs.Prelude.{◌≢◌, ◌^◌, ◌<◌, ◌≤◌, [], length}
use Rattle.fraction_poly.specs.TableRows.{HasPointsBelow}
use Rattle.geo_poly.specs.Polynomials.{Summands}
use Rattle.geo_poly.specs.PolynomialVariables.{AllVariables}
use Rattle.geo_poly.specs.Replace.{replaced_degree, replaced_weight}
use Rattle.geo_terms.specs.Constructions.{Construction}
use Rattle.geo_logs.specs.declared.moves.Move.{Move}
use Rattle.geo_logs.specs.declared.moves.Replacement.{Replacement}
use Rattle.geo_logs.specs.Moves.{place_of, replacement}
use Rattle.geo_logs.specs.Naming.{IsPlaceBelow}
use Rattle.elim_apply.specs.LemmaTable.{lemma_table}

-- the replacement in a polynomial is within its limits
pub record IsWithin (made : Replacement) (before : Summands) : Type 0 where
  pub some : made.rows ≢ []
  pub charge : made.charge < 2 ^ 128
  pub weight : replaced_weight made.rows made.den before < 2 ^ 127
  pub degree : replaced_degree made.rows made.den before ≤ 65535

-- the rows of the move can be made
pub record CanMove (c : Construction) (before : Summands) (mv : Move) : Type 0 where
  pub points : AllVariables (HasPointsBelow (length c.steps)) before
  pub place : IsPlaceBelow (length c.steps) (place_of mv)
  pub within : IsWithin (replacement lemma_table c mv before) before
