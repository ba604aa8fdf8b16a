-- The rows of a line: those that its numbers are of, within the bounds of a polynomial, and multiplied out.
use Rattle.std.proofs.Common.{◌≡◌, ◌^◌, ◌<◌, ◌≤◌, Some, List, length, map, sym, ap, subst, ◌∙◌}
use Rattle.std.specs.Prelude.{All}
use Rattle.std.specs.List.{filter_map}
use Rattle.fraction_poly.specs.Measures.{capped_number}
use Rattle.fraction_poly.specs.TableRows.{HasPointsBelow}
use Rattle.geo_poly.specs.declared.rows.Row.{Row}
use Rattle.geo_poly.specs.Polynomials.{Summands, IsPolynomial}
use Rattle.geo_poly.specs.PolynomialVariables.{AllVariables, variables_of}
use Rattle.geo_poly.specs.Replace.{replaced_degree, replaced_weight}
use Rattle.geo_poly.proofs.EachVariable.{each-variables}
use Rattle.geo_terms.specs.Constructions.{Construction}
use Rattle.geo_logs.specs.declared.moves.Move.{Move}
use Rattle.geo_logs.specs.Moves.{replacement}
use Rattle.elim_apply.specs.declared.numbered.NumberedRow.{NumberedRow}
use Rattle.elim_apply.specs.Kept.{CanBeMade, IsRowOf}
use Rattle.elim_apply.specs.LemmaTable.{lemma_table}
use Rattle.elim_apply.specs.Inner.Sketches.{numbered_row}
use Rattle.elim_apply.proofs.FittingRows.{fitting}
use Rattle.elim_apply.proofs.NumberedRows.{HasDenominator, all_over_one, numbered_fit, rows_made, rows_own}

module _ (c : Construction) (move : Move) (q : Summands) (numbered : List NumberedRow) (are : numbered ≡ filter_map (numbered_row c move) (variables_of q)) where
  pub line_can_be_made : AllVariables (HasPointsBelow (length c.steps)) q → IsPolynomial q
      → replaced_weight (replacement lemma_table c move q).rows (replacement lemma_table c move q).den q < 2 ^ 127
      → replaced_degree (replacement lemma_table c move q).rows (replacement lemma_table c move q).den q ≤ 65535
      → All (λ (n : NumberedRow). CanBeMade c move n.var) numbered
  line_can_be_made points valid weight degree =
      subst (All (λ (n : NumberedRow). CanBeMade c move n.var)) (sym are)
      (numbered_fit c move (variables_of q) (fitting c move q valid weight degree) (each-variables (HasPointsBelow (length c.steps)) q points))

  pub line_made : (rows : List Row) → map Some rows ≡ map (λ (n : NumberedRow). lemma_table.row c move n.var) numbered → rows ≡ (replacement lemma_table c move q).rows
  line_made rows h = rows_made c move (variables_of q) rows (h ∙ ap (map (λ (n : NumberedRow). lemma_table.row c move n.var)) are)

  -- each is the row of its variable
  pub line_own : (rows : List Row) → rows ≡ (replacement lemma_table c move q).rows → All (IsRowOf c move) rows
  line_own rows h = subst (All (IsRowOf c move)) (sym h) (rows_own c move (variables_of q))

  -- all have the charge of the move
  pub line_charges : All (λ (n : NumberedRow). n.numbers.charge ≡ capped_number (replacement lemma_table c move q).charge) numbered
  line_charges =
      let all : All (HasDenominator c move) numbered = subst (All (HasDenominator c move)) (sym are) (all_over_one c move (variables_of q)) in
      λ i n at. (all i n at).charge
