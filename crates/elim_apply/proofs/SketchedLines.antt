-- The size of a line, told by the numbers of its rows, is that of the line.
use Rattle.std.proofs.Common.{◌≡◌, List, ap, ap₂, ◌∙◌}
use Rattle.std.specs.List.{filter_map}
use Rattle.fraction_poly.specs.Measures.{capped_number}
use Rattle.geo_poly.specs.declared.rows.Piece.{Piece}
use Rattle.geo_poly.specs.declared.rows.Row.{Row}
use Rattle.geo_poly.specs.Polynomials.{Summands}
use Rattle.geo_poly.specs.PolynomialVariables.{variables_of}
use Rattle.geo_poly.specs.Replace.{most_denominators, replaced_degree, replaced_weight}
use Rattle.geo_terms.specs.Constructions.{Construction}
use Rattle.elim_apply.specs.declared.limits.LineSize.{LineSize}
use Rattle.geo_logs.specs.declared.moves.Move.{Move}
use Rattle.geo_logs.specs.declared.moves.Replacement.{Replacement}
use Rattle.elim_apply.specs.declared.numbered.NumberedRow.{NumberedRow}
use Rattle.elim_apply.specs.LemmaTable.{lemma_table}
use Rattle.geo_logs.specs.Moves.{move_charge, replacement}
use Rattle.elim_apply.specs.Inner.Sizes.{IsSizeOf}
use Rattle.elim_apply.specs.Inner.Sketches.{numbered_row, sketch, sketched_denominator, sketches}
use Rattle.elim_apply.proofs.CappedRows.{capped_move, capped_piece, capped_rows, most-capped, move_charge-capped, replaced_degree-capped, replaced_weight-capped}
use Rattle.elim_apply.proofs.NumberedRows.{HasDenominator, sketches_are}

pub sketched_line : (c : Construction) (move : Move) (q : Summands) (rows : List NumberedRow) (first : NumberedRow) (size : LineSize)
    → rows ≡ filter_map (numbered_row c move) (variables_of q) → HasDenominator c move first
    → IsSizeOf size (move_charge (sketch rows first.numbers) q) (replaced_weight (sketches rows) (sketched_denominator first.numbers) q)
    (replaced_degree (sketches rows) (sketched_denominator first.numbers) q)
    → IsSizeOf size (move_charge (replacement lemma_table c move q) q) (replaced_weight (replacement lemma_table c move q).rows (replacement lemma_table c move q).den q)
    (replaced_degree (replacement lemma_table c move q).rows (replacement lemma_table c move q).den q)
sketched_line c move q rows first size are one h =
    let made = replacement lemma_table c move q in
    let same : sketches rows ≡ capped_rows made.rows = ap sketches are ∙ sketches_are c move (variables_of q) in
    let den : sketched_denominator first.numbers ≡ capped_piece made.den = one.den in
    let charge : first.numbers.charge ≡ capped_number made.charge = one.charge in
    let whole : sketch rows first.numbers ≡ capped_move made.rows made.den made.charge = λ i. record { rows = same i; den = den i; charge = charge i } in
    record {
      charge-is = h.charge-is ∙ ap (λ (m : Replacement). capped_number (move_charge m q)) whole ∙ move_charge-capped made.rows made.den made.charge q;
      weight-is = h.weight-is ∙ ap₂ (λ (rs : List Row) (d : Piece). capped_number (replaced_weight rs d q)) same den ∙ replaced_weight-capped made.rows made.den q;
      degree-is = h.degree-is ∙ ap₂ (λ (rs : List Row) (d : Piece). capped_number (replaced_degree rs d q)) same den ∙ replaced_degree-capped made.rows made.den q;
    }

-- and so is the number of denominators
pub sketched_top : (c : Construction) (move : Move) (q : Summands) (rows : List NumberedRow) → rows ≡ filter_map (numbered_row c move) (variables_of q)
    → most_denominators (sketches rows) q ≡ most_denominators (replacement lemma_table c move q).rows q
sketched_top c move q rows are =
    ap (λ (rs : List Row). most_denominators rs q) (ap sketches are ∙ sketches_are c move (variables_of q))
    ∙ most-capped (replacement lemma_table c move q).rows q
