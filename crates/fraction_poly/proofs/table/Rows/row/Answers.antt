use Rattle.std.proofs.Common.{Option, IfSome, IsSomeAnd, option_map, sym, subst}
use Rattle.std.proofs.lemmas.Result.{IfOk-weaker}
use Rattle.fraction_poly.specs.Inner.Drafts.{row_of_draft}
use Rattle.fraction_poly.specs.TableRows.{AreLight, RowFits, RowHolds, TableRow, made_row, row_numbers}
use Rattle.fraction_poly.proofs.TableLemmas.{bounded_row, of_made}
use Rattle.geo_poly.specs.declared.rows.Piece.{Piece}
use Rattle.geo_poly.specs.declared.rows.Row.{Row}
use Rattle.fraction_poly.proofs.table.Rows.row.Goals as goal

pub returns-clause-bounded : goal.returns-clause-bounded
returns-clause-bounded g c =
    let row = option_map (row_of_draft c.args.steps.now.nodes) c.in_ok-row.row in
    let same = sym c.in_ok-row.ensures.row in
    let light = subst (λ (o : Option TableRow). IfSome o (λ t. AreLight (row_numbers t))) same c.in_ok-row.ensures.light in
    let fits = subst (λ (o : Option TableRow). IsSomeAnd o RowFits) same c.requires.fits in
    IfOk-weaker c.draft_row.result _ _ (λ r is. bounded_row c.args.var row light r fits is) c.draft_row.ensures

pub returns-clause-sound : goal.returns-clause-sound
returns-clause-sound g c =
    let v = c.args.var in
    let row = option_map (row_of_draft c.args.steps.now.nodes) c.in_ok-row.row in
    let same = sym c.in_ok-row.ensures.row in
    let fits = subst (λ (o : Option TableRow). IsSomeAnd o RowFits) same c.requires.fits in
    IfOk-weaker c.draft_row.result _ _
    (λ r is placed met has.
    of_made v (λ (r : Row × Piece). RowHolds placed r.0 r.1) row
    (subst (λ (o : Option TableRow). IfSome o (λ t. RowHolds placed (made_row v t).0 (made_row v t).1)) same (c.in_ok-row.ensures.sound placed met has))
    r fits is)
    c.draft_row.ensures
