use Rattle.std.proofs.Common.{Option, IsSomeAnd, option_map, ap, sym, subst, ◌∙◌}
use Rattle.std.proofs.lemmas.Result.{IfOk-weaker}
use Rattle.fraction_poly.specs.declared.drafts.RowDraft.{RowDraft}
use Rattle.fraction_poly.specs.Inner.Drafts.{row_of_draft}
use Rattle.fraction_poly.specs.TableRows.{RowFits, made_row}
use Rattle.geo_terms.specs.Stores.{Store}
use Rattle.fraction_poly.proofs.table.draft_row.Goals as goal

pub made_row-requires-clause-fits : goal.made_row-requires-clause-fits
made_row-requires-clause-fits c =
    let nodes = c.args.steps.now.nodes in
    let row = c.in-Some.row in
    subst (λ (nodes : Store). RowFits (row_of_draft nodes row)) (sym c.look.ensures)
    (subst (λ (o : Option RowDraft). IsSomeAnd (option_map (row_of_draft nodes) o) RowFits) c.in-Some.is c.requires.fits)

pub returns : goal.returns
returns c =
    let row = c.in-Some.row in
    rw c.in-Some.is
    (IfOk-weaker c.made_row.result _ _ (λ r is. is ∙ ap (λ (nodes : Store). made_row c.args.var (row_of_draft nodes row)) c.look.ensures) c.made_row.ensures)
