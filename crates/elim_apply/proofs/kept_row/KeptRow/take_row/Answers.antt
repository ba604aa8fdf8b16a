use Rattle.std.proofs.Common.{sym, ap, subst, ◌∙◌}
use Rattle.fraction_poly.specs.Inner.Drafts.{row_of_draft}
use Rattle.fraction_poly.specs.TableRows.{RowFits, made_row}
use Rattle.geo_terms.specs.Stores.{Store}
use Rattle.elim_apply.specs.LemmaTable.{lemma_table}
use Rattle.elim_apply.proofs.KeptLemmas.{made_is, row_fits, row_pushed}
use Rattle.elim_apply.proofs.kept_row.KeptRow.take_row.Goals as goal

pub row-requires-clause-fits : goal.row-requires-clause-fits
row-requires-clause-fits c =
    let steps = c.args.steps.now in
    let kept = c.args.self.now in
    subst (λ (nodes : Store). RowFits (row_of_draft nodes kept.draft)) (sym c.look.ensures)
    (row_fits steps kept.mv kept.var (row_of_draft steps.nodes kept.draft) c.requires.kept.row c.requires.fits)

pub returns-in_ok-push-in-None-clause-row : goal.returns-in_ok-push-in-None-clause-row
returns-in_ok-push-in-None-clause-row c =
    let steps = c.args.steps.now in
    let kept = c.args.self.now in
    let row = c.in_ok-row-in-None.field-0 in
    row_pushed c.args.rows.now.items c.push-in-None.new.self.items row (lemma_table.row steps kept.mv kept.var) c.in_ok-push-in-None.ensures.items
    (made_is steps kept.mv kept.var (row_of_draft steps.nodes kept.draft) c.requires.kept.row row
    (c.in_ok-row-in-None.ensures.row ∙ ap (λ (nodes : Store). (made_row kept.var (row_of_draft nodes kept.draft)).0) c.look.ensures))
