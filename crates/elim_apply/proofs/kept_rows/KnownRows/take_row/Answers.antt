use Rattle.std.proofs.Common.{sym, ap, subst, ◌∙◌}
use Rattle.std.proofs.lemmas.List.Elements.{All-set}
use Rattle.fraction_poly.specs.Inner.Drafts.{row_of_draft}
use Rattle.fraction_poly.specs.TableRows.{RowFits, made_row}
use Rattle.geo_terms.specs.Stores.{Store}
use Rattle.elim_apply.specs.Kept.{IsKept}
use Rattle.elim_apply.specs.LemmaTable.{lemma_table}
use Rattle.elim_apply.proofs.KeptLemmas.{drafted, made_is, row_fits, row_pushed}
use Rattle.elim_apply.proofs.kept_rows.KnownRows.take_row.Goals as goal

pub returns-in-Some-clause-known : goal.returns-in-Some-clause-known
returns-in-Some-clause-known c = record {
  numbers = c.take_row.ensures.known;
  rows = All-set (IsKept c.args.steps.now) c.args.self.now.rows.items c.in-Some.i c.take_row.new.self c.take_row.ensures.kept c.requires.known.rows;
}

pub row-requires-clause-fits : goal.row-requires-clause-fits
row-requires-clause-fits c =
    let steps = c.args.steps.now in
    let draft = c.in-Some-2.draft in
    subst (λ (nodes : Store). RowFits (row_of_draft nodes draft)) (sym c.look.ensures)
    (row_fits steps c.args.mv.now c.args.var (row_of_draft steps.nodes draft)
    (drafted steps c.args.mv.now c.args.var c.in_ok-draft.field-0 c.in_ok-draft.ensures.row draft c.in-Some-2.is) c.requires.row.1)

pub returns-clause-row : goal.returns-clause-row
returns-clause-row c =
    let steps = c.args.steps.now in
    let draft = c.in-Some-2.draft in
    let row = c.in_ok-row-in-Some-2.field-0 in
    row_pushed c.args.rows.now.items c.push.new.self.items row (lemma_table.row steps c.args.mv.now c.args.var) c.in_ok-push-in-Some-2.ensures.items
    (made_is steps c.args.mv.now c.args.var (row_of_draft steps.nodes draft)
    (drafted steps c.args.mv.now c.args.var c.in_ok-draft.field-0 c.in_ok-draft.ensures.row draft c.in-Some-2.is) row
    (c.in_ok-row-in-Some-2.ensures.row ∙ ap (λ (nodes : Store). (made_row c.args.var (row_of_draft nodes draft)).0) c.look.ensures))
