use Rattle.std.proofs.Common.{sym, ap, subst, ◌∙◌}
use Rattle.std.proofs.lemmas.List.Elements.{All-set}
use Rattle.std.proofs.lemmas.Result.{IfOk-weaker}
use Rattle.fraction_poly.specs.Forms.{piece_of}
use Rattle.fraction_poly.specs.Inner.Drafts.{row_of_draft}
use Rattle.fraction_poly.specs.TableRows.{RowFits}
use Rattle.geo_terms.specs.Stores.{Store}
use Rattle.elim_apply.specs.Kept.{IsKept}
use Rattle.elim_apply.proofs.KeptLemmas.{den_is, drafted, row_fits}
use Rattle.elim_apply.proofs.kept_rows.KnownRows.take_denominator.Goals as goal

pub returns-in-Some-clause-known : goal.returns-in-Some-clause-known
returns-in-Some-clause-known c = record {
  numbers = c.take_denominator.ensures.known;
  rows = All-set (IsKept c.args.steps.now) c.args.self.now.rows.items c.in-Some.i c.take_denominator.new.self c.take_denominator.ensures.kept c.requires.known.rows;
}

pub denominator-requires-clause-fits : goal.denominator-requires-clause-fits
denominator-requires-clause-fits c =
    let steps = c.args.steps.now in
    let draft = c.in-Some-2.draft in
    subst (λ (nodes : Store). RowFits (row_of_draft nodes draft)) (sym c.look.ensures)
    (row_fits steps c.args.mv.now c.args.var (row_of_draft steps.nodes draft)
    (drafted steps c.args.mv.now c.args.var c.in_ok-draft.field-0 c.in_ok-draft.ensures.row draft c.in-Some-2.is) c.requires.row.1)

pub returns-clause-den : goal.returns-clause-den
returns-clause-den c =
    let steps = c.args.steps.now in
    let draft = c.in-Some-2.draft in
    IfOk-weaker c.denominator.result _ _
    (λ f e. den_is steps c.args.mv.now c.args.var (row_of_draft steps.nodes draft)
    (drafted steps c.args.mv.now c.args.var c.in_ok-draft.field-0 c.in_ok-draft.ensures.row draft c.in-Some-2.is) f
    (e ∙ ap (λ (nodes : Store). piece_of (row_of_draft nodes draft).den) c.look.ensures))
    c.denominator.ensures.den
