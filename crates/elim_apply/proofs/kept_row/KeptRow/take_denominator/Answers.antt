use Rattle.std.proofs.Common.{sym, ap, subst, ◌∙◌}
use Rattle.std.proofs.lemmas.Result.{IfOk-weaker}
use Rattle.fraction_poly.specs.Forms.{piece_of}
use Rattle.fraction_poly.specs.Inner.Drafts.{row_of_draft}
use Rattle.fraction_poly.specs.TableRows.{RowFits}
use Rattle.geo_terms.specs.Stores.{Store}
use Rattle.elim_apply.proofs.KeptLemmas.{den_is, row_fits}
use Rattle.elim_apply.proofs.kept_row.KeptRow.take_denominator.Goals as goal

pub denominator-requires-clause-fits : goal.denominator-requires-clause-fits
denominator-requires-clause-fits c =
    let steps = c.args.steps.now in
    let kept = c.args.self.now in
    subst (λ (nodes : Store). RowFits (row_of_draft nodes kept.draft)) (sym c.look.ensures)
    (row_fits steps kept.mv kept.var (row_of_draft steps.nodes kept.draft) c.requires.kept.row c.requires.fits)

pub returns-in-None-clause-den : goal.returns-in-None-clause-den
returns-in-None-clause-den c =
    let steps = c.args.steps.now in
    let kept = c.args.self.now in
    IfOk-weaker c.denominator.result _ _
    (λ f e. den_is steps kept.mv kept.var (row_of_draft steps.nodes kept.draft) c.requires.kept.row f
    (e ∙ ap (λ (nodes : Store). piece_of (row_of_draft nodes kept.draft).den) c.look.ensures))
    c.denominator.ensures.den
