use Rattle.std.proofs.Common.{ap, subst, ◌∙◌}
use Rattle.fraction_poly.specs.Inner.Drafts.{row_of_draft}
use Rattle.fraction_poly.specs.Inner.Known.{IsKnownOf}
use Rattle.fraction_poly.specs.TableRows.{row_numbers}
use Rattle.geo_terms.specs.Stores.{Store}
use Rattle.elim_apply.proofs.KeptLemmas.{drafted_kept, drafted_numbers}
use Rattle.elim_apply.proofs.kept_rows.KnownRows.row_numbers.Goals as goal

pub returns-in_err-keep-clause-known : goal.returns-in_err-keep-clause-known
returns-in_err-keep-clause-known c =
    let steps = c.args.steps.now in
    let draft = c.in-Some-2.draft in
    c.keep.ensures steps
    (record { numbers = subst (λ (nodes : Store). IsKnownOf nodes c.numbers.new.known) c.look.ensures c.in_ok-numbers.ensures.known; rows = c.requires.known.rows })
    (drafted_kept steps c.args.mv.now c.args.var c.in_ok-draft.field-0 c.in_ok-draft.ensures.row draft c.in-Some-2.is
    (c.in_ok-draft.ensures.numbers draft c.in-Some-2.is) c.in_ok-numbers.numbers
    (c.in_ok-numbers.ensures.numbers ∙ ap (λ (nodes : Store). row_numbers (row_of_draft nodes draft)) c.look.ensures))

pub returns-clause-numbers : goal.returns-clause-numbers
returns-clause-numbers c =
    let draft = c.in-Some-2.draft in
    drafted_numbers c.args.steps.now c.args.mv.now c.args.var c.in_ok-draft.field-0 c.in_ok-draft.ensures.row draft c.in-Some-2.is c.in_ok-numbers.numbers
    (c.in_ok-numbers.ensures.numbers ∙ ap (λ (nodes : Store). row_numbers (row_of_draft nodes draft)) c.look.ensures)

pub returns-clause-known : goal.returns-clause-known
returns-clause-known c =
    let steps = c.args.steps.now in
    let draft = c.in-Some-2.draft in
    c.keep.ensures steps
    (record { numbers = subst (λ (nodes : Store). IsKnownOf nodes c.numbers.new.known) c.look.ensures c.in_ok-numbers.ensures.known; rows = c.requires.known.rows })
    (drafted_kept steps c.args.mv.now c.args.var c.in_ok-draft.field-0 c.in_ok-draft.ensures.row draft c.in-Some-2.is
    (c.in_ok-draft.ensures.numbers draft c.in-Some-2.is) c.in_ok-numbers.numbers
    (c.in_ok-numbers.ensures.numbers ∙ ap (λ (nodes : Store). row_numbers (row_of_draft nodes draft)) c.look.ensures))
