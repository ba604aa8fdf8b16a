use Rattle.std.proofs.Common.{sym, subst, ◌∙◌}
use Rattle.std.proofs.lemmas.Result.{IfOk-weaker}
use Rattle.fraction_poly.specs.Inner.Drafts.{IsBoundedNumber, number_tree}
use Rattle.fraction_poly.proofs.PieceBounds.{bounded_number, draft_fits, draft_made}
use Rattle.fraction_poly.proofs.table.piece.Goals as goal

pub piece-requires-clause-first : goal.piece-requires-clause-first
piece-requires-clause-first c =
    let nodes = c.args.terms.now in
    subst IsBoundedNumber (sym (c.number-first.ensures nodes c.in_ok-make-2.ensures.known)) (bounded_number (number_tree nodes c.args.numbers.first))

pub piece-requires-clause-second : goal.piece-requires-clause-second
piece-requires-clause-second c =
    let nodes = c.args.terms.now in
    subst IsBoundedNumber (sym (c.number-second.ensures nodes c.in_ok-make-2.ensures.known)) (bounded_number (number_tree nodes c.args.numbers.second))

pub piece-requires-clause-fits : goal.piece-requires-clause-fits
piece-requires-clause-fits c =
    let nodes = c.args.terms.now in
    draft_fits c.number-first.result.now c.number-second.result.now (number_tree nodes c.args.numbers.first) (number_tree nodes c.args.numbers.second)
    (c.number-first.ensures nodes c.in_ok-make-2.ensures.known) (c.number-second.ensures nodes c.in_ok-make-2.ensures.known) c.args.draft.now c.requires.fits

pub returns-clause-piece : goal.returns-clause-piece
returns-clause-piece c =
    let nodes = c.args.terms.now in
    let made = draft_made c.number-first.result.now c.number-second.result.now (number_tree nodes c.args.numbers.first) (number_tree nodes c.args.numbers.second)
    (c.number-first.ensures nodes c.in_ok-make-2.ensures.known) (c.number-second.ensures nodes c.in_ok-make-2.ensures.known) c.args.draft.now in
    IfOk-weaker c.piece.result _ _ (λ f is. is ∙ made) c.piece.ensures
