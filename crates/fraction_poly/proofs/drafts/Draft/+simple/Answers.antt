use Rattle.std.proofs.Common.{sym, subst}
use Rattle.fraction_poly.specs.Inner.Drafts.{by_number}
use Rattle.fraction_poly.proofs.PieceBounds.{both_bounded, bounded_draft}
use Rattle.geo_poly.specs.Replace.{IsBounded}
use Rattle.fraction_poly.proofs.drafts.Draft.+simple.Goals as goal

pub combined-requires-clause-left : goal.combined-requires-clause-left
combined-requires-clause-left t c =
    subst IsBounded (sym c.in_ok-left-in-Combined.ensures.piece_is)
    (bounded_draft (by_number c.args.first.now c.args.second.now)
    (both_bounded c.args.first.now c.args.second.now c.requires.first c.requires.second) c.deref.result.now.left)

pub combined-requires-clause-right : goal.combined-requires-clause-right
combined-requires-clause-right t c =
    subst IsBounded (sym c.in_ok-right-in-Combined.ensures.piece_is)
    (bounded_draft (by_number c.args.first.now c.args.second.now)
    (both_bounded c.args.first.now c.args.second.now c.requires.first c.requires.second) c.deref-in-Combined.result.now.right)
