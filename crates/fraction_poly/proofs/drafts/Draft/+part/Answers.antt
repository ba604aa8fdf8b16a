use Rattle.std.proofs.Common.{ap, ap₂, subst, ◌∙◌}
use Rattle.std.proofs.lemmas.Result.{IfOk-weaker}
use Rattle.fraction_poly.specs.declared.drafts.Combination.{Combination}
use Rattle.fraction_poly.specs.Inner.Drafts.{IsPartFor, by_number, combined_piece, drafted_piece}
use Rattle.fraction_poly.proofs.PieceBounds.{both_bounded}
use Rattle.fraction_poly.proofs.RingParts.{bounded_part, part_kept}
use Rattle.geo_poly.specs.declared.rows.Piece.{Piece}
use Rattle.fraction_poly.proofs.drafts.Draft.+part.Goals as goal

pub combined-requires-clause-left_element : goal.combined-requires-clause-left_element
combined-requires-clause-left_element t c =
    (part_kept c.part.new.ring c.part-in-Combined.new.ring
    (drafted_piece (by_number c.args.first.now c.args.second.now) c.deref.result.now.left) c.in_ok-left-in-Combined.left
    c.in_ok-right-in-Combined.ensures.grows c.in_ok-left-in-Combined.ensures.part).element_of

pub combined-requires-clause-left : goal.combined-requires-clause-left
combined-requires-clause-left t c =
    bounded_part (by_number c.args.first.now c.args.second.now)
    (both_bounded c.args.first.now c.args.second.now c.requires.first c.requires.second) c.deref.result.now.left
    c.part-in-Combined.new.ring c.in_ok-left-in-Combined.left
    (part_kept c.part.new.ring c.part-in-Combined.new.ring
    (drafted_piece (by_number c.args.first.now c.args.second.now) c.deref.result.now.left) c.in_ok-left-in-Combined.left
    c.in_ok-right-in-Combined.ensures.grows c.in_ok-left-in-Combined.ensures.part)

pub combined-requires-clause-right : goal.combined-requires-clause-right
combined-requires-clause-right t c =
    bounded_part (by_number c.args.first.now c.args.second.now)
    (both_bounded c.args.first.now c.args.second.now c.requires.first c.requires.second) c.deref-in-Combined.result.now.right
    c.part-in-Combined.new.ring c.in_ok-right-in-Combined.right c.in_ok-right-in-Combined.ensures.part

pub returns-in_ok-right-in-Combined-clause-part : goal.returns-in_ok-right-in-Combined-clause-part
returns-in_ok-right-in-Combined-clause-part t c =
    let n = (by_number c.args.first.now c.args.second.now) in
    let both = c.in-Combined.both.value in
    let left = part_kept c.part.new.ring c.part-in-Combined.new.ring
    (drafted_piece n c.deref.result.now.left) c.in_ok-left-in-Combined.left c.in_ok-right-in-Combined.ensures.grows
    c.in_ok-left-in-Combined.ensures.part in
    let right = c.in_ok-right-in-Combined.ensures.part in
    let first = left.piece_is ∙ ap (λ (d : Combination). drafted_piece n d.left) c.deref.ensures in
    let second = right.piece_is ∙ ap (λ (d : Combination). drafted_piece n d.right) c.deref-in-Combined.ensures in
    let whole = ap₂ (combined_piece c.deref-in-Combined-2.result.now.operation) first second
    ∙ ap (λ (d : Combination). combined_piece d.operation (drafted_piece n both.left) (drafted_piece n both.right)) c.deref-in-Combined-2.ensures in
    rw c.in-Combined.is (IfOk-weaker c.combined.result _ _ (λ part h. subst (λ (f : Piece). IsPartFor c.combined.new.ring f part) whole h) c.combined.ensures.part)
