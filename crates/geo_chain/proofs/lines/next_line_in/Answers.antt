use Rattle.std.proofs.Common.{◌≡◌, Err, ap, length, subst, rules}
use Rattle.elim_apply.specs.declared.errors.ApplyError.TheVariants.{NoRow, TooLarge}
use Rattle.elim_apply.proofs.HandedOn.{handed_on}
use Rattle.geo_chain.specs.NextLines.{IsCutLine, IsMoveDue}
use Rattle.geo_chain.proofs.Replacing.{place_below, replaces}
use Rattle.geo_chain.proofs.Steps.{cut_next, cut_points, move_next, move_points}
use Rattle.geo_chain.proofs.lines.next_line_in.Goals as goal

pub returns-in-Some-clause-line : goal.returns-in-Some-clause-line
returns-in-Some-clause-line g c =
    let same : c.deref.result.now ≡ c.args.known.now = search rules in
    let cut = rw c.in-Some.is at c.in_ok-line.ensures.some in
    cut_next c.args.steps.now c.args.known.now c.args.budget.now.left c.args.p.now c.in-Some.line
    (subst (λ ks. IsCutLine ks c.args.p.now c.in-Some.line) same cut)

pub returns-in-Some-clause-points : goal.returns-in-Some-clause-points
returns-in-Some-clause-points g c =
    let cut = rw c.in-Some.is at c.in_ok-line.ensures.some in
    cut_points (length c.args.steps.now.steps) c.deref.result.now c.args.p.now c.in-Some.line c.requires.points cut

pub apply_known-requires-clause-place : goal.apply_known-requires-clause-place
apply_known-requires-clause-place g c =
    let next = c.in-Some-next_move.ensures.some in
    place_below c.args.steps.now c.args.p.now c.in-Some-next_move.mv next

pub returns-in_err-poly-clause-row : goal.returns-in_err-poly-clause-row
returns-in_err-poly-clause-row g c = λ h.
    let told = c.in_err-poly.ensures.no_row (ap Err (handed_on c.from_residual-in_err-poly.result c.in_err-poly.field-0.0 NoRow c.from_residual-in_err-poly.ensures.1 h)) in
    let next = c.in-Some-next_move.ensures.some in
    replaces c.args.steps.now c.args.p.now c.in-Some-next_move.mv c.requires.points next told.0

pub returns-in_err-poly-clause-too_large : goal.returns-in_err-poly-clause-too_large
returns-in_err-poly-clause-too_large g c = λ which h.
    let next = c.in-Some-next_move.ensures.some in
    let due : IsMoveDue c.args.steps.now c.args.known.now c.args.p.now c.in-Some-next_move.mv = search rules in
    let told = c.in_err-poly.ensures.too_large which (ap Err (handed_on c.from_residual-in_err-poly.result c.in_err-poly.field-0.0 (TooLarge which) c.from_residual-in_err-poly.ensures.1 h)) in
    (c.in-Some-next_move.mv, due, told.1, told.2)

pub returns-clause-line : goal.returns-clause-line
returns-clause-line g c =
    let next = c.in-Some-next_move.ensures.some in
    let due : IsMoveDue c.args.steps.now c.args.known.now c.args.p.now c.in-Some-next_move.mv = search rules in
    move_next c.args.steps.now c.args.known.now c.args.budget.now.left c.apply_known.new.budget.left c.args.p.now c.in_ok-poly.poly c.in-Some-next_move.mv c.move_line.result
    due c.in_ok-poly.ensures.moved c.in_ok-poly.ensures.paid c.move_line.ensures

pub returns-clause-points : goal.returns-clause-points
returns-clause-points g c =
    move_points c.args.steps.now c.count.ensures.valid (length c.args.steps.now.steps) c.args.budget.now.left c.args.p.now c.in_ok-poly.poly c.in-Some-next_move.mv c.move_line.result
    c.requires.points c.in_ok-poly.ensures.moved c.move_line.ensures
