use Rattle.std.proofs.Common.{◌≡◌, ◌≢◌, Err, [], ap, sym, ◌∙◌, arith, rules}
use Rattle.std.specs.List.{filter_map}
use Rattle.geo_poly.specs.PolynomialVariables.{variables_of}
use Rattle.geo_poly.specs.Replace.{replaced_degree, replaced_weight}
use Rattle.elim_apply.specs.declared.errors.ApplyError.TheVariants.{TooLarge}
use Rattle.elim_apply.specs.LemmaTable.{lemma_table}
use Rattle.geo_logs.specs.Moves.{IsMoved, move_charge, replacement}
use Rattle.elim_apply.specs.Inner.Sizes.{IsSizeOf}
use Rattle.elim_apply.specs.Inner.Sketches.{numbered_row}
use Rattle.elim_apply.proofs.AppliedMoves.{stopped_move}
use Rattle.elim_apply.proofs.HandedOn.{handed_on}
use Rattle.elim_apply.proofs.KeptValues.{value_kept}
use Rattle.elim_apply.proofs.NumberedRows.{none_made}
use Rattle.elim_apply.proofs.applying.apply_known.Goals as goal

pub returns-in_err-spend-clause-too_large : goal.returns-in_err-spend-clause-too_large
returns-in_err-spend-clause-too_large g c = λ which h.
    let q = c.args.p.now in
    let made = replacement lemma_table c.args.steps.now c.args.mv.now q in
    let some : made.rows ≢ [] = search rules in
    let size : IsSizeOf c.in-Some.size (move_charge made q) (replaced_weight made.rows made.den q) (replaced_degree made.rows made.den q) = search rules in
    let told = c.in_err-spend.ensures.too_large which (ap Err (handed_on c.from_residual-in_err-spend.result c.in_err-spend.field-0.0 (TooLarge which) c.from_residual-in_err-spend.ensures.1 h))
    (move_charge made q) (replaced_weight made.rows made.den q) (replaced_degree made.rows made.den q) size in
    (some, stopped_move made c.args.budget.now.left q which told.0, told.1)

pub moved-requires-clause-some : goal.moved-requires-clause-some
moved-requires-clause-some g c =
    let steps = c.args.steps.now in
    let mv = c.args.mv.now in
    let q = c.args.p.now in
    let some : (replacement lemma_table steps mv q).rows ≢ [] = search rules in
    let rows : c.deref.result.now ≡ filter_map (numbered_row steps mv) (variables_of q) = search rules in
    λ e. some (none_made steps mv (variables_of q) (sym rows ∙ e))

pub moved-requires-clause-weight : goal.moved-requires-clause-weight
moved-requires-clause-weight g c =
    let q = c.args.p.now in
    let made = replacement lemma_table c.args.steps.now c.args.mv.now q in
    let size : IsSizeOf c.in-Some.size (move_charge made q) (replaced_weight made.rows made.den q) (replaced_degree made.rows made.den q) = search rules in
    (c.in_ok-spend.ensures.ok (move_charge made q) (replaced_weight made.rows made.den q) (replaced_degree made.rows made.den q) size).0.weight_fits

pub moved-requires-clause-degree : goal.moved-requires-clause-degree
moved-requires-clause-degree g c =
    let q = c.args.p.now in
    let made = replacement lemma_table c.args.steps.now c.args.mv.now q in
    let size : IsSizeOf c.in-Some.size (move_charge made q) (replaced_weight made.rows made.den q) (replaced_degree made.rows made.den q) = search rules in
    (c.in_ok-spend.ensures.ok (move_charge made q) (replaced_weight made.rows made.den q) (replaced_degree made.rows made.den q) size).0.degree_fits

pub returns-clause-moved : goal.returns-clause-moved
returns-clause-moved g c =
    let q = c.args.p.now in
    let made = replacement lemma_table c.args.steps.now c.args.mv.now q in
    let some : made.rows ≢ [] = search rules in
    let size : IsSizeOf c.in-Some.size (move_charge made q) (replaced_weight made.rows made.den q) (replaced_degree made.rows made.den q) = search rules in
    let within = (c.in_ok-spend.ensures.ok (move_charge made q) (replaced_weight made.rows made.den q) (replaced_degree made.rows made.den q) size).0 in
    record { replaces = some; paid = within.paid; weight_fits = within.weight_fits; degree_fits = within.degree_fits; result = c.in_ok-moved.ensures.moved }

pub returns-clause-value : goal.returns-clause-value
returns-clause-value g c =
    let q = c.args.p.now in
    let made = replacement lemma_table c.args.steps.now c.args.mv.now q in
    let some : made.rows ≢ [] = search rules in
    let size : IsSizeOf c.in-Some.size (move_charge made q) (replaced_weight made.rows made.den q) (replaced_degree made.rows made.den q) = search rules in
    let within = (c.in_ok-spend.ensures.ok (move_charge made q) (replaced_weight made.rows made.den q) (replaced_degree made.rows made.den q) size).0 in
    let moved : IsMoved made c.args.budget.now.left q c.in_ok-moved.field-0 =
    record { replaces = some; paid = within.paid; weight_fits = within.weight_fits; degree_fits = within.degree_fits; result = c.in_ok-moved.ensures.moved } in
    value_kept c.args.steps.now c.count.ensures.valid c.args.mv.now c.args.budget.now.left q c.in_ok-moved.field-0 moved

pub returns-in_err-moved-clause-ticks : goal.returns-in_err-moved-clause-ticks
returns-in_err-moved-clause-ticks g c = c.in_err-moved.ensures.ticks

pub returns-clause-counted : goal.returns-clause-counted
returns-clause-counted g c =
    let q = c.args.p.now in
    let made = replacement lemma_table c.args.steps.now c.args.mv.now q in
    let size : IsSizeOf c.in-Some.size (move_charge made q) (replaced_weight made.rows made.den q) (replaced_degree made.rows made.den q) = search rules in
    let spent = c.in_ok-spend.ensures.ok (move_charge made q) (replaced_weight made.rows made.den q) (replaced_degree made.rows made.den q) size in
    omega (arith, spent.0.paid, spent.1, c.in_ok-moved.ensures.ticks)
