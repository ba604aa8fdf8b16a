use Rattle.std.proofs.Common.{◌∷◌, [], ◌++◌, List, get_or, ap, sym, ◌∙◌}
use Rattle.geo_poly.specs.declared.variables.Var.{Var}
use Rattle.geo_poly.specs.declared.variables.Var.TheVariants.{R}
use Rattle.elim_apply.specs.declared.numbered.NumberedRow.{NumberedRow}
use Rattle.elim_apply.specs.Inner.Sketches.{numbered_row}
use Rattle.elim_apply.proofs.NumberedRows.{numbered_none, numbered_some, rows_none, rows_some}
use Rattle.elim_apply.proofs.numbered.numbered_rows.Goals as goal
use Rattle.elim_apply.proofs.numbered.numbered_rows.Goals.{in-Some+in_ok-push, in_default}

abbrev none : Var
none = R (record { 0 = 0 }) (record { 0 = 0 }) (record { 0 = 0 }) (record { 0 = 0 })

pub loop-v-preserved : goal.loop-v-preserved
loop-v-preserved c =
    let steps = c.args.steps.now in
    let mv = c.args.mv.now in
    let vs = c.args.variables.now in
    let i = c.loop-v.v-index in
    record {
      rows = elim c.match-branch-2.branch [
        | in-Some+in_ok-push w ↦
            let n : NumberedRow = record { var = get_or vs i none; numbers = w.in-Some.numbers } in
            ap (λ x. x.items) w.numbered-is ∙ w.in_ok-push.ensures.items ∙ ap (λ (ns : List NumberedRow). ns ++ n ∷ []) c.loop-v.invariant.rows
            ∙ sym (rows_some (numbered_row steps mv) vs i none c.loop-v-test.true n
            (numbered_some steps mv (get_or vs i none) w.in-Some.numbers _ c.in_ok-numbers.ensures.numbers w.in-Some.is))
        | in_default w ↦
            ap (λ x. x.items) w.numbered-is ∙ c.loop-v.invariant.rows
            ∙ sym (rows_none (numbered_row steps mv) vs i none c.loop-v-test.true
            (numbered_none steps mv (get_or vs i none) _ c.in_ok-numbers.ensures.numbers w.in_default.is))
      ];
      known = c.in_ok-numbers.ensures.known;
    }
