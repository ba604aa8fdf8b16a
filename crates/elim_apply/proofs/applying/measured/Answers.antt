use Rattle.std.proofs.Common.{◌≡◌, ◌≢◌, List, [], length, get_or, sym, ap, subst, ◌∙◌, rules}
use Rattle.std.specs.Prelude.{All}
use Rattle.std.specs.List.{filter_map}
use Rattle.fraction_poly.specs.TableRows.{HasPointsBelow}
use Rattle.geo_poly.specs.declared.variables.Var.{Var}
use Rattle.geo_poly.specs.PolynomialVariables.{variables_of}
use Rattle.geo_poly.specs.Replace.{AllPowersSmall}
use Rattle.geo_poly.proofs.EachVariable.{each-variables}
use Rattle.elim_apply.specs.declared.numbered.NumberedRow.{NumberedRow}
use Rattle.elim_apply.specs.Inner.Sketches.{AreRising, numbered_row, sketches}
use Rattle.elim_apply.proofs.AppliedMoves.{no_length}
use Rattle.elim_apply.proofs.NumberedRows.{HasDenominator, all_each, all_over_one, none_made, sketches_small, some_length, some_numbered}
use Rattle.elim_apply.proofs.RisingRows.{rows_rise}
use Rattle.elim_apply.proofs.SketchedLines.{sketched_line, sketched_top}
use Rattle.elim_apply.proofs.applying.measured.Goals as goal

pub numbered_rows-requires-clause-variables : goal.numbered_rows-requires-clause-variables
numbered_rows-requires-clause-variables c =
    let n = length c.args.steps.now.steps in
    let vs : c.deref.result.now ≡ variables_of c.args.p.now = c.deref.ensures.value ∙ c.in_ok-variables.ensures in
    subst (λ (vs : List Var). All (HasPointsBelow n) vs) (sym vs) (all_each (HasPointsBelow n) (variables_of c.args.p.now) (each-variables (HasPointsBelow n) c.args.p.now c.requires.points))

pub returns-then-is_empty-clause-none : goal.returns-then-is_empty-clause-none
returns-then-is_empty-clause-none c =
    let steps = c.args.steps.now in
    let mv = c.args.mv.now in
    let q = c.args.p.now in
    let vs : c.deref.result.now ≡ variables_of q = c.deref.ensures.value ∙ c.in_ok-variables.ensures in
    let numbers : c.in_ok-rows.rows.items ≡ filter_map (numbered_row steps mv) (variables_of q) = c.in_ok-rows.ensures.rows ∙ ap (filter_map (numbered_row steps mv)) vs in
    let none : length c.in_ok-rows.rows.items ≡ 0 = search rules in
    none_made steps mv (variables_of q) (sym numbers ∙ no_length c.in_ok-rows.rows.items none)

pub size_of_line-requires-clause-powers : goal.size_of_line-requires-clause-powers
size_of_line-requires-clause-powers c =
    let steps = c.args.steps.now in
    let mv = c.args.mv.now in
    let q = c.args.p.now in
    let vs : c.deref.result.now ≡ variables_of q = c.deref.ensures.value ∙ c.in_ok-variables.ensures in
    let numbers : c.deref-2.result.now ≡ filter_map (numbered_row steps mv) (variables_of q) =
    c.deref-2.ensures.value ∙ c.in_ok-rows.ensures.rows ∙ ap (filter_map (numbered_row steps mv)) vs in
    subst (λ (rs : List NumberedRow). AllPowersSmall (sketches rs)) (sym numbers) (sketches_small steps mv (variables_of q))

pub size_of_line-requires-clause-rising : goal.size_of_line-requires-clause-rising
size_of_line-requires-clause-rising c =
    let steps = c.args.steps.now in
    let mv = c.args.mv.now in
    let q = c.args.p.now in
    let vs : c.deref.result.now ≡ variables_of q = c.deref.ensures.value ∙ c.in_ok-variables.ensures in
    let numbers : c.deref-2.result.now ≡ filter_map (numbered_row steps mv) (variables_of q) =
    c.deref-2.ensures.value ∙ c.in_ok-rows.ensures.rows ∙ ap (filter_map (numbered_row steps mv)) vs in
    subst AreRising (sym numbers) (rows_rise steps mv q)

pub returns-clause-some : goal.returns-clause-some
returns-clause-some c =
    let steps = c.args.steps.now in
    let mv = c.args.mv.now in
    let q = c.args.p.now in
    let vs : c.deref.result.now ≡ variables_of q = c.deref.ensures.value ∙ c.in_ok-variables.ensures in
    let numbers : c.in_ok-rows.rows.items ≡ filter_map (numbered_row steps mv) (variables_of q) = c.in_ok-rows.ensures.rows ∙ ap (filter_map (numbered_row steps mv)) vs in
    let some : c.in_ok-rows.rows.items ≢ [] = search rules in
    λ e. some (numbers ∙ some_numbered steps mv (variables_of q) e)

pub returns-clause-rows : goal.returns-clause-rows
returns-clause-rows c =
    let steps = c.args.steps.now in
    let mv = c.args.mv.now in
    let q = c.args.p.now in
    let vs : c.deref.result.now ≡ variables_of q = c.deref.ensures.value ∙ c.in_ok-variables.ensures in
    c.in_ok-rows.ensures.rows ∙ ap (filter_map (numbered_row steps mv)) vs

pub returns-clause-size : goal.returns-clause-size
returns-clause-size c =
    let steps = c.args.steps.now in
    let mv = c.args.mv.now in
    let q = c.args.p.now in
    let vs : c.deref.result.now ≡ variables_of q = c.deref.ensures.value ∙ c.in_ok-variables.ensures in
    let numbers : c.deref-2.result.now ≡ filter_map (numbered_row steps mv) (variables_of q) =
    c.deref-2.ensures.value ∙ c.in_ok-rows.ensures.rows ∙ ap (filter_map (numbered_row steps mv)) vs in
    let some : c.in_ok-rows.rows.items ≢ [] = search rules in
    let listed : c.deref-2.result.now ≢ [] = λ e. some (sym c.deref-2.ensures.value ∙ e) in
    let all : All (HasDenominator steps mv) c.deref-2.result.now = subst (All (HasDenominator steps mv)) (sym numbers) (all_over_one steps mv (variables_of q)) in
    let first : HasDenominator steps mv c.index.result.now =
    subst (HasDenominator steps mv) (let e : get_or c.deref-2.result.now 0 c.index.result.now ≡ c.index.result.now = search rules in e)
    (all 0 c.index.result.now (some_length c.deref-2.result.now listed)) in
    sketched_line steps mv q c.deref-2.result.now c.index.result.now c.in_ok-size.size numbers first c.in_ok-size.ensures.size

pub returns-clause-top : goal.returns-clause-top
returns-clause-top c =
    let steps = c.args.steps.now in
    let mv = c.args.mv.now in
    let q = c.args.p.now in
    let vs : c.deref.result.now ≡ variables_of q = c.deref.ensures.value ∙ c.in_ok-variables.ensures in
    let numbers : c.deref-2.result.now ≡ filter_map (numbered_row steps mv) (variables_of q) =
    c.deref-2.ensures.value ∙ c.in_ok-rows.ensures.rows ∙ ap (filter_map (numbered_row steps mv)) vs in
    c.in_ok-size.ensures.top ∙ sketched_top steps mv q c.deref-2.result.now numbers
