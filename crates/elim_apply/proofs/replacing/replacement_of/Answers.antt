use Rattle.std.proofs.Common.{◌≡◌, ◌<◌, List, length, get_or, sym, ap, subst, ◌∙◌, arith, rules}
use Rattle.std.specs.Prelude.{All}
use Rattle.std.specs.List.{filter_map}
use Rattle.fraction_poly.specs.Measures.{capped_number}
use Rattle.fraction_poly.specs.TableRows.{HasPointsBelow}
use Rattle.geo_poly.specs.declared.variables.Var.{Var}
use Rattle.geo_poly.specs.PolynomialVariables.{variables_of}
use Rattle.geo_poly.proofs.EachVariable.{each-variables}
use Rattle.geo_logs.specs.Moves.{replacement}
use Rattle.elim_apply.specs.declared.numbered.NumberedRow.{NumberedRow}
use Rattle.elim_apply.specs.LemmaTable.{lemma_table}
use Rattle.elim_apply.specs.Inner.Sketches.{numbered_row}
use Rattle.elim_apply.proofs.MadeLines.{line_can_be_made, line_charges, line_made}
use Rattle.elim_apply.proofs.NumberedRows.{all_each, none_made, some_length}
use Rattle.elim_apply.proofs.replacing.replacement_of.Goals as goal

pub numbered_rows-requires-clause-place : goal.numbered_rows-requires-clause-place
numbered_rows-requires-clause-place c = c.requires.3.place

pub numbered_rows-requires-clause-variables : goal.numbered_rows-requires-clause-variables
numbered_rows-requires-clause-variables c =
    let n = length c.args.steps.now.steps in
    let q = c.requires.0 in
    subst (λ (vs : List Var). All (HasPointsBelow n) vs) (sym c.requires.1)
    (all_each (HasPointsBelow n) (variables_of q) (each-variables (HasPointsBelow n) q c.requires.3.points))

pub made_rows-requires-clause-place : goal.made_rows-requires-clause-place
made_rows-requires-clause-place c = c.requires.3.place

pub made_rows-requires-clause-some : goal.made_rows-requires-clause-some
made_rows-requires-clause-some c =
    let steps = c.args.steps.now in
    let mv = c.args.mv.now in
    let vs = variables_of c.requires.0 in
    let numbers : c.deref.result.now ≡ filter_map (numbered_row steps mv) vs = c.deref.ensures.value ∙ c.in_ok-numbered.ensures.rows ∙ ap (filter_map (numbered_row steps mv)) c.requires.1 in
    λ e. c.requires.3.within.some (none_made steps mv vs (sym numbers ∙ e))

pub made_rows-requires-clause-rows : goal.made_rows-requires-clause-rows
made_rows-requires-clause-rows c =
    let steps = c.args.steps.now in
    let mv = c.args.mv.now in
    let q = c.requires.0 in
    let can = c.requires.3 in
    let numbers : c.deref.result.now ≡ filter_map (numbered_row steps mv) (variables_of q) =
    c.deref.ensures.value ∙ c.in_ok-numbered.ensures.rows ∙ ap (filter_map (numbered_row steps mv)) c.requires.1 in
    line_can_be_made steps mv q c.deref.result.now numbers can.points c.requires.2 can.within.weight can.within.degree

pub index-requires : goal.index-requires
index-requires c =
    let steps = c.args.steps.now in
    let mv = c.args.mv.now in
    let vs = variables_of c.requires.0 in
    let ns = c.in_ok-numbered.numbered.items in
    let numbers : ns ≡ filter_map (numbered_row steps mv) vs = c.in_ok-numbered.ensures.rows ∙ ap (filter_map (numbered_row steps mv)) c.requires.1 in
    let some : 0 < length ns = some_length ns (λ e. c.requires.3.within.some (none_made steps mv vs (sym numbers ∙ e))) in
    search rules

pub returns : goal.returns
returns c = λ q listed can.
    let steps = c.args.steps.now in
    let mv = c.args.mv.now in
    let vs = variables_of q in
    let made = replacement lemma_table steps mv q in
    let ns = c.in_ok-numbered.numbered.items in
    let n = c.index.result.now in
    let numbers : ns ≡ filter_map (numbered_row steps mv) vs = c.in_ok-numbered.ensures.rows ∙ ap (filter_map (numbered_row steps mv)) listed in
    let some : 0 < length ns = some_length ns (λ e. can.within.some (none_made steps mv vs (sym numbers ∙ e))) in
    let passed : c.deref.result.now ≡ filter_map (numbered_row steps mv) vs = c.deref.ensures.value ∙ numbers in
    let rows : c.in_ok-rows.rows ≡ made.rows = line_made steps mv q c.deref.result.now passed c.in_ok-rows.rows c.in_ok-rows.ensures.rows in
    let here : get_or ns 0 n ≡ n = search rules in
    let capped : n.numbers.charge ≡ capped_number made.charge =
    subst (λ (n : NumberedRow). n.numbers.charge ≡ capped_number made.charge) here (line_charges steps mv q ns numbers 0 n some) in
    let fits : capped_number made.charge ≡ made.charge = (let charge = can.within.charge in omega (arith, charge)) in
    let den : c.in_ok-rows.den ≡ made.den = c.in_ok-rows.ensures.den in
    let charge : n.numbers.charge ≡ made.charge = capped ∙ fits in
    λ i. record { rows = rows i; den = den i; charge = charge i }
