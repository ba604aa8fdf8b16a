use Rattle.std.proofs.Common.{◌∙◌, ap, Err, arith}
use Rattle.geo_cli.proofs.FaultPlaces.{refusal_within}
use Rattle.geo_cli.proofs.ValuesDue.{fault_told, program_told}
use Rattle.geo_cli.proofs.placing.report_rest.Goals as goal

pub overflow_add-before : goal.overflow_add-before
overflow_add-before c =
    let within = refusal_within c.args.rest.now _ (c.parse.ensures.refused _ (c.in-Err-Syntax.is ∙ ap Err c.in-Err-Syntax.field-0-is)) in
    omega (arith, within, c.requires.few)

pub returns-in-Ok : goal.returns-in-Ok
returns-in-Ok c = program_told c.args.drawn c.args.values.now c.args.rest.now _ c.in-Ok.ensures.spelt _ c.report_program.ensures

pub returns-in-Err-Syntax : goal.returns-in-Err-Syntax
returns-in-Err-Syntax c =
    let is = c.in-Err-Syntax.is ∙ ap Err c.in-Err-Syntax.field-0-is in
    fault_told c.args.drawn c.args.values.now c.args.rest.now _
    (record { refused = c.parse.ensures.refused _ is; spells_none = c.parse.ensures.spells_none _ is }) c.args.before c.requires.before _
    c.report_fault.ensures
