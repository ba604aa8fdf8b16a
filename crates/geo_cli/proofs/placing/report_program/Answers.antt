use Rattle.std.proofs.Common.{◌∙◌, ap, rules, Err, Ok}
use Rattle.geo_cli.proofs.ValuesDue.{answer_told}
use Rattle.geo_cli.proofs.placing.report_program.Goals as goal

pub returns-in-Ok : goal.returns-in-Ok
returns-in-Ok c =
    answer_told c.args.drawn c.args.program.now c.args.values.now (search rules) _ (Ok c.in-Ok.placed) c.in-Ok.is c.place.ensures.answer _
    c.report_points.ensures

pub returns-in-Err-Unmet : goal.returns-in-Err-Unmet
returns-in-Err-Unmet c =
    answer_told c.args.drawn c.args.program.now c.args.values.now (search rules) _ _ (c.in-Err-Unmet.is ∙ ap Err c.in-Err-Unmet.field-0-is)
    c.place.ensures.answer _ c.report_unmet.ensures

pub returns-in-Err-TooLarge : goal.returns-in-Err-TooLarge
returns-in-Err-TooLarge c =
    answer_told c.args.drawn c.args.program.now c.args.values.now (search rules) _ _ (c.in-Err-TooLarge.is ∙ ap Err c.in-Err-TooLarge.field-0-is)
    c.place.ensures.answer _ c.report_large.ensures
