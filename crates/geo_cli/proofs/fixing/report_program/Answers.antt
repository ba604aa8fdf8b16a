use Rattle.std.proofs.Common.{◌∙◌, ap, Err}
use Rattle.geo_cli.proofs.ProgramsDue.{stop_told, verdict_told}
use Rattle.geo_cli.proofs.fixing.report_program.Goals as goal
use Rattle.geo_logs.specs.Moves.{spent, too_large}

pub returns-in-Ok : goal.returns-in-Ok
returns-in-Ok c = verdict_told _ _ _ c.in-Ok.ensures.verdict _ c.report_verdict.ensures

pub returns-in-Err-TooLarge : goal.returns-in-Err-TooLarge
returns-in-Err-TooLarge c =
    stop_told _ _ (too_large _) _ (c.fixed.ensures.too_large _ _ (c.in-Err-TooLarge.is ∙ ap Err c.in-Err-TooLarge.field-0-is)) _ c.report_stop.ensures

pub returns-in-Err-Spent : goal.returns-in-Err-Spent
returns-in-Err-Spent c =
    stop_told _ _ spent _ (c.fixed.ensures.spent _ (c.in-Err-Spent.is ∙ ap Err c.in-Err-Spent.field-0-is)) _ c.report_stop-in-Err-Spent.ensures
