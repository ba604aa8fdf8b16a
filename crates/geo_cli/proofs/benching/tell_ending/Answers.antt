use Rattle.std.proofs.Common.{rules, ◌∙◌, ap, Err}
use Rattle.geo_cli.proofs.Benched.{is_told, long_told, stop_told, summary_told}
use Rattle.geo_cli.proofs.benching.tell_ending.Goals as goal
use Rattle.geo_logs.specs.Moves.{spent, too_large}

pub returns-in-Ok : goal.returns-in-Ok
returns-in-Ok c = is_told _ _ _ _ (summary_told _ _ _ _ c.in-Ok.summary c.in-Ok.ensures.verdict) c.tell_summary.ensures

pub returns-in-Err-TooLarge : goal.returns-in-Err-TooLarge
returns-in-Err-TooLarge c =
    is_told _ _ _ _
    (stop_told _ _ _ _ (too_large _) _ (c.prove.ensures.too_large _ _ (c.in-Err-TooLarge.is ∙ ap Err c.in-Err-TooLarge.field-0-is)))
    c.report_stop.ensures

pub returns-in-Err-Spent : goal.returns-in-Err-Spent
returns-in-Err-Spent c =
    is_told _ _ _ _ (stop_told _ _ _ _ spent _ (c.prove.ensures.spent _ (c.in-Err-Spent.is ∙ ap Err c.in-Err-Spent.field-0-is))) c.report_stop-in-Err-Spent.ensures

pub returns-in-Err-TooLong : goal.returns-in-Err-TooLong
returns-in-Err-TooLong c = long_told _ _ _ _ _ (c.prove.ensures.too_long (search rules)) (search rules) (search rules)
