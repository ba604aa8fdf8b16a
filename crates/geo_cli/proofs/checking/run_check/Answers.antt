use Rattle.std.proofs.Common.{rules, arith}
use Rattle.geo_cli.specs.declared.order.Command.TheVariants.{Check}
use Rattle.geo_cli.specs.Due.{due_for}
use Rattle.geo_cli.specs.Input.{log_limit}
use Rattle.geo_cli.proofs.Answered.{of_input, of_long}
use Rattle.geo_cli.proofs.checking.run_check.Goals as goal

pub returns-in-Ok-clause-answers : goal.returns-in-Ok-clause-answers
returns-in-Ok-clause-answers g c =
    let read = c.in-Ok.ensures.judged in
    of_input log_limit (due_for Check c.args.steps) _ _ _ _ _ _ _ _ _ read.bytes read.input (c.report.ensures.answers _ read.bytes read.judged)

pub returns-in-Ok-clause-taken : goal.returns-in-Ok-clause-taken
returns-in-Ok-clause-taken g c =
    let read = c.in-Ok.ensures.judged in
    let short = read.input.short in record { taken = read.bytes; lost = read.input.lost; few = omega (arith, short) }

pub returns-in-Err-TooLong-clause-answers : goal.returns-in-Err-TooLong-clause-answers
returns-in-Err-TooLong-clause-answers g c =
    of_long log_limit (due_for Check c.args.steps) _ _ _ _ _ _ _ _ _ (c.judge_input.ensures.too_long (search rules)) c.answer.ensures.answered
