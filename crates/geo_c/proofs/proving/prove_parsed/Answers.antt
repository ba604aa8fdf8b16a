use Rattle.std.proofs.Common.{rules, ◌∙◌, ap, Err}
use Rattle.geo_c.proofs.Logs.{concluded, long_log, spent_line, too_large_line}
use Rattle.geo_c.proofs.proving.prove_parsed.Goals as goal

pub returns-in-Ok : goal.returns-in-Ok
returns-in-Ok c = λ told bytes spelt.
    concluded c.args.program.now c.args.steps _ _ c.requires bytes spelt c.in-Ok.summary _ c.of_verdict.ensures c.in-Ok.ensures.verdict

pub returns-in-Err-TooLarge : goal.returns-in-Err-TooLarge
returns-in-Err-TooLarge c = λ told bytes spelt.
    too_large_line c.args.program.now c.args.steps _ _ c.requires bytes spelt _ _
    (c.prove.ensures.too_large _ _ (c.in-Err-TooLarge.is ∙ ap Err c.in-Err-TooLarge.field-0-is))

pub returns-in-Err-Spent : goal.returns-in-Err-Spent
returns-in-Err-Spent c = λ told bytes spelt.
    spent_line c.args.program.now c.args.steps _ _ c.requires bytes spelt _
    (c.prove.ensures.spent _ (c.in-Err-Spent.is ∙ ap Err c.in-Err-Spent.field-0-is))

pub returns-in-Err-TooLong : goal.returns-in-Err-TooLong
returns-in-Err-TooLong c = λ told bytes spelt.
    long_log c.args.program.now c.args.steps _ _ c.requires bytes spelt (c.prove.ensures.too_long (search rules))
