use Rattle.std.proofs.Common.{rules, refl, inl, inr, ◌∙◌, ap, Err}
use Rattle.geo_cli.proofs.ProgramsDue.{concluded, long_log, part, spent_line, too_large_line}
use Rattle.geo_cli.proofs.proving.prove_program.Goals as goal

pub returns-in-Ok-clause-answers : goal.returns-in-Ok-clause-answers
returns-in-Ok-clause-answers g c = λ bytes spelt.
    concluded c.args.program.now _ bytes spelt _ _ _ _ c.in-Ok.summary _ c.of_verdict.ensures c.in-Ok.ensures.verdict

pub returns-in-Err-TooLarge-clause-answers : goal.returns-in-Err-TooLarge-clause-answers
returns-in-Err-TooLarge-clause-answers g c = λ bytes spelt.
    too_large_line c.args.program.now _ bytes spelt _ _ _ _ _ _ (c.prove.ensures.too_large _ _ (c.in-Err-TooLarge.is ∙ ap Err c.in-Err-TooLarge.field-0-is))

pub returns-in-Err-Spent-clause-answers : goal.returns-in-Err-Spent-clause-answers
returns-in-Err-Spent-clause-answers g c = λ bytes spelt.
    spent_line c.args.program.now _ bytes spelt _ _ _ _ _ (c.prove.ensures.spent _ (c.in-Err-Spent.is ∙ ap Err c.in-Err-Spent.field-0-is))

pub returns-in-Err-TooLong-clause-answers : goal.returns-in-Err-TooLong-clause-answers
returns-in-Err-TooLong-clause-answers g c = λ bytes spelt.
    long_log c.args.program.now _ bytes spelt _ _ _ _ (c.prove.ensures.too_long (search rules))

pub returns-in-Err-WriteFault-clause-answers : goal.returns-in-Err-WriteFault-clause-answers
returns-in-Err-WriteFault-clause-answers g c = λ bytes spelt.
    let both = c.prove.ensures.write_fault (search rules) in
    part c.args.program.now _ bytes spelt _ _ _ _ _ (inl (refl, both.0)) both.1

pub returns-in-Err-NoMemory-clause-answers : goal.returns-in-Err-NoMemory-clause-answers
returns-in-Err-NoMemory-clause-answers g c = λ bytes spelt.
    part c.args.program.now _ bytes spelt _ _ _ _ _ (inr refl) (c.prove.ensures.memory (search rules))
