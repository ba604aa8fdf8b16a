use Rattle.std.proofs.Common.{rules, sym}
use Rattle.geo_cli.specs.Due.{due_for}
use Rattle.geo_cli.proofs.Answered.{at_limit, of_input, of_long, takes_limit}
use Rattle.geo_cli.proofs.reading.run_reading.Goals as goal

pub answer_bytes-requires-clause-short : goal.answer_bytes-requires-clause-short
answer_bytes-requires-clause-short g c = rw (sym c.limit_of.ensures.limit) (search rules)

pub returns-in-Ok-clause-answers : goal.returns-in-Ok-clause-answers
returns-in-Ok-clause-answers g c =
    at_limit _ _ _ _ _ _ _ _ _ _ _ _ c.limit_of.ensures.limit
    (of_input c.limit_of.result (due_for c.args.command c.args.steps) _ _ _ _ _ _ _ _ _ _
    (record { lost = search rules; ended = search rules; short = search rules }) c.answer_bytes.ensures.answers)

pub returns-in-Err-TooLong-clause-answers : goal.returns-in-Err-TooLong-clause-answers
returns-in-Err-TooLong-clause-answers g c =
    let h = c.read_all.ensures.too_long (search rules) in
    at_limit _ _ _ _ _ _ _ _ _ _ _ _ c.limit_of.ensures.limit
    (of_long c.limit_of.result (due_for c.args.command c.args.steps) _ _ _ _ _ _ _ _ _
    (record { taken = h.0; longer = h.1; lost = h.2 }) c.answer.ensures.answered)

pub returns-in-Ok-clause-taken : goal.returns-in-Ok-clause-taken
returns-in-Ok-clause-taken g c = takes_limit _ _ _ _ c.limit_of.ensures.limit (search rules)

pub returns-in-Err-TooLong-clause-taken : goal.returns-in-Err-TooLong-clause-taken
returns-in-Err-TooLong-clause-taken g c = takes_limit _ _ _ _ c.limit_of.ensures.limit (search rules)

pub returns-in-Err-ReadFault-clause-taken : goal.returns-in-Err-ReadFault-clause-taken
returns-in-Err-ReadFault-clause-taken g c = takes_limit _ _ _ _ c.limit_of.ensures.limit (search rules)

pub returns-in-Err-NoMemory-clause-taken : goal.returns-in-Err-NoMemory-clause-taken
returns-in-Err-NoMemory-clause-taken g c = takes_limit _ _ _ _ c.limit_of.ensures.limit (search rules)
