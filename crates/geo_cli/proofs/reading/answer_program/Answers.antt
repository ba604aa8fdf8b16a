use Rattle.std.proofs.Common.{◌∙◌, ap, Err}
use Rattle.geo_cli.proofs.Answered.{refused}
use Rattle.geo_cli.proofs.reading.answer_program.Goals as goal

pub returns-in-Err-Syntax-clause-answers : goal.returns-in-Err-Syntax-clause-answers
returns-in-Err-Syntax-clause-answers g c =
    let is = c.in-Err-Syntax.is ∙ ap Err c.in-Err-Syntax.field-0-is in
    refused c.args.steps c.args.bytes.now _ _ _ _ _ c.args.command c.requires.program
    (c.refuse.ensures.answers c.args.bytes.now
    (rw c.in-Err-Syntax.field-0-is (record { refused = c.parse.ensures.refused _ is; spells_none = c.parse.ensures.spells_none _ is })))
