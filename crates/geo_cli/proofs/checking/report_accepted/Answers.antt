use Rattle.std.proofs.Common.{rules, subst}
use Rattle.proof_printer.specs.Due.{IsAcceptedText}
use Rattle.geo_program.specs.Programs.{source_of}
use Rattle.geo_cli.proofs.Reported.{acceptance_told}
use Rattle.geo_cli.proofs.checking.report_accepted.Goals as goal

pub returns-clause-answers : goal.returns-clause-answers
returns-clause-answers g c = λ steps bytes accepted.
    acceptance_told steps bytes _ _ _ _ _ (source_of c.args.program.now) c.args.verdict _ _ accepted
    (subst (IsAcceptedText (source_of c.args.program.now) c.args.verdict) (search rules) c.in-Ok.ensures) c.of_verdict.ensures c.answer.ensures.answered
