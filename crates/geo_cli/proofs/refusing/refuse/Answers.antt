use Rattle.std.proofs.Common.{rules}
use Rattle.geo_cli.proofs.Reported.{refusal_told}
use Rattle.geo_cli.proofs.refusing.refuse.Goals as goal

pub returns-clause-answers : goal.returns-clause-answers
returns-clause-answers g c = λ steps bytes tells.
    refusal_told steps bytes _ _ _ _ _ c.args.error _ _ c.in-Ok.ensures.refusal tells (search rules) c.of_error.ensures c.answer.ensures.answered
