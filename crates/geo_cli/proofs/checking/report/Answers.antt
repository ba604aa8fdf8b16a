use Rattle.std.proofs.Common.{inr}
use Rattle.geo_cli.specs.declared.order.Command.TheVariants.{Check}
use Rattle.geo_cli.specs.Due.{IsRejectionDue, due_for}
use Rattle.geo_cli.proofs.Answered.{answers_more}
use Rattle.geo_cli.proofs.Reported.{judged_err, judged_ok}
use Rattle.geo_cli.proofs.checking.report.Goals as goal

pub returns-in-Ok-clause-answers : goal.returns-in-Ok-clause-answers
returns-in-Ok-clause-answers g c = λ steps bytes h. c.report_accepted.ensures.answers steps bytes (judged_ok bytes steps _ _ c.in-Ok.is h).accepts

pub returns-in-Err-clause-answers : goal.returns-in-Err-clause-answers
returns-in-Err-clause-answers g c = λ steps bytes h.
    answers_more (IsRejectionDue steps bytes) (due_for Check steps bytes) (λ due is. inr is) _ _ _ _ _
    (c.refuse.ensures.answers steps bytes (judged_err bytes steps _ _ c.in-Err.is h))
