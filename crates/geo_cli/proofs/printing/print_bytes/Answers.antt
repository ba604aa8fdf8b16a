use Rattle.std.proofs.Common.{inr, rules}
use Rattle.geo_cli.specs.declared.order.Command.TheVariants.{Text}
use Rattle.geo_cli.specs.Due.{IsRejectionDue, due_for}
use Rattle.geo_cli.proofs.Answered.{answers_more}
use Rattle.geo_cli.proofs.Reported.{proof_told}
use Rattle.geo_cli.proofs.printing.print_bytes.Goals as goal

pub returns-in-Ok-clause-answers : goal.returns-in-Ok-clause-answers
returns-in-Ok-clause-answers g c =
    proof_told c.args.steps c.args.bytes.now _ _ _ _ _ _ (search rules) c.answer.ensures.answered

pub returns-in-Err-clause-answers : goal.returns-in-Err-clause-answers
returns-in-Err-clause-answers g c =
    answers_more (IsRejectionDue c.args.steps c.args.bytes.now) (due_for Text c.args.steps c.args.bytes.now) (λ due is. inr is) _ _ _ _ _
    (c.refuse.ensures.answers _ _ (search rules))
