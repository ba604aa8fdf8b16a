use Rattle.log_checker.proofs.DueRefusals.{step_not_ended}
use Rattle.log_checker.proofs.KeysInTurn.{false_not}
use Rattle.log_checker.proofs.chaining.after_end.Goals as goal

pub returns-then-not-is_end-clause-refused : goal.returns-then-not-is_end-clause-refused
returns-then-not-is_end-clause-refused c =
    step_not_ended c.args.problem.now c.args.evidence.now c.args.task c.args.own c.args.last (λ end. false_not (c.if-not-is_end.ensures.1 end))
