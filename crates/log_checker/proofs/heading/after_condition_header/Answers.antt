use Rattle.log_checker.specs.Inner.Lines.{RefusesWhere}
use Rattle.log_checker.specs.declared.due.Due.TheVariants as due
use Rattle.log_checker.proofs.DueProblems.{condition_goes}
use Rattle.log_checker.proofs.DueRefusals.{condition_refused}
use Rattle.log_checker.proofs.PassedOn.{passed_on}
use Rattle.log_checker.proofs.heading.after_condition_header.Goals as goal

pub returns-in_err-task-clause-refused : goal.returns-in_err-task-clause-refused
returns-in_err-task-clause-refused c = λ e.
    let q = c.args.problem.now in
    passed_on c.from_residual.result c.in_err-task.field-0.0 (RefusesWhere q e (due.Condition c.args.index) c.args.line.now) c.from_residual.ensures.1
    (condition_refused q e c.args.index c.condition_at-item.result.now c.args.line.now c.in_err-task.field-0.0 c.condition_at-item.ensures (c.in_err-task.ensures.refused q.steps))

pub returns-clause-goes : goal.returns-clause-goes
returns-clause-goes c = λ e.
    condition_goes c.args.problem.now c.requires.ready e c.args.index c.condition_at-item.result.now c.args.line.now c.in_ok-task.task
    c.condition_at-item.ensures c.in_ok-task.ensures.line c.in_ok-task.ensures.task
