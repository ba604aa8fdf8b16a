use Rattle.std.proofs.Common.{◌≡◌, suc, List, [], length, subst, sym, ap, ◌∙◌}
use Rattle.std.specs.Result.{IfErr}
use Rattle.proof_log.specs.declared.log.Line.{Line}
use Rattle.log_checker.specs.Checked.{TellsStop}
use Rattle.log_checker.specs.Inner.Judged.{Leaves, StopsNext}
use Rattle.log_checker.proofs.JudgedAnswers.{next_tells, work_goes}
use Rattle.log_checker.proofs.PassedOn.{passed_on}
use Rattle.log_checker.proofs.judging.state_after.Goals as goal

pub returns-in_err-after_work-in-Work-clause-refused : goal.returns-in_err-after_work-in-Work-clause-refused
returns-in_err-after_work-in-Work-clause-refused c = λ lines leaves count.
    let at = subst (Leaves c.args.steps lines) c.in-Work.is leaves in
    passed_on c.from_residual.result c.in_err-after_work-in-Work.field-0.0 (TellsStop (StopsNext c.args.steps lines c.args.read)) c.from_residual.ensures.1
    (next_tells c.args.steps lines c.in-Work.work c.args.read c.args.number c.in_err-after_work-in-Work.field-0.0 at.left count
    (λ good there. c.in_err-after_work-in-Work.ensures.refused c.args.steps good there))

pub returns-in-Empty-clause-refused : goal.returns-in-Empty-clause-refused
returns-in-Empty-clause-refused c = λ lines leaves count.
    let empty : lines ≡ [] = (subst (Leaves c.args.steps lines) c.in-Empty.is leaves).left in
    let Tells : List Line → Type 0 = λ ls. IfErr c.after_header.result (TellsStop (StopsNext c.args.steps ls c.args.read)) in
    subst Tells (sym empty) (c.after_header.ensures.refused c.args.steps (count ∙ ap (λ ls. suc (length ls)) empty))

pub returns-in_ok-after_work-in-Work-clause-goes : goal.returns-in_ok-after_work-in-Work-clause-goes
returns-in_ok-after_work-in-Work-clause-goes c = λ lines leaves.
    work_goes c.args.steps lines c.in-Work.work c.in_ok-after_work-in-Work.field-0 c.args.read (subst (Leaves c.args.steps lines) c.in-Work.is leaves) c.in_ok-after_work-in-Work.ensures.goes
