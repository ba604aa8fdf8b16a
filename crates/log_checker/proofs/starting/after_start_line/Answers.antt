use Rattle.std.proofs.Common.{◌++◌, ◌-◌, [], ◌∷◌, sym, subst, ap, ◌∙◌}
use Rattle.geo_logs.specs.Starts.{IsStarted, start_charge, start_of}
use Rattle.log_checker.specs.Checkers.{IsStepDue, subject_of}
use Rattle.log_checker.specs.Inner.Lines.{RefusesWhere}
use Rattle.log_checker.specs.declared.due.Due.TheVariants.{Start}
use Rattle.proof_log.specs.declared.log.Line.TheVariants.{Start as StartLine}
use Rattle.proof_log.specs.declared.log.Line.{Line}
use Rattle.log_checker.proofs.DueChains.{first_step_due}
use Rattle.log_checker.proofs.DueRefusals.{no_start, start_refused, start_wrong_line}
use Rattle.log_checker.proofs.PassedOn.{passed_on}
use Rattle.log_checker.proofs.starting.after_start_line.Goals as goal

pub returns-in_default : goal.returns-in_default
returns-in_default c = record {
  goes = tt;
  refused = start_wrong_line c.args.problem.now c.args.evidence.now c.args.task c.args.term c.args.line (no_start c.args.line c.in_default.not-Start);
}

pub returns-in_err-poly-clause-refused : goal.returns-in_err-poly-clause-refused
returns-in_err-poly-clause-refused c =
    let Refuses : Line → Type 0 = λ line. RefusesWhere c.args.problem.now c.args.evidence.now (Start c.args.task c.args.term) line c.in_err-poly.field-0.0 in
    passed_on c.from_residual.result c.in_err-poly.field-0.0 (RefusesWhere c.args.problem.now c.args.evidence.now (Start c.args.task c.args.term) c.args.line) c.from_residual.ensures.1
    (subst Refuses (sym c.in-Start.is)
    (start_refused c.args.problem.now c.args.evidence.now c.args.task c.args.term (StartLine c.in-Start.poly) c.in_err-poly.field-0.0 c.in_err-poly.ensures.refused))

pub returns-clause-goes : goal.returns-clause-goes
returns-clause-goes c = λ head steps good d.
    let q = c.args.problem.now in
    let e = c.args.evidence.now in
    let line = c.in-Start.is ∙ ap StartLine (sym c.in_ok-poly.ensures.result) in
    subst (λ l. IsStepDue (subject_of head q) steps (good ++ l ∷ []) e.known e.ends c.right_start.new.budget.left c.args.task c.own_variable-own.result c.in_ok-poly.poly) (sym line)
    (first_step_due (subject_of head q) steps good e.known e.ends e.budget.left c.right_start.new.budget.left c.args.task c.own_variable-own.result c.in_ok-poly.poly d.0
    (subst (λ t. IsStarted e.budget.left t) d.2 c.in_ok-poly.ensures.started.0) (c.in_ok-poly.ensures.started.1 ∙ ap start_of d.2)
    (c.in_ok-poly.ensures.paid ∙ ap (λ t. e.budget.left - start_charge t) d.2) c.own_variable-own.ensures)
