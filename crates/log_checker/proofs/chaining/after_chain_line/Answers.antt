use Rattle.std.proofs.Common.{◌++◌, [], ◌∷◌, sym, subst}
use Rattle.std.proofs.lemmas.Result.{IfOk-from_err}
use Rattle.proof_log.specs.declared.log.Line.{Line}
use Rattle.log_checker.specs.Checkers.{IsStepDue, subject_of}
use Rattle.log_checker.specs.Inner.Lines.{LeadsOn, RefusesWhere}
use Rattle.log_checker.specs.declared.due.Due.TheVariants.{Step}
use Rattle.log_checker.proofs.DueChains.{next_step_due}
use Rattle.log_checker.proofs.DueProblems.{step_named}
use Rattle.log_checker.proofs.DueRefusals.{step_refused}
use Rattle.log_checker.proofs.PassedOn.{passed_on}
use Rattle.log_checker.proofs.chaining.after_chain_line.Goals as goal

pub after_step-requires : goal.after_step-requires
after_step-requires c = record {
  numbers = c.requires.numbers;
  named = step_named c.args.problem.now c.requires.ready c.args.evidence.now c.args.task c.args.own c.args.before c.requires.reached;
  writable = c.requires.writable;
  not_end = c.in_default.not-End;
}

pub returns-in_err-poly : goal.returns-in_err-poly
returns-in_err-poly c =
    let q = c.args.problem.now in
    let e = c.args.evidence.now in
    record {
      goes = IfOk-from_err c.from_residual.result (LeadsOn q e (Step c.args.task c.args.own c.args.before) c.args.line (record e { budget = c.after_step.new.budget })) c.from_residual.ensures.0;
      refused =
          passed_on c.from_residual.result c.in_err-poly.field-0.0 (RefusesWhere q e (Step c.args.task c.args.own c.args.before) c.args.line) c.from_residual.ensures.1
          (step_refused q e c.args.task c.args.own c.args.before c.args.line c.in_err-poly.field-0.0 c.in_err-poly.ensures.refused);
      numbers = c.in_err-poly.ensures.numbers;
    }

pub returns : goal.returns
returns c =
    let q = c.args.problem.now in
    let e = c.args.evidence.now in
    let made = c.in_ok-poly.ensures.step in
    record {
      goes = λ head steps good d.
          let s = subject_of head q in
          let Due : Line → Type 0 = λ l. IsStepDue s steps (good ++ l ∷ []) e.known e.ends c.after_step.new.budget.left c.args.task c.args.own c.in_ok-poly.poly in
          subst Due (sym made.is)
          (next_step_due s steps good e.known e.ends e.budget.left c.after_step.new.budget.left c.args.task c.args.own c.args.before c.in_ok-poly.poly made.step d made.leads);
      refused = tt;
      numbers = c.in_ok-poly.ensures.numbers;
    }
