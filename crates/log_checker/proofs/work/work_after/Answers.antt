use Rattle.std.proofs.Common.{ℕ, List, Some, refl, sym, subst}
use Rattle.geo_program.specs.Programs.{source_of}
use Rattle.geo_conditions.specs.declared.problem.Problem.{Problem}
use Rattle.geo_conditions.specs.Lists.{IsProblem}
use Rattle.geo_conditions.specs.Problems.{form_of_problem}
use Rattle.proof_log.specs.declared.log.Line.{Line}
use Rattle.log_checker.specs.Checkers.{IsDue, head_of, subject_of}
use Rattle.log_checker.specs.Inner.Lines.{IsRefusedAfter, RefusesWhere, Tells}
use Rattle.log_checker.proofs.PassedOn.{passed_on}
use Rattle.log_checker.proofs.work.work_after.Goals as goal

pub after_line-requires-clause-reached : goal.after_line-requires-clause-reached
after_line-requires-clause-reached c =
    let w = c.args.work in
    let at = c.requires.reached in (
      head_of w,
      at.0,
      at.1,
      subst (λ (q : Problem). IsDue (subject_of (head_of w) q) at.0 w.evidence w.due at.1) (sym c.problem.view_is) at.2.is_due,
    )

pub returns-in_err-due-clause-refused : goal.returns-in_err-due-clause-refused
returns-in_err-due-clause-refused c = λ steps good h.
    let w = c.args.work in
    let refuses : RefusesWhere w.problem w.evidence w.due c.args.line c.in_err-due.field-0.0 =
    subst (λ (q : Problem). RefusesWhere q w.evidence w.due c.args.line c.in_err-due.field-0.0) c.problem.view_is c.in_err-due.ensures.refused in
    passed_on c.from_residual.result c.in_err-due.field-0.0 (Tells (IsRefusedAfter (subject_of (head_of w) w.problem) steps good (Some c.args.line)))
    c.from_residual.ensures.1 (refuses (head_of w) steps good h.is_due)

pub returns-clause-goes : goal.returns-clause-goes
returns-clause-goes c =
    let w = c.args.work in
    let Problems : Problem → Type 0 = λ q. IsProblem w.version (source_of w.program) (form_of_problem q) q.conditions q.goals in
    let Dues : ℕ → List Line → Problem → Type 0 = λ steps good q. IsDue (subject_of (head_of w) q) steps w.evidence w.due good in
    record {
      version = refl;
      program = refl;
      problem = c.problem.view_is;
      goes = λ steps good h. record {
        well_formed = h.well_formed;
        problem = subst Problems (sym c.problem.view_is) h.problem;
        is_due = c.in_ok-due.ensures.goes (head_of w) steps good (subst (Dues steps good) (sym c.problem.view_is) h.is_due);
      };
    }
