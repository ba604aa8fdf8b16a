use Rattle.std.proofs.Common.{ℕ, List, [], sym, subst}
use Rattle.geo_program.specs.Programs.{source_of}
use Rattle.geo_poly.specs.declared.variables.Var.{Var}
use Rattle.geo_poly.specs.Polynomials.{Summands}
use Rattle.geo_logs.specs.Logs.{Subject}
use Rattle.log_checker.specs.Checkers.{AreConditionsDue, Head, subject_of}
use Rattle.log_checker.specs.Subjects.{source_lines, version_number}
use Rattle.log_checker.proofs.DueChains.{all_due}
use Rattle.log_checker.proofs.work.begun_work.Goals as goal

pub returns-clause-begun : goal.returns-clause-begun
returns-clause-begun c =
    let e = c.new-evidence.result in
    let new = c.new-evidence.ensures in
    let head : Head = (version_number c.args.version, source_lines (source_of c.in_ok-program.program)) in
    let s : Subject = subject_of head c.in_ok-problem.problem in
    let left : AreConditionsDue s c.args.steps [] [] [] e.budget.left 0 =
    subst (λ (n : ℕ). AreConditionsDue s c.args.steps [] [] [] n 0) (sym new.left) (all_due s c.args.steps) in
    let ends : AreConditionsDue s c.args.steps [] [] e.ends e.budget.left 0 =
    subst (λ (ends : List Summands). AreConditionsDue s c.args.steps [] [] ends e.budget.left 0) (sym new.ends) left in
    record {
      well_formed = c.in_ok-program.ensures.spelt.well_formed;
      problem = c.in_ok-problem.ensures;
      is_due = c.condition_due-due.ensures head c.args.steps [] e
          (subst (λ (known : List Var). AreConditionsDue s c.args.steps [] known e.ends e.budget.left 0) (sym new.known) ends);
    }
