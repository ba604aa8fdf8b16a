-- What the checker's laws say of the log of a program or of a candidate.
use Rattle.std.proofs.Common.{◌≡◌, ℕ, ◌<◌, ◌^◌, List}
use Rattle.geo_conditions.specs.declared.problem.Problem.{Problem}
use Rattle.geo_conditions.specs.Lists.{IsProblem}
use Rattle.geo_conditions.specs.Problems.{form_of_problem}
use Rattle.geo_lowering.specs.declared.version.Version.TheVariants.{Two}
use Rattle.geo_logs.specs.Logs.{Item, Subject}
use Rattle.geo_program.specs.WellFormed.{IsWellFormed, Source}
use Rattle.geo_terms.specs.Constructions.{Construction}
use Rattle.log_checker.specs.Checkers.{subject_of}
use Rattle.log_checker.specs.Subjects.{IsSubjectOf, source_lines}
use Rattle.log_checker.proofs.DueProblems.{about}
use Rattle.log_checker.proofs.Realised.{conditions_named, goals_named}
use Rattle.log_checker.proofs.Verdicts.{parts_of}
use Rattle.log_checker.proofs.WritableLines.{next_lines_are_writable}
use Rattle.geo_chain.specs.declared.frame.Frame.TheVariants.{Full}
use Rattle.geo_chain.specs.declared.size.Size.{Size}
use Rattle.geo_chain.specs.declared.size.Size.TheVariants.{Written}
use Rattle.geo_chain.specs.Parts.{CanWrite, log_part}
use Rattle.geo_chain.specs.Tasks.{HasReadyItems}
use Rattle.geo_chain.proofs.WholeLogs.{items_ready, part_writable}

-- a program's subject, with this construction and these items
abbrev pub subject_with : Source → Construction → List Item → List Item → Subject
subject_with p c conditions goals = record {
  version = 2;
  program = source_lines p;
  construction = c;
  conditions = conditions;
  goals = goals;
}

-- the items of a problem name what its construction has
pub ready : (p : Source) (problem : Problem) → IsWellFormed p → IsProblem Two p (form_of_problem problem) problem.conditions problem.goals
    → HasReadyItems problem
ready p problem w is =
    let own = about Two p problem is in
    let subject = subject_of (2, source_lines p) problem in
    let nodes = problem.steps.nodes in
    record {
      conditions = items_ready problem.steps nodes problem.conditions is.conditions.stored
          (λ i item at. (conditions_named p subject w (parts_of p subject own) i item at).0);
      goals = items_ready problem.steps nodes problem.goals is.goals.stored
          (λ i item at. (goals_named p subject w (parts_of p subject own) i item at).0);
    }

-- each line that comes next may be written
pub can_write : (p : Source) (subject : Subject) (steps : ℕ) → IsWellFormed p → steps < 2 ^ 127 → IsSubjectOf p subject → (z : Size)
    → z ≡ Written 0 → CanWrite Full subject.construction (log_part Full subject steps) z
can_write p subject steps w small own z none =
    part_writable subject.construction (log_part Full subject steps) z none
    (λ lines place line b short n. next_lines_are_writable p subject steps lines place line w own small b short n)
