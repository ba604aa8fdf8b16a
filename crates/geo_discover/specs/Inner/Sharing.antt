-- What all candidates of a search have in common, and what the log of one is put together from.
use Rattle.std.specs.Prelude.{◌≡◌, ◌≢◌, ◌⊎◌, All, ℕ, suc, ◌+◌, ◌<◌, ◌≤◌, ◌^◌, Some, IfSome, List, [], ◌∷◌, length, map}
use Rattle.elim_apply.specs.Kept.{AreKnownRows}
use Rattle.geo_conditions.specs.Lists.{IsProblem, goal_item, item_form}
use Rattle.geo_conditions.specs.Problems.{form_of_problem}
use Rattle.geo_lowering.specs.declared.version.Version.TheVariants.{Two}
use Rattle.geo_logs.specs.Ends.{stops, text_length}
use Rattle.geo_logs.specs.Logs.{Item}
use Rattle.geo_logs.specs.Moves.{Stop, spent, too_large}
use Rattle.geo_logs.specs.Places.{Place}
use Rattle.geo_poly.specs.declared.variables.Var.{Var}
use Rattle.geo_poly.specs.Polynomials.{Summands}
use Rattle.geo_poly.specs.Specialise.{NoneZero}
use Rattle.geo_program.specs.declared.statements.Statement.{Statement}
use Rattle.geo_program.specs.Relations.{with_statement}
use Rattle.geo_program.specs.WellFormed.{Source}
use Rattle.geo_terms.specs.Constructions.{Construction}
use Rattle.proof_log.specs.declared.log.Line.{Line}
use Rattle.proof_log.specs.declared.log.Verdict.{Verdict}
use Rattle.proof_log.specs.Lines.{log_text}
use Rattle.geo_chain.specs.declared.errors.ProveError.{ProveError}
use Rattle.geo_chain.specs.declared.errors.ProveError.TheVariants as stopped
use Rattle.geo_chain.specs.declared.frame.Frame.TheVariants.{Full}
use Rattle.geo_chain.specs.FirstLines.{program_lines}
use Rattle.geo_chain.specs.Halting.{Finishes, Halts}
use Rattle.geo_chain.specs.InFrame.{IsNextIn}
use Rattle.geo_chain.specs.Parts.{Continues, Part, conditions_part, goals_part, items_of}
use Rattle.geo_chain.specs.Sizes.{Fits}
use Rattle.geo_chain.specs.Written.{State}
use Rattle.geo_discover.specs.declared.examining.Judgement.{Judgement}
use Rattle.geo_discover.specs.declared.examining.Judgement.TheVariants as judged
use Rattle.geo_discover.specs.declared.figure.Figure.{Figure}
use Rattle.geo_discover.specs.declared.goal.Goal.{Goal}
use Rattle.geo_discover.specs.declared.figure.Worked.{Worked}
use Rattle.geo_discover.specs.declared.figure.Worked.TheVariants.{Met, Stopped, Unshared}
use Rattle.geo_discover.specs.FoundTexts.{candidate_text}
use Rattle.geo_discover.specs.Inner.Searching.{IsCandidate, judgement_by}

-- CONDITIONS
-- the conditions with so many steps, and then these goals
abbrev pub from_conditions : Construction → List Item → ℕ → List Item → Part
from_conditions c conditions steps goals = conditions_part Full c goals [] [] 1 steps conditions

-- the text is that of so many lines, behind which these goals come, with what is known then and so many steps
pub record AreMet (c : Construction) (conditions : List Item) (steps : ℕ) (known : List Var) (ends : List Summands) (text : List ℕ)
    (count left : ℕ) (goals : List Item) : Type 0 where
  pub lines : List Line
  pub continues : Continues (from_conditions c conditions steps goals) (goals_part Full c known ends 1 left goals) lines
  pub text_is : text ≡ log_text lines
  pub counted : count ≡ length lines

-- a stop is due in the chain of a condition, at the line of this number of a log that has so many lines before the conditions; the lines
-- between are no longer than this
pub record IsStoppedThere (c : Construction) (conditions : List Item) (steps before : ℕ) (bytes : ℕ) (stop : Stop) (number : ℕ)
    (goals : List Item) : Type 0 where
  pub lines : List Line
  pub place : Place
  pub begun : (from_conditions c conditions steps goals).begun lines place
  pub next : IsNextIn Full c place (stops stop)
  pub last : number ≡ suc (before + length lines)
  pub short : text_length lines ≤ bytes

abbrev pub IsStoppedBy : Construction → List Item → ℕ → ℕ → ℕ → ProveError → List Item → Type 0
IsStoppedBy c conditions steps before bytes (stopped.Spent n) goals = IsStoppedThere c conditions steps before bytes spent n goals
IsStoppedBy c conditions steps before bytes (stopped.TooLarge n which) goals =
    IsStoppedThere c conditions steps before bytes (too_large which) n goals
IsStoppedBy c conditions steps before bytes _ goals = ⊥

-- what serves all candidates of such an error
abbrev pub stopped_by : ProveError → ℕ → Worked
stopped_by (stopped.Spent n) bytes = Stopped (stopped.Spent n) bytes
stopped_by (stopped.TooLarge n which) bytes = Stopped (stopped.TooLarge n which) bytes
stopped_by _ bytes = Unshared

-- this is what the conditions came to, whatever the goals are
abbrev pub AreWorked : Construction → List Item → ℕ → ℕ → List Var → List Summands → Worked → Type 0
AreWorked c conditions steps before known ends (Met text lines left) =
    NoneZero ends × ((goals : List Item) → AreMet c conditions steps known ends text lines left goals)
AreWorked c conditions steps before known ends (Stopped error bytes) =
    (goals : List Item) → IsStoppedBy c conditions steps before bytes error goals
AreWorked c conditions steps before known ends Unshared = Unit {0}

-- THE FIGURE
-- with each candidate they have so many bytes at most, beside its text
abbrev pub IsFrontOf : Source → ℕ → Type 0
IsFrontOf p bytes = (s : Statement) → text_length (program_lines (with_statement p s)) ≤ bytes + length (candidate_text p s)

-- the figure is that of the candidates of the program: its lowered form and conditions with one of them, which are those with each
pub record IsFigureOf (p : Source) (figure : Figure) : Type 0 where
  pub small : figure.steps < 2 ^ 127
  pub first : Statement
  pub candidate : IsCandidate p first
  pub problem :
      IsProblem Two (with_statement p first) (form_of_problem figure.problem) figure.problem.conditions figure.problem.goals
  pub numbers : AreKnownRows figure.problem.steps figure.numbers
  pub worked :
      AreWorked figure.problem.steps (items_of figure.problem.steps.nodes figure.problem.conditions) figure.steps (length p.commands + 2)
      figure.findings.known figure.findings.ends figure.conditions
  pub front : IfSome figure.front (IsFrontOf p)

-- ONE CANDIDATE
-- the goal is that of the candidate, with its term in a store of its own, and its text has so many bytes
pub record IsGoalOf (p : Source) (s : Statement) (goal : Goal) : Type 0 where
  pub stored : All (λ item. item.term.0 < length goal.terms.nodes) goal.goals
  pub item : map (item_form goal.terms.nodes) goal.goals ≡ goal_item Two p s ∷ []
  pub bytes : goal.bytes ≡ length (candidate_text p s)

-- what is said of a candidate whose log was written so far and goes on as this part: its verdict, or why it has none
pub record IsSaid (c : Construction) (part : Part) (s : State) (judgement : Judgement) : Type 0 where
  pub after : State
  pub said :
      ((verdict : Verdict) × (left : ℕ) × (log : List ℕ) × (judgement ≡ judgement_by verdict log) × (after.held ≡ Some log)
      × Fits after.size × Finishes part s after verdict left)
      ⊎ ((error : ProveError) × (judgement ≡ judged.Open error) × (error ≢ stopped.NoMemory) × (after.faults ≡ s.faults)
      × Halts Full c part s after error)
