-- What a checker stands for: the lines that it has taken, and what they leave.
use Rattle.std.specs.Prelude.{◌≡◌, ◌≢◌, ℕ, suc, ◌<◌, ◌≤◌, Option, Some, None, List, [], ◌∷◌, ◌++◌, length, map, slice_get, drop}
use Rattle.std.specs.List.{flat_map}
use Rattle.geo_poly.specs.declared.variables.Var.{Var}
use Rattle.geo_poly.specs.Polynomials.{Summands}
use Rattle.geo_terms.specs.Stores.{tree_of}
use Rattle.geo_program.specs.Programs.{source_of}
use Rattle.geo_program.specs.WellFormed.{IsWellFormed}
use Rattle.geo_conditions.specs.declared.problem.Problem.{Problem}
use Rattle.geo_conditions.specs.Lists.{IsProblem, item_form}
use Rattle.geo_conditions.specs.Problems.{form_of_problem}
use Rattle.proof_log.specs.declared.log.Line.{Line}
use Rattle.proof_log.specs.declared.log.Line.TheVariants.{Header, Program as ProgramLine, Condition as ConditionLine, Goal as GoalLine, Verdict as VerdictLine}
use Rattle.proof_log.specs.declared.log.Verdict.{Verdict}
use Rattle.proof_log.specs.Lines.{line_text}
use Rattle.proof_log.specs.Writable.{AllWritable}
use Rattle.elim_apply.specs.LemmaTable.{lemma_table}
use Rattle.geo_logs.specs.Chains.{IsAcceptedChain, LeadsTo}
use Rattle.geo_logs.specs.Judging.{IsGoodSoFar}
use Rattle.geo_logs.specs.Logs.{AreConditionsWorked, AreGoalsWorked, IsConcluded, Item, Subject, only_variable}
use Rattle.geo_logs.specs.Places.{AreConditionsBegun, AreGoalsBegun, IsBegunEnd, IsOpenChain, Place, before_line, first_lines, in_chain}
use Rattle.geo_logs.specs.Samples.{IsAcceptedSample}
use Rattle.geo_logs.specs.Starts.{start_of}
use Rattle.log_checker.specs.Judged.{IsProgramOver}
use Rattle.log_checker.specs.Subjects.{log_item, source_lines, version_number}
use Rattle.log_checker.specs.declared.due.Due.{Due}
use Rattle.log_checker.specs.declared.due.Due.TheVariants as due
use Rattle.log_checker.specs.declared.due.Task.{Task}
use Rattle.log_checker.specs.declared.due.Task.TheVariants as task
use Rattle.log_checker.specs.declared.errors.CheckError.{CheckError}
use Rattle.log_checker.specs.declared.evidence.Evidence.{Evidence}
use Rattle.log_checker.specs.declared.state.State.{State}
use Rattle.log_checker.specs.declared.state.State.TheVariants as state
use Rattle.log_checker.specs.declared.work.Work.{Work}

-- THE SUBJECT
-- the head of a log: its version, and the lines of its program
abbrev pub Head : Type 0
Head = ℕ × List (List ℕ)

-- what the logs of a problem are about that have this head
abbrev pub subject_of : Head → Problem → Subject
subject_of head q = record {
  version = head.0;
  program = head.1;
  construction = q.steps;
  conditions = map (λ i. log_item (item_form q.steps.nodes i)) q.conditions;
  goals = map (λ i. log_item (item_form q.steps.nodes i)) q.goals;
}

-- BEHIND GOOD LINES, where these variables are known, these ends are listed and so many steps are left, is due:
module _ (subject : Subject) (steps : ℕ) where
  -- the lines behind the program are a whole log
  abbrev pub IsWhole : List Line → Verdict → ℕ → Type 0
  IsWhole lines verdict left =
      let c = subject.construction in
      AreConditionsWorked (IsAcceptedChain lemma_table c) (IsAcceptedSample c)
      subject.goals [] [] 1 steps subject.conditions lines verdict left

  -- the chain of the condition at this index: what begins or ends from there on begins or ends the log
  pub record AreConditionsDue (good : List Line) (known : List Var) (listed : List Summands) (left index : ℕ) : Type 0 where
    pub begun : let c = subject.construction in (more : List Line) (place : Place)
        → AreConditionsBegun (LeadsTo lemma_table c) (IsAcceptedChain lemma_table c) (IsAcceptedSample c)
        subject.goals known listed (suc index) left (drop index subject.conditions) more place
        → IsGoodSoFar lemma_table subject steps (good ++ more) place
    pub worked : let c = subject.construction in (more : List Line) (verdict : Verdict) (left' : ℕ)
        → AreConditionsWorked (IsAcceptedChain lemma_table c) (IsAcceptedSample c)
        subject.goals known listed (suc index) left (drop index subject.conditions) more verdict left'
        → IsWhole (good ++ more) verdict left'

  -- the chain of the goal at this index
  pub record AreGoalsDue (good : List Line) (known : List Var) (listed : List Summands) (left index : ℕ) : Type 0 where
    pub begun : let c = subject.construction in (more : List Line) (place : Place)
        → AreGoalsBegun (LeadsTo lemma_table c) (IsAcceptedChain lemma_table c) (IsAcceptedSample c)
        known listed (suc index) left (drop index subject.goals) more place
        → IsGoodSoFar lemma_table subject steps (good ++ more) place
    pub worked : let c = subject.construction in (more : List Line) (verdict : Verdict) (left' : ℕ)
        → AreGoalsWorked (IsAcceptedChain lemma_table c) (IsAcceptedSample c)
        known listed (suc index) left (drop index subject.goals) more verdict left'
        → IsWhole (good ++ more) verdict left'

  -- a sample, and then this verdict
  pub record IsSampleDue (good : List Line) (listed : List Summands) (verdict : Verdict) (left : ℕ) : Type 0 where
    pub begun : let c = subject.construction in (more : List Line) (place : Place)
        → IsBegunEnd (LeadsTo lemma_table c) (IsAcceptedChain lemma_table c) (IsAcceptedSample c) listed verdict left more place
        → IsGoodSoFar lemma_table subject steps (good ++ more) place
    pub worked : let c = subject.construction in (more : List Line) (left' : ℕ)
        → IsConcluded (IsAcceptedChain lemma_table c) (IsAcceptedSample c) listed left more verdict left'
        → IsWhole (good ++ more) verdict left'

  -- this verdict
  pub record IsVerdictDue (good : List Line) (verdict : Verdict) (left : ℕ) : Type 0 where
    pub stands : IsGoodSoFar lemma_table subject steps good (before_line (VerdictLine verdict))
    pub whole : IsWhole (good ++ VerdictLine verdict ∷ []) verdict left

  -- the header of a chain
  abbrev pub header_of : Task → Item → Line
  header_of (task.Condition k) item = ConditionLine k item.text
  header_of (task.Goal k) item = GoalLine k item.text

  -- the chain of this item
  abbrev pub IsTaskDue : List Line → List Var → List Summands → ℕ → Task → Item → Type 0
  IsTaskDue good known listed left (task.Condition k) item =
      (index : ℕ) × (k ≡ suc index) × (slice_get subject.conditions index ≡ Some item) × AreConditionsDue good known listed left index
  IsTaskDue good known listed left (task.Goal k) item =
      (index : ℕ) × (k ≡ suc index) × (slice_get subject.goals index ≡ Some item) × AreGoalsDue good known listed left index

  -- the start of the chain whose header is the last line
  pub record IsStartDue (good : List Line) (known : List Var) (listed : List Summands) (left : ℕ) (task : Task) : Type 0 where
    pub before : List Line
    pub item : Item
    pub due : IsTaskDue before known listed left task item
    pub split : good ≡ before ++ header_of task item ∷ []

  -- a line of the chain, after the polynomial; where its start is a multiple of one variable, this is `own`
  pub record IsStepDue (good : List Line) (known : List Var) (listed : List Summands) (left : ℕ) (task : Task)
      (own : Option Var) (q : Summands) : Type 0 where
    pub before : List Line
    pub lines : List Line
    pub item : Item
    pub first : ℕ
    pub due : IsTaskDue before known listed first task item
    pub open_chain : let c = subject.construction in
        IsOpenChain (LeadsTo lemma_table c) (IsAcceptedChain lemma_table c) (IsAcceptedSample c)
        (header_of task item) known first item.term lines (in_chain known left q)
    pub split : good ≡ before ++ lines
    pub alone : own ≡ only_variable (start_of item.term)

  -- what the code says to be due
  abbrev pub IsDue : Evidence → Due → List Line → Type 0
  IsDue e (due.Condition index) good =
      (index < length subject.conditions) × AreConditionsDue good e.known e.ends e.budget.left index
  IsDue e (due.Goal index) good = (index < length subject.goals) × AreGoalsDue good e.known e.ends e.budget.left index
  IsDue e (due.Start task term) good =
      (start : IsStartDue good e.known e.ends e.budget.left task) × (term.0 < length subject.construction.nodes)
      × (tree_of subject.construction.nodes term ≡ start.item.term)
  IsDue e (due.Step task own q) good = IsStepDue good e.known e.ends e.budget.left task own q
  IsDue e (due.Sample verdict) good = IsSampleDue good e.ends verdict e.budget.left
  IsDue e (due.Verdict verdict) good = IsVerdictDue good verdict e.budget.left
  IsDue e (due.Nothing verdict) good = IsWhole good verdict e.budget.left

-- STATES
-- the head of the log in work
abbrev pub head_of : Work → Head
head_of w = (version_number w.version, source_lines (source_of w.program))

-- the problem is that of the well-formed program, by the version of the log, and behind these lines is due what the code says
pub record IsAtWork (w : Work) (steps : ℕ) (good : List Line) : Type 0 where
  pub well_formed : IsWellFormed (source_of w.program)
  pub problem : IsProblem w.version (source_of w.program) (form_of_problem w.problem) w.problem.conditions w.problem.goals
  pub is_due : IsDue (subject_of (head_of w) w.problem) steps w.evidence w.due good

-- pieces, each with a line feed
abbrev pub with_feeds : List (List ℕ) → List ℕ
with_feeds pieces = flat_map (λ piece. piece ++ 10 ∷ []) pieces

-- the state is what these lines leave: none; the header and lines of a program; lines behind the program
abbrev pub IsLeftBy : ℕ → State → List Line → Type 0
IsLeftBy steps state.Empty lines = lines ≡ []
IsLeftBy steps (state.Program version text) lines =
    (texts : List (List ℕ)) × (lines ≡ Header (version_number version) ∷ map ProgramLine texts) × (text.items ≡ with_feeds texts)
IsLeftBy steps (state.Work w) lines =
    (good : List Line) × (lines ≡ first_lines (subject_of (head_of w) w.problem) ++ good)
    × (good ≢ []) × IsProgramOver (map Some good) × IsAtWork w steps good
IsLeftBy steps (state.Failed error) lines = ⊥

-- CHECKERS
-- what contracts see of a checker: the steps that it was given, the bytes and lines that it has taken, and its state
pub record CheckerValue : Type 0 where
  pub steps : ℕ
  pub taken : ℕ
  pub lines : ℕ
  pub state : State

-- the error of a failed state
abbrev pub failure_of : State → Option CheckError
failure_of (state.Failed error) = Some error
failure_of _ = None

-- the error after which it answers nothing else
abbrev pub error_of : CheckerValue → Option CheckError
error_of checker = failure_of checker.state

-- it has taken these pieces, each with a line feed: they are the texts of lines, which leave what it keeps
pub record StandsFor (checker : CheckerValue) (pieces : List (List ℕ)) : Type 0 where
  pub lines : List Line
  pub writable : AllWritable lines
  pub texts : pieces ≡ map line_text lines
  pub taken : checker.taken ≡ length (with_feeds pieces)
  pub counted : checker.lines ≡ length pieces
  pub left : IsLeftBy checker.steps checker.state lines

-- what each checker keeps: it has not more lines than bytes; and it has failed, or it stands for some pieces
pub record IsSound (checker : CheckerValue) : Type 0 where
  pub few : checker.lines ≤ checker.taken
  pub stands : error_of checker ≡ None → (pieces : List (List ℕ)) × StandsFor checker pieces
