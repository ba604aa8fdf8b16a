-- One walk over a log: which lines may stand where it stands, and where it leads. Rules say which steps, ends and samples may stand.
use Rattle.std.specs.Prelude.{◌≡◌, ℕ, zero, suc, ◌-◌, ◌⊎◌, ℤ, Option, Some, None, List, [], ◌∷◌, length, slice_get}
use Rattle.geo_poly.specs.declared.variables.Var.{Var}
use Rattle.geo_poly.specs.Polynomials.{Summands}
use Rattle.geo_terms.specs.Constructions.{Construction}
use Rattle.proof_log.specs.declared.log.Line.{Line}
use Rattle.proof_log.specs.declared.log.Line.TheVariants.{Start, End, Sample, Condition as ConditionLine, Goal as GoalLine, Verdict as VerdictLine}
use Rattle.proof_log.specs.declared.log.Verdict.{Verdict}
use Rattle.geo_logs.specs.Behind.{behind, condition_due}
use Rattle.geo_logs.specs.Chains.{ChainStep, IsEnd, LeadsTo, cuts, line_of, moves}
use Rattle.geo_logs.specs.Defined.{LeadsBySteps, NoCutDue}
use Rattle.geo_logs.specs.Logs.{Item, Samples, Subject}
use Rattle.geo_logs.specs.Moves.{Table}
use Rattle.geo_logs.specs.Places.{Place, before_line, before_sample, before_start, in_chain}
use Rattle.geo_logs.specs.Samples.{IsAcceptedSample, IsLeastSample}
use Rattle.geo_logs.specs.Starts.{IsStarted, start_charge, start_of}
use Rattle.geo_logs.specs.declared.walk.DueLine.{DueLine}
use Rattle.geo_logs.specs.declared.walk.DueLine.TheVariants as due
use Rattle.geo_logs.specs.declared.walk.Task.{Task}
use Rattle.geo_logs.specs.declared.walk.Task.TheVariants as task
use Rattle.geo_logs.specs.declared.walk.Walk.{Walk}

-- RULES
-- which steps may stand, with these variables known, so many steps left and this polynomial, and how many are left behind them; at which
-- polynomials a chain may end; and which samples may stand
pub record Rules : Type 1 where
  pub steps : List Var → ℕ → Summands → ChainStep → ℕ → Type 0
  pub ends : List Var → Summands → Type 0
  pub samples : Samples

-- the polynomial after a step
abbrev pub result_of : ChainStep → Summands
result_of (moves move r) = r
result_of (cuts f r) = r

-- the rules of accepted logs
abbrev pub accepting : Table → Construction → Rules
accepting table c = record {
  steps = λ known left q step left'. LeadsTo table c known left q (step ∷ []) left' (result_of step);
  ends = λ known q. IsEnd q;
  samples = IsAcceptedSample c;
}

-- the rules of the prover's log
abbrev pub proving : Table → Construction → Rules
proving table c = record {
  steps = λ known left q step left'. LeadsBySteps table c known left q (step ∷ []) left' (result_of step);
  ends = λ known q. NoCutDue known q × IsEnd q;
  samples = IsLeastSample c;
}

-- CHAINS
-- the condition or goal of a chain
abbrev pub item_of : Subject → Task → Option Item
item_of subject (task.Condition zero) = None
item_of subject (task.Condition (suc i)) = slice_get subject.conditions i
item_of subject (task.Goal zero) = None
item_of subject (task.Goal (suc i)) = slice_get subject.goals i

-- the header of a chain
abbrev pub header_of : Task → Item → Line
header_of (task.Condition k) item = ConditionLine k item.text
header_of (task.Goal k) item = GoalLine k item.text

-- WALKS
module _ (rules : Rules) (subject : Subject) where
  -- the line may stand where this is due, and leaves so many steps
  abbrev pub AllowsWhere : Walk → DueLine → Line → ℕ → Type 0
  AllowsWhere w (due.Header task) line left =
      (item : Item) × (item_of subject task ≡ Some item) × (line ≡ header_of task item) × (left ≡ w.budget.left)
  AllowsWhere w (due.Start task) line left =
      (item : Item) × (item_of subject task ≡ Some item) × IsStarted w.budget.left item.term × (line ≡ Start (start_of item.term))
      × (left ≡ w.budget.left - start_charge item.term)
  AllowsWhere w (due.Step task own q) line left =
      ((step : ChainStep) × rules.steps w.known w.budget.left q step left × (line ≡ line_of step))
      ⊎ (rules.ends w.known q × (line ≡ End) × (left ≡ w.budget.left))
  AllowsWhere w (due.Sample verdict) line left =
      (values : List (Var × ℤ)) × rules.samples w.ends w.budget.left values left × (line ≡ Sample values)
  AllowsWhere w (due.Verdict verdict) line left = (line ≡ VerdictLine verdict) × (left ≡ w.budget.left)
  AllowsWhere w (due.Nothing verdict) line left = ⊥

  -- the line may stand where the walk does, and leaves so many steps
  abbrev pub Allows : Walk → Line → ℕ → Type 0
  Allows w line left = AllowsWhere w w.due line left

  -- the walk goes on with the line
  pub record Goes (w : Walk) (line : Line) (w' : Walk) : Type 0 where
    pub left : ℕ
    pub allows : Allows w line left
    pub stands : w' ≡ behind (record w { budget = record { left = left } }) line

  -- the walk goes on with these lines
  abbrev pub Walks : Walk → List Line → Walk → Type 0
  Walks w [] w' = w ≡ w'
  Walks w (line ∷ lines) w' = (v : Walk) × Goes w line v × Walks v lines w'

-- before the first chain
abbrev pub first_walk : Subject → ℕ → Walk
first_walk subject steps = record {
  conditions = length subject.conditions;
  goals = length subject.goals;
  known = [];
  ends = [];
  budget = record { left = steps };
  due = condition_due (length subject.goals) 0 (length subject.conditions);
}

-- the lines behind the program are a whole log with this verdict
pub record IsWalked (rules : Rules) (subject : Subject) (steps : ℕ) (lines : List Line) (verdict : Verdict) (left : ℕ) : Type 0 where
  pub last : Walk
  pub walks : Walks rules subject (first_walk subject steps) lines last
  pub over : last.due ≡ due.Nothing verdict
  pub leaves : last.budget.left ≡ left

-- PLACES
-- the walk stands at the place where this is due
abbrev pub StandsWhere : Subject → Walk → DueLine → Place → Type 0
StandsWhere subject w (due.Header task) place =
    (item : Item) × (item_of subject task ≡ Some item) × (place ≡ before_line (header_of task item))
StandsWhere subject w (due.Start task) place =
    (item : Item) × (item_of subject task ≡ Some item) × (place ≡ before_start w.budget.left item.term)
StandsWhere subject w (due.Step task own q) place = place ≡ in_chain w.known w.budget.left q
StandsWhere subject w (due.Sample verdict) place = place ≡ before_sample w.ends w.budget.left
StandsWhere subject w (due.Verdict verdict) place = place ≡ before_line (VerdictLine verdict)
StandsWhere subject w (due.Nothing verdict) place = ⊥

-- the walk stands at the place
abbrev pub StandsAt : Subject → Walk → Place → Type 0
StandsAt subject w place = StandsWhere subject w w.due place
