-- Where a log stands behind a line, by what was due there.
use Rattle.std.specs.Prelude.{ℕ, zero, suc, ◌-◌, Option, Some, None, [], ◌∷◌, ◌++◌}
use Rattle.std.specs.List.{cons_option}
use Rattle.geo_poly.specs.declared.variables.Var.{Var}
use Rattle.geo_poly.specs.Polynomials.{Summands}
use Rattle.proof_log.specs.Steps.{polynomial_on}
use Rattle.proof_log.specs.declared.log.Line.{Line}
use Rattle.proof_log.specs.declared.log.Verdict.TheVariants.{Proved, False, Impossible}
use Rattle.geo_logs.specs.Logs.{only_variable}
use Rattle.geo_logs.specs.declared.walk.DueLine.{DueLine}
use Rattle.geo_logs.specs.declared.walk.DueLine.TheVariants as due
use Rattle.geo_logs.specs.declared.walk.Task.{Task}
use Rattle.geo_logs.specs.declared.walk.Task.TheVariants as task
use Rattle.geo_logs.specs.declared.walk.Walk.{Walk}

-- THE NEXT CHAIN
-- what is due where so many goals are worked, and so many are left
abbrev pub goal_due : ℕ → ℕ → DueLine
goal_due worked zero = due.Sample Proved
goal_due worked (suc more) = due.Header (task.Goal (suc worked))

-- the same of conditions, with so many goals behind them
abbrev pub condition_due : ℕ → ℕ → ℕ → DueLine
condition_due goals worked zero = goal_due 0 goals
condition_due goals worked (suc more) = due.Header (task.Condition (suc worked))

-- BEHIND A LINE
-- behind a start: its polynomial, and the variable of which that is a multiple
abbrev pub behind_start : Walk → Task → Option Summands → Walk
behind_start w task (Some q) = record w { due = due.Step task (only_variable q) q }
behind_start w task None = w

-- behind a chain with this end, whose start is a multiple of this variable, if it is one
abbrev pub behind_chain : Walk → Task → Option Var → Summands → Walk
behind_chain w (task.Condition k) own [] = record w { due = due.Verdict (Impossible k) }
behind_chain w (task.Condition k) own (t ∷ q) = record w {
  known = w.known ++ cons_option own [];
  ends = w.ends ++ (t ∷ q) ∷ [];
  due = condition_due w.goals k (w.conditions - k);
}
behind_chain w (task.Goal k) own [] = record w { due = goal_due k (w.goals - k) }
behind_chain w (task.Goal k) own (t ∷ q) = record w { ends = w.ends ++ (t ∷ q) ∷ []; due = due.Sample (False k) }

-- behind a step, which has a polynomial, or behind the end of the chain
abbrev pub behind_step : Walk → Task → Option Var → Summands → Option Summands → Walk
behind_step w task own q (Some r) = record w { due = due.Step task own r }
behind_step w task own q None = behind_chain w task own q

-- behind a line where this is due
abbrev pub behind_due : Walk → DueLine → Line → Walk
behind_due w (due.Header task) line = record w { due = due.Start task }
behind_due w (due.Start task) line = behind_start w task (polynomial_on line)
behind_due w (due.Step task own q) line = behind_step w task own q (polynomial_on line)
behind_due w (due.Sample verdict) line = record w { due = due.Verdict verdict }
behind_due w (due.Verdict verdict) line = record w { due = due.Nothing verdict }
behind_due w (due.Nothing verdict) line = w

-- behind a line that stands where the walk does
abbrev pub behind : Walk → Line → Walk
behind w line = behind_due w w.due line
