-- What the number of a verdict names: the goal that fails, or the condition that is never met.
use Rattle.std.specs.Prelude.{◌≡◌, ℕ, suc, ◌-◌, All, List, [], ◌∷◌, ◌++◌, length, take}
use Rattle.geo_points.specs.Placements.{Placement}
use Rattle.geo_program.specs.declared.commands.Command.{Command}
use Rattle.geo_program.specs.declared.statements.Statement.{Statement}
use Rattle.geo_program.specs.WellFormed.{Source}
use Rattle.geo_lowering.specs.CommandsMet.{AreCommandsMet}
use Rattle.geo_lowering.specs.Conditions.{IsConditionMet, late_conditions}
use Rattle.geo_lowering.specs.Counting.{points_named}
use Rattle.geo_conditions.specs.Lists.{AreConditions, AreGoals, Found}
use Rattle.geo_conditions.specs.Statements.{StatementHolds}
use Rattle.geo_conditions.specs.Truth.{HasValues, Meets, ProgramValues}

-- GOALS
-- the goal with this number, counted from 1, is the first of the program's list that fails: those before it hold in every placement that
-- meets the program, and it holds in none with these values that meets the program
pub record FailsAt (p : Source) (v : ProgramValues) (number : ℕ) : Type 0 where
  pub before : List Statement
  pub goal : Statement
  pub after : List Statement
  pub listed : AreGoals p (before ++ goal ∷ after)
  pub place : number ≡ suc (length before)
  pub hold : (placed : Placement) → Meets p placed → All (StatementHolds p placed) before
  pub fails : (placed : Placement) → HasValues p placed v → Meets p placed → StatementHolds p placed goal → ⊥

-- CONDITIONS
-- the condition is on the point that the command of its line makes
pub record IsOnOwnPoint (p : Source) (f : Found) : Type 0 where
  pub before : List Command
  pub command : Command
  pub after : List Command
  pub whole : p.commands ≡ before ++ command ∷ after
  pub line : f.line ≡ suc (length before)
  pub late : late_conditions (record { 0 = points_named before }) command ≡ f.condition ∷ []

-- the placement meets what stands before a condition: the commands of the lines above its own, and the command of its line where it is on the
-- point that this makes; and the conditions listed before it
pub record MeetsBefore (p : Source) (placed : Placement) (before : List Found) (f : Found) : Type 0 where
  pub above : AreCommandsMet p placed 0 0 (take (f.line - 1) p.commands)
  pub own : IsOnOwnPoint p f → AreCommandsMet p placed 0 0 (take f.line p.commands)
  pub conditions : All (λ g. IsConditionMet p placed g.condition) before

-- the condition with this number, counted from 1 in the program's list, holds in no placement that meets what stands before it
pub record HoldsNowhere (p : Source) (number : ℕ) : Type 0 where
  pub before : List Found
  pub found : Found
  pub after : List Found
  pub listed : AreConditions p (before ++ found ∷ after)
  pub place : number ≡ suc (length before)
  pub never : (placed : Placement) → MeetsBefore p placed before found → IsConditionMet p placed found.condition → ⊥
