-- What the goals of a citation say, and what an instance shows.
use Rattle.std.specs.Prelude.{◌≡◌, false, pos, All, List, ℕ}
use Rattle.ring_laws.specs.Fraction.{Fraction, Same, whole}
use Rattle.geo_points.specs.declared.ids.PointId.{PointId}
use Rattle.geo_points.specs.Placements.{Placement}
use Rattle.geo_terms.specs.Constructions.{MeetsSteps}
use Rattle.geo_terms.specs.Trees.{Tree}
use Rattle.geo_terms.specs.Values.{HasTreeValue, tree_value}
use Rattle.geo_program.specs.declared.commands.Command.{Command}
use Rattle.geo_program.specs.WellFormed.{IsWellFormed, Source}
use Rattle.geo_lowering.specs.CommandsMet.{IsCommandMet, reading}
use Rattle.geo_lowering.specs.Conditions.{IsConditionMet, command_conditions}
use Rattle.geo_lowering.specs.Lowering.{IsLowered, LoweredForm, layout_of, renamed}
use Rattle.geo_lowering.specs.declared.version.Version.{Version}
use Rattle.geo_conditions.specs.Terms.{HasZeroValue}
use Rattle.geo_conditions.specs.Truth.{Holds, Meets}
use Rattle.geo_library.specs.CitedGoals.{command_goals, has_lines}
use Rattle.geo_library.specs.Instances.{IsInstance}

-- a command that has no lines is met where its conditions hold and its goals are 0, if it has a number by some number
abbrev pub GoalsMakeCommandsMet : Type 0
GoalsMakeCommandsMet =
    (p : Source) (placed : Placement) (x : PointId) (c : Command) → has_lines c ≡ false
    → All (IsConditionMet p placed) (command_conditions p.nodes x c) → All (HasZeroValue (reading p placed)) (command_goals p.nodes x c)
    → (t : Fraction) × IsCommandMet p placed (placed.point x.0) t c

-- in every lowered placement that meets the steps, the lowered term is 0 wherever it has a value
abbrev pub IsZeroOver : Version → Source → LoweredForm → Tree → Type 0
IsZeroOver version q l e =
    (lowered : Placement) → MeetsSteps lowered l.construction → HasTreeValue lowered (renamed (layout_of version q.commands) e)
    → Same (tree_value lowered (renamed (layout_of version q.commands) e)) (whole (pos 0))

-- where the cited statement holds in every placement that meets the cited program, the statement of an instance whose goals are 0 so holds
-- in every placement that meets the instance
abbrev pub ZeroGoalsCite : Type 0
ZeroGoalsCite =
    (version : Version) (p q : Source) (l : LoweredForm) (texts : List (List ℕ)) → IsWellFormed p → IsWellFormed q → IsLowered version q l
    → ((placed : Placement) → Meets p placed → Holds p placed) → IsInstance (IsZeroOver version q l) p q texts
    → (placed : Placement) → Meets q placed → Holds q placed
