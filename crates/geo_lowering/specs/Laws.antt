-- The laws that stand on the functions of `laws`.
use Rattle.std.specs.Prelude.{◌≡◌, ℕ, ◌+◌, ◌<◌, ◌≤◌, All, List, ◌∷◌, ◌++◌, length, map}
use Rattle.ring_laws.specs.Fraction.{Fraction, Same}
use Rattle.geo_points.specs.Placements.{Placement, SamePlacement}
use Rattle.geo_points.specs.Points.{Point}
use Rattle.geo_points.specs.Steps.{IsAlong}
use Rattle.geo_terms.specs.Constructions.{MeetsSteps}
use Rattle.geo_terms.specs.Stores.{Store}
use Rattle.geo_program.specs.declared.commands.Command.{Command}
use Rattle.geo_program.specs.CanonicalText.{canonical_text}
use Rattle.geo_program.specs.Forms.{command_form}
use Rattle.geo_program.specs.Spelling.{SameSource}
use Rattle.geo_program.specs.WellFormed.{IsWellFormed, Source}
use Rattle.geo_lowering.specs.Building.{forgotten, AreFreesSame, AreMade}
use Rattle.geo_lowering.specs.CommandsMet.{MeetsCommands}
use Rattle.geo_lowering.specs.Conditions.{AreConditionsMet, IsConditionMet, early_conditions}
use Rattle.geo_lowering.specs.Counting.{next_point, numbers_had, points_named}
use Rattle.geo_lowering.specs.Lowering.{Extends, IsLowered, LoweredForm}
use Rattle.geo_lowering.specs.Relations.{IsOnCircle}
use Rattle.geo_lowering.specs.StepForms.{step_form}
use Rattle.geo_lowering.specs.declared.version.Version.{Version}
use Rattle.geo_lowering.specs.declared.version.Version.TheVariants.{One, Two}
use Rattle.geo_points.specs.Vectors.{Differ}

-- every placement that meets the commands of a program and their conditions extends to one that meets all steps
abbrev pub PlacementsExtend : Type 0
PlacementsExtend =
    (version : Version) (p : Source) (l : LoweredForm) (placed : Placement) → IsWellFormed p → IsLowered version p l → MeetsCommands p placed
    → AreConditionsMet p placed 0 p.commands
    → (lowered : Placement) × Extends version p placed lowered × MeetsSteps lowered l.construction

-- every lowered placement that meets all steps extends one that meets the commands
abbrev pub LoweredPlacementsMeetCommands : Type 0
LoweredPlacementsMeetCommands =
    (version : Version) (p : Source) (l : LoweredForm) (lowered : Placement) → IsWellFormed p → IsLowered version p l → MeetsSteps lowered l.construction
    → Extends version p (forgotten version p lowered) lowered × MeetsCommands p (forgotten version p lowered)

-- two placements that meet the commands and their conditions, with the same free points and the same numbers, are the same
abbrev pub FreePointsFixPlacements : Type 0
FreePointsFixPlacements =
    (p : Source) (placed other : Placement) → IsWellFormed p → MeetsCommands p placed → AreConditionsMet p placed 0 p.commands
    → MeetsCommands p other → AreConditionsMet p other 0 p.commands
    → AreFreesSame placed other 0 p.commands → ((k : ℕ) → k < numbers_had p.commands → Same (placed.number k) (other.number k))
    → SamePlacement (points_named p.commands) (numbers_had p.commands) placed other

-- the conditions of each command that do not name its point hold in every placement that is made of the given free points and numbers by
-- the steps of the commands before it
abbrev pub IsReady : Version → Source → Placement → Type 0
IsReady version p given =
    (before rest : List Command) (c : Command) → p.commands ≡ before ++ c ∷ rest
    → (point : ℕ → Point) → let lowered : Placement = record { point = point; number = given.number } in
    AreMade version p given lowered 0 0 0 before → All (IsConditionMet p (forgotten version p lowered)) (early_conditions p.nodes c)

-- then the given free points and numbers have a placement that meets all steps
abbrev pub PlacementsAreMade : Type 0
PlacementsAreMade =
    (version : Version) (p : Source) (l : LoweredForm) (given : Placement) → IsWellFormed p → IsLowered version p l → IsReady version p given
    → (lowered : Placement) × MeetsSteps lowered l.construction × AreFreesSame (forgotten version p lowered) given 0 p.commands
    × (lowered.number ≡ given.number)

-- the points that a command adds are those that its form counts, or in version 2 at most so many
pub record PointsAreCounted : Type 0 where
  pub exact : (nodes : Store) (n : ℕ) (c : Command) → next_point One n c ≡ n + (command_form nodes c).points
  pub most : (nodes : Store) (n : ℕ) (c : Command) → next_point Two n c ≤ n + (command_form nodes c).points

-- a well-formed program whose canonical text has at most 268,435,456 bytes has a lowered form
abbrev pub ProgramsHaveLoweredForms : Type 0
ProgramsHaveLoweredForms = (version : Version) (p : Source) → IsWellFormed p → length (canonical_text p) ≤ 268435456 → (l : LoweredForm) × IsLowered version p l

-- both have the same places and, but for the order of the terms in their stores, the same steps
pub record SameForm (l m : LoweredForm) : Type 0 where
  pub steps : map (step_form l.construction.nodes) l.construction.steps ≡ map (step_form m.construction.nodes) m.construction.steps
  pub numbers : l.construction.params ≡ m.construction.params
  pub points : l.points ≡ m.points
  pub lines : l.lines ≡ m.lines
  pub params : l.params ≡ m.params
  pub after : l.after ≡ m.after

-- a program has one lowered form by each version
abbrev pub LoweredFormsAgree : Type 0
LoweredFormsAgree = (version : Version) (p : Source) (l m : LoweredForm) → IsLowered version p l → IsLowered version p m → SameForm l m

-- programs that are the same, whatever the order of the terms in their stores, have the same lowered forms
abbrev pub SameProgramsLowerAlike : Type 0
SameProgramsLowerAlike = (version : Version) (p q : Source) (l : LoweredForm) → SameSource p q → IsLowered version p l → IsLowered version q l

-- the number of a point on a line, or on a circle, is fixed by the points
pub record OwnNumbersAreFixed : Type 0 where
  pub on_line : (A B X : Point) (s t : Fraction) → Differ A B → IsAlong A A B s X → IsAlong A A B t X → Same s t
  pub on_circle : (O A X : Point) (s t : Fraction) → Differ A X → IsOnCircle X O A s → IsOnCircle X O A t → Same s t
