-- Truth of programs over placements. Nothing here knows a step, a polynomial, a lemma or a log.
use Rattle.std.specs.Prelude.{◌≡◌, ℕ, ◌<◌, Bool, true, false, All, ℤ, pos, List, [], ◌∷◌, ◌++◌, length, slice_index_or}
use Rattle.std.specs.List.{flat_map}
use Rattle.std.proofs.Common.{lit<}
use Rattle.ring_laws.specs.Fraction.{Same, whole}
use Rattle.geo_points.specs.Placements.{Placement, SamePlacement, SamePoint}
use Rattle.geo_points.specs.Points.{Point as Triple}
use Rattle.geo_program.specs.declared.commands.Command.{Command}
use Rattle.geo_program.specs.declared.commands.Command.TheVariants.{Point}
use Rattle.geo_program.specs.declared.names.NameKind.TheVariants as kind
use Rattle.geo_program.specs.WellFormed.{Source}
use Rattle.geo_lowering.specs.CommandsMet.{MeetsCommands}
use Rattle.geo_lowering.specs.Conditions.{IsConditionMet}
use Rattle.geo_lowering.specs.Counting.{named, counted, numbers_had, points_named}
use Rattle.geo_conditions.specs.Lists.{all_found}
use Rattle.geo_conditions.specs.Statements.{StatementHolds}

-- the placement meets the program: each command, and each condition that the program gives
pub record Meets (p : Source) (placed : Placement) : Type 0 where
  pub commands : MeetsCommands p placed
  pub conditions : All (λ f. IsConditionMet p placed f.condition) (all_found p)

-- the program's statement holds
abbrev pub Holds : Source → Placement → Type 0
Holds p placed = StatementHolds p placed p.statement

-- the program is true: some placement meets it, and the statement holds in every placement that meets it
pub record IsTrueProgram (p : Source) : Type 0 where
  pub placed : Placement
  pub meets : Meets p placed
  pub holds : (other : Placement) → Meets p other → Holds p other

-- no placement meets the program
abbrev pub IsImpossible : Source → Type 0
IsImpossible p = (placed : Placement) → Meets p placed → ⊥

-- VALUES
-- whole numbers for a program: x and y for each `point` command in order, and one number for each command that has a number, in order
pub record ProgramValues : Type 0 where
  pub coordinates : List (ℤ × ℤ)
  pub numbers : List ℤ

-- the values of a program, one after another
abbrev pub integers_of : ProgramValues → List ℤ
integers_of v = flat_map (λ xy. xy.0 ∷ xy.1 ∷ []) v.coordinates ++ v.numbers

-- the command is `point`
abbrev pub is_free : Command → Bool
is_free Point = true
is_free _ = false

-- the numbers of the free points of the commands, whose points begin at x
abbrev pub free_points : ℕ → List Command → List ℕ
free_points x [] = []
free_points x (c ∷ cs) =
    elim (is_free c) [
      | true ↦ x ∷ free_points (counted kind.Point (named c) x) cs
      | false ↦ free_points (counted kind.Point (named c) x) cs
    ]

-- the point (x, y)
abbrev pub whole_point : ℤ × ℤ → Triple
whole_point xy = record { x = xy.0; y = xy.1; w = 1; positive = lit< tt }

-- the placement of the program has these values
pub record HasValues (p : Source) (placed : Placement) (v : ProgramValues) : Type 0 where
  pub points : length v.coordinates ≡ length (free_points 0 p.commands)
  pub numbers : length v.numbers ≡ numbers_had p.commands
  pub same_points : (k : ℕ) → k < length v.coordinates
      → SamePoint (placed.point (slice_index_or (free_points 0 p.commands) k 0))
      (whole_point (slice_index_or v.coordinates k (pos 0, pos 0)))
  pub same_numbers : (k : ℕ) → k < length v.numbers → Same (placed.number k) (whole (slice_index_or v.numbers k (pos 0)))

-- the values break the program: some placement with these values meets it, every two such placements are the same, and the
-- statement does not hold in them
pub record Breaks (p : Source) (v : ProgramValues) : Type 0 where
  pub placed : Placement
  pub has : HasValues p placed v
  pub meets : Meets p placed
  pub unique : (one other : Placement) → HasValues p one v → Meets p one → HasValues p other v → Meets p other
      → SamePlacement (points_named p.commands) (numbers_had p.commands) one other
  pub fails : (other : Placement) → HasValues p other v → Meets p other → Holds p other → ⊥
