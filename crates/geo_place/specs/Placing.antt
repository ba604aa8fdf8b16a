-- What a call of `place` answers, and the text of its answer.
use Rattle.std.specs.Prelude.{◌≡◌, ◌↔◌, ℕ, suc, ◌+◌, ◌*◌, ◌<◌, ◌≤◌, ◌^◌, ◌≤ℤ◌, unsigned_abs, IsTrue, Some, Result, Ok, Err, ℤ, pos, codes, List, [], ◌∷◌, ◌++◌, length, map, slice_get, if◌then◌else◌}
use Rattle.std.specs.Fmt.{signed_decimal}
use Rattle.std.specs.List.{flat_map, join_with_byte}
use Rattle.geo_points.specs.Placements.{Placement, SamePlacement}
use Rattle.geo_points.specs.Points.{Point}
use Rattle.geo_program.specs.declared.commands.Command.{Command}
use Rattle.geo_program.specs.declared.names.NameKind.TheVariants as kind
use Rattle.geo_program.specs.Names.{names_of}
use Rattle.geo_program.specs.WellFormed.{Source}
use Rattle.geo_lowering.specs.Building.{forgotten}
use Rattle.geo_lowering.specs.Counting.{gathered, named, numbers_had, points_named}
use Rattle.geo_lowering.specs.declared.version.Version.TheVariants.{Two}
use Rattle.geo_conditions.specs.Truth.{HasValues, Holds, Meets, ProgramValues, free_points}
use Rattle.geo_place.specs.declared.placed.At.{At}
use Rattle.geo_place.specs.declared.placed.Placed.{Placed}
use Rattle.geo_place.specs.declared.errors.PlaceError.{PlaceError}
use Rattle.geo_place.specs.declared.errors.PlaceError.TheVariants.{NoMemory, TooLarge, Unmet}
use Rattle.geo_place.specs.Evaluation.{EndsAs, IsLeast, IsReckoned, placed_all, too_large, unmet}

-- VALUES
-- how many whole numbers are the values of a program: two for each free point, and one for each number
abbrev pub values_wanted : Source → ℕ
values_wanted p = 2 * length (free_points 0 p.commands) + numbers_had p.commands

-- PLACEMENTS
-- the placement has the values and meets the program, and every other that does is the same
pub record IsOnlyPlacement (p : Source) (v : ProgramValues) (placed : Placement) : Type 0 where
  pub has : HasValues p placed v
  pub meets : Meets p placed
  pub unique : (other : Placement) → HasValues p other v → Meets p other
      → SamePlacement (points_named p.commands) (numbers_had p.commands) placed other

-- the lines of the commands that name points, where the first command's is `line`
abbrev pub point_lines : ℕ → List Command → List ℕ
point_lines line [] = []
point_lines line (c ∷ cs) = gathered kind.Point (named c) line (point_lines (suc line) cs)

-- the point is told: its triple, with the least w
pub record IsPointTold (a : At) (A : Point) : Type 0 where
  pub x : a.x ≡ A.x
  pub y : a.y ≡ A.y
  pub w : a.w ≡ pos A.w
  pub least : IsLeast A

-- the points of the program's placement are told in order, with their names and the lines of their commands
pub record AreTold (p : Source) (placed : Placement) (points : List At) : Type 0 where
  pub names : map (λ a. a.name) points ≡ names_of kind.Point p.names
  pub lines : map (λ a. a.line) points ≡ point_lines 1 p.commands
  pub triples : (k : ℕ) (a : At) → slice_get points k ≡ Some a → IsPointTold a (placed.point k)

-- ANSWERS
-- evaluation places all points: these are they, they are the one placement with the values that meets the program, and `holds` tells
-- whether the statement holds in it
pub record Places (p : Source) (v : ProgramValues) (answer : Placed) : Type 0 where
  pub reckoned : Placement
  pub is_reckoned : IsReckoned p v reckoned
  pub ends : EndsAs p reckoned (placed_all answer.holds)
  pub told : AreTold p (forgotten Two p reckoned) answer.points
  pub only : IsOnlyPlacement p v (forgotten Two p reckoned)
  pub holds : IsTrue answer.holds ↔ Holds p (forgotten Two p reckoned)

-- evaluation ends at the k-th condition, and no placement with the values meets the program
pub record PlacesNothing (p : Source) (v : ProgramValues) (k : ℕ) : Type 0 where
  pub reckoned : Placement
  pub is_reckoned : IsReckoned p v reckoned
  pub ends : EndsAs p reckoned (unmet k)
  pub none : (placed : Placement) → HasValues p placed v → Meets p placed → ⊥

-- evaluation ends at this line, where a number is too large
pub record ReckonsTooLarge (p : Source) (v : ProgramValues) (line : ℕ) : Type 0 where
  pub reckoned : Placement
  pub is_reckoned : IsReckoned p v reckoned
  pub ends : EndsAs p reckoned (too_large line)

-- what is answered for the values
abbrev pub AnswersValues : Source → ProgramValues → Result Placed PlaceError → Type 0
AnswersValues p v (Ok answer) = Places p v answer
AnswersValues p v (Err (Unmet k)) = PlacesNothing p v k
AnswersValues p v (Err (TooLarge line)) = ReckonsTooLarge p v line
AnswersValues p v (Err NoMemory) = Unit {0}

-- the point can be drawn: w is at least 1, no number is the least of 128 bits, and the name is not empty
pub record IsDrawable (a : At) : Type 0 where
  pub w : pos 1 ≤ℤ a.w
  pub short_x : unsigned_abs a.x < 2 ^ 127
  pub short_y : unsigned_abs a.y < 2 ^ 127
  pub named : 1 ≤ length a.name

-- TEXTS
-- `NAME x y w`
abbrev pub at_text : At → List ℕ
at_text a = join_with_byte 32 (a.name ∷ signed_decimal a.x ∷ signed_decimal a.y ∷ signed_decimal a.w ∷ []) ++ 10 ∷ []

-- the points, a line each, and then whether the statement holds
abbrev pub points_text : Placed → List ℕ
points_text placed = flat_map at_text placed.points ++ (if placed.holds then codes "holds" else codes "fails") ++ 10 ∷ []
