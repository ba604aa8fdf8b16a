-- The program of `bench N`: a quadrangle, and N times the quadrangle of the middles of the sides of the one before.
use Rattle.std.specs.Prelude.{◌≡◌, ℕ, zero, suc, ◌+◌, ◌*◌, ◌≤◌, codes, List, [], ◌∷◌, ◌++◌}
use Rattle.std.specs.Fmt.{decimal}
use Rattle.geo_points.specs.declared.ids.PointId.{PointId}
use Rattle.geo_terms.specs.Trees.{Tree, area_leaf}
use Rattle.geo_program.specs.declared.commands.Command.{Command}
use Rattle.geo_program.specs.declared.commands.Command.TheVariants.{Midpoint, Point}
use Rattle.geo_program.specs.declared.names.Name.{Name}
use Rattle.geo_program.specs.declared.names.NameKind.TheVariants as kind
use Rattle.geo_program.specs.Forms.{StatementForm, side_argument, statement_form}
use Rattle.geo_program.specs.declared.program_type.Program.{Program}
use Rattle.geo_program.specs.Programs.{source_of}
use Rattle.geo_program.specs.WellFormed.{Source}

-- the corners A, B, C, D of quadrangle k are the points 4 k, 4 k + 1, 4 k + 2, 4 k + 3
abbrev pub corner : ℕ → ℕ → PointId
corner i k = record { 0 = 4 * k + i }

-- a letter and a number, as the name of a point
abbrev pub numbered_name : ℕ → ℕ → Name
numbered_name letter k = record { text = letter ∷ decimal k; kind = kind.Point }

-- `Ak`, `Bk`, `Ck` and `Dk`
abbrev pub corner_names : ℕ → List Name
corner_names k = numbered_name 65 k ∷ numbered_name 66 k ∷ numbered_name 67 k ∷ numbered_name 68 k ∷ []

-- `midpoint Ak Aj Bj`, `midpoint Bk Bj Cj`, `midpoint Ck Cj Dj` and `midpoint Dk Dj Aj`, where k is the next number after j
abbrev pub middles : ℕ → List Command
middles j =
    Midpoint (corner 0 j) (corner 1 j) ∷ Midpoint (corner 1 j) (corner 2 j) ∷ Midpoint (corner 2 j) (corner 3 j)
    ∷ Midpoint (corner 3 j) (corner 0 j) ∷ []

-- the names of the corners of the quadrangles 0 to n
abbrev pub quadrangle_names : ℕ → List Name
quadrangle_names zero = corner_names 0
quadrangle_names (suc n) = quadrangle_names n ++ corner_names (suc n)

-- the commands that make them, from four free points
abbrev pub quadrangle_commands : ℕ → List Command
quadrangle_commands zero = Point ∷ Point ∷ Point ∷ Point ∷ []
quadrangle_commands (suc n) = quadrangle_commands n ++ middles n

-- `X` and `Y` stand behind them
abbrev pub bench_names : ℕ → List Name
bench_names n =
    quadrangle_names n
    ++ record { text = codes "X"; kind = kind.Point } ∷ record { text = codes "Y"; kind = kind.Point } ∷ []

-- `midpoint X An Cn` and `midpoint Y A1 C1`
abbrev pub bench_commands : ℕ → List Command
bench_commands n =
    quadrangle_commands n ++ Midpoint (corner 0 n) (corner 2 n) ∷ Midpoint (corner 0 1) (corner 2 1) ∷ []

-- X and Y have the numbers of the first two corners of a further quadrangle
abbrev pub x_area : ℕ → Tree
x_area n = area_leaf (corner 0 0) (corner 0 (suc n)) (corner 1 0)

abbrev pub y_area : ℕ → Tree
y_area n = area_leaf (corner 0 0) (corner 1 (suc n)) (corner 1 0)

-- `equal { signed_area3 A0 X B0 } { signed_area3 A0 Y B0 }`
abbrev pub bench_statement : ℕ → StatementForm
bench_statement n = record { word = codes "equal"; arguments = side_argument (x_area n) ∷ side_argument (y_area n) ∷ [] }

-- these are the parts of the program of `bench n`
pub record IsBench (n : ℕ) (p : Source) : Type 0 where
  pub names : p.names ≡ bench_names n
  pub commands : p.commands ≡ bench_commands n
  pub statement : statement_form p.nodes p.statement ≡ bench_statement n

-- each number from 1 to 60 has a program
abbrev pub NumbersHaveAProgram : Type 0
NumbersHaveAProgram = (n : ℕ) → 1 ≤ n → n ≤ 60 → (p : Program) × IsBench n (source_of p)
