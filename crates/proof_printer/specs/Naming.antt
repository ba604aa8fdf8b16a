-- How a readable proof names points, parameters and variables.
use Rattle.std.specs.Prelude.{ℕ, ◌==◌, cond, codes, unwrap_or, Option, Some, None, List, [], ◌∷◌, ◌++◌, map}
use Rattle.std.specs.Fmt.{decimal}
use Rattle.std.specs.List.{join_with_byte}
use Rattle.geo_points.specs.declared.ids.PointId.{PointId}
use Rattle.geo_poly.specs.declared.variables.Var.{Var}
use Rattle.geo_poly.specs.declared.variables.Var.TheVariants.{R, S, P, X, Y, T}
use Rattle.geo_program.specs.declared.names.NameKind.TheVariants as kind
use Rattle.geo_program.specs.Names.{names_of}
use Rattle.geo_program.specs.WellFormed.{Source}
use Rattle.geo_lowering.specs.Counting.{param_places}
use Rattle.geo_lowering.specs.Lowering.{point_places}
use Rattle.geo_lowering.specs.declared.version.Version.{Version}

-- the names of all points and of all parameters of a lowered program, by number
pub record Naming : Type 0 where
  pub point : ℕ → List ℕ
  pub param : ℕ → List ℕ

-- the name of what stands at place n, where it has a name
abbrev pub name_at : List ℕ → List (List ℕ) → ℕ → Option (List ℕ)
name_at (place ∷ places) (name ∷ names) n = cond (place == n) (Some name) (name_at places names n)
name_at _ _ n = None

-- its name; what has none is hidden, and is called by a mark and its number
abbrev pub name_or_number : List ℕ → List ℕ → List (List ℕ) → ℕ → List ℕ
name_or_number mark places names n = unwrap_or (name_at places names n) (mark ++ decimal n)

-- the names of a program in logs of this version: `A`, or `#4` where point 4 is hidden; `r`, or `#t0` where parameter 0 is hidden
abbrev pub naming_of : Version → Source → Naming
naming_of version p = record {
  point = name_or_number (codes "#") (point_places version 0 p.commands) (names_of kind.Point p.names);
  param = name_or_number (codes "#t") (param_places 0 p.commands) (names_of kind.Param p.names);
}

-- points with commas between them
abbrev pub points_text : Naming → List PointId → List ℕ
points_text n points = join_with_byte 44 (map (λ a. n.point a.0) points)

-- `R(A,F;B,F)`, `S(A,B,M)`, `P(A,B,A)`, `x(A)`, `y(A)`, and a parameter by its own name
abbrev pub variable_text : Naming → Var → List ℕ
variable_text n (R a b c d) =
    codes "R(" ++ points_text n (a ∷ b ∷ []) ++ codes ";" ++ points_text n (c ∷ d ∷ []) ++ codes ")"
variable_text n (S a b c) = codes "S(" ++ points_text n (a ∷ b ∷ c ∷ []) ++ codes ")"
variable_text n (P a b c) = codes "P(" ++ points_text n (a ∷ b ∷ c ∷ []) ++ codes ")"
variable_text n (X a) = codes "x(" ++ points_text n (a ∷ []) ++ codes ")"
variable_text n (Y a) = codes "y(" ++ points_text n (a ∷ []) ++ codes ")"
variable_text n (T t) = n.param t.0
