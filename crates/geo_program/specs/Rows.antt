-- The commands of the language, each told once: its word, what its new name names, how many points its construction makes, and what stands
-- behind the name.
use Rattle.std.specs.Prelude.{ℕ, codes, List, [], ◌∷◌}
use Rattle.geo_program.specs.declared.names.NameKind.{NameKind}
use Rattle.geo_program.specs.declared.names.NameKind.TheVariants.{Point, Param, Line}

-- a point, a line, a step's number, or a side of an equation
pub data ArgumentKind : Type 0 where
  point_kind line_kind number_kind side_kind : ArgumentKind

pub record CommandRow : Type 0 where
  pub word : List ℕ
  pub made : NameKind
  pub points : ℕ
  pub arguments : List ArgumentKind

abbrev row : List ℕ → NameKind → ℕ → List ArgumentKind → CommandRow
row word made points arguments = record { word = word; made = made; points = points; arguments = arguments }

-- so many points
abbrev two : List ArgumentKind
two = point_kind ∷ point_kind ∷ []

abbrev three : List ArgumentKind
three = point_kind ∷ two

abbrev four : List ArgumentKind
four = point_kind ∷ three

-- the commands that have a new name
abbrev pub command_rows : List CommandRow
command_rows =
    row (codes "point") Point 1 []
    ∷ row (codes "param") Param 0 []
    ∷ row (codes "line") Line 0 two
    ∷ row (codes "parallel") Line 1 (point_kind ∷ line_kind ∷ [])
    ∷ row (codes "perp") Line 2 (point_kind ∷ line_kind ∷ [])
    ∷ row (codes "med") Line 2 two
    ∷ row (codes "intersec") Point 1 (line_kind ∷ line_kind ∷ [])
    ∷ row (codes "inter") Point 1 four
    ∷ row (codes "foot") Point 1 three
    ∷ row (codes "pratio") Point 1 (point_kind ∷ point_kind ∷ point_kind ∷ number_kind ∷ [])
    ∷ row (codes "tratio") Point 1 (point_kind ∷ point_kind ∷ number_kind ∷ [])
    ∷ row (codes "online") Point 1 two
    ∷ row (codes "lratio") Point 1 (point_kind ∷ point_kind ∷ number_kind ∷ [])
    ∷ row (codes "midpoint") Point 1 two
    ∷ row (codes "translate") Point 1 three
    ∷ row (codes "symmetric") Point 1 two
    ∷ row (codes "reflect") Point 2 three
    ∷ row (codes "circumcenter") Point 5 three
    ∷ row (codes "orthocenter") Point 3 three
    ∷ row (codes "centroid") Point 2 three
    ∷ row (codes "oncircle") Point 3 two
    ∷ row (codes "second") Point 2 three
    ∷ row (codes "cc") Point 2 three
    ∷ row (codes "inverse") Point 1 three
    ∷ row (codes "weights") Point 2 (point_kind ∷ point_kind ∷ point_kind ∷ number_kind ∷ number_kind ∷ [])
    ∷ []

-- the conditions that may be assumed: the word, and what stands behind it
abbrev pub condition_rows : List (List ℕ × List ArgumentKind)
condition_rows = (codes "different", two) ∷ (codes "not_collinear", three) ∷ (codes "not_parallel", four) ∷ []
