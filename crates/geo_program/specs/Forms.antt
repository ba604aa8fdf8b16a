-- What stands in a command and in a statement.
use Rattle.std.specs.Prelude.{ℕ, ◌<◌, codes, Option, Some, None, List, [], ◌∷◌, length, map}
use Rattle.geo_points.specs.declared.ids.PointId.{PointId}
use Rattle.geo_program.specs.declared.commands.Command.{Command}
use Rattle.geo_program.specs.declared.commands.Command.TheVariants.{Point, Param, Line, Parallel, Perp, Med, Intersec, Inter, Foot, Pratio}
use Rattle.geo_program.specs.declared.commands.Command.TheVariants.{Tratio, Online, Lratio, Midpoint, Translate, Symmetric, Reflect}
use Rattle.geo_program.specs.declared.commands.Command.TheVariants.{Circumcenter, Orthocenter, Centroid, Oncircle, Second, Cc, Inverse}
use Rattle.geo_program.specs.declared.commands.Command.TheVariants.{Weights, AssumeDifferent, AssumeNotCollinear, AssumeNotParallel}
use Rattle.geo_program.specs.declared.commands.LineId.{LineId}
use Rattle.geo_program.specs.declared.names.NameKind.{NameKind}
use Rattle.geo_program.specs.declared.names.NameKind.TheVariants as kind
use Rattle.geo_program.specs.declared.statements.Statement.{Statement}
use Rattle.geo_program.specs.declared.statements.Statement.TheVariants as statement
use Rattle.geo_terms.specs.Stores.{Store, tree_of}
use Rattle.geo_terms.specs.Trees.{Tree}

-- what may stand behind a command's new name or a statement's word: a point, a line, a step's number, or a side of an equation in braces
pub data Argument : Type 0 where
  point_argument : PointId → Argument
  line_argument : LineId → Argument
  number_argument : Tree → Argument
  side_argument : Tree → Argument

-- a command's word, the word of the condition that it assumes, if it does, what its new name names, if it has one, how many points its
-- construction adds, and what stands behind
pub record CommandForm : Type 0 where
  pub word : List ℕ
  pub condition : Option (List ℕ)
  pub made : Option NameKind
  pub points : ℕ
  pub arguments : List Argument

-- the form of a command with a new name, by its parts
abbrev pub form : List ℕ → NameKind → ℕ → List Argument → CommandForm
form word named points arguments =
    record { word = word; condition = None; made = Some named; points = points; arguments = arguments }

-- the form of the assumption that the condition with this word holds, which makes nothing
abbrev pub assumption : List ℕ → List PointId → CommandForm
assumption condition points =
    record { word = codes "assume"; condition = Some condition; made = None; points = 0; arguments = map point_argument points }

-- the form of a command, its numbers unfolded to trees
abbrev pub command_form : Store → Command → CommandForm
command_form nodes Point = form (codes "point") kind.Point 1 ([])
command_form nodes Param = form (codes "param") kind.Param 0 ([])
command_form nodes (Line a b) = form (codes "line") kind.Line 0 (point_argument a ∷ point_argument b ∷ [])
command_form nodes (Parallel p b) = form (codes "parallel") kind.Line 1 (point_argument p ∷ line_argument b ∷ [])
command_form nodes (Perp p b) = form (codes "perp") kind.Line 2 (point_argument p ∷ line_argument b ∷ [])
command_form nodes (Med a b) = form (codes "med") kind.Line 2 (point_argument a ∷ point_argument b ∷ [])
command_form nodes (Intersec a b) = form (codes "intersec") kind.Point 1 (line_argument a ∷ line_argument b ∷ [])
command_form nodes (Inter a b c d) =
    form (codes "inter") kind.Point 1 (point_argument a ∷ point_argument b ∷ point_argument c ∷ point_argument d ∷ [])
command_form nodes (Foot p a b) = form (codes "foot") kind.Point 1 (point_argument p ∷ point_argument a ∷ point_argument b ∷ [])
command_form nodes (Pratio w u v r) =
    form (codes "pratio") kind.Point 1 (point_argument w ∷ point_argument u ∷ point_argument v ∷ number_argument (tree_of nodes r) ∷ [])
command_form nodes (Tratio u v r) =
    form (codes "tratio") kind.Point 1 (point_argument u ∷ point_argument v ∷ number_argument (tree_of nodes r) ∷ [])
command_form nodes (Online a b) = form (codes "online") kind.Point 1 (point_argument a ∷ point_argument b ∷ [])
command_form nodes (Lratio a b r) =
    form (codes "lratio") kind.Point 1 (point_argument a ∷ point_argument b ∷ number_argument (tree_of nodes r) ∷ [])
command_form nodes (Midpoint a b) = form (codes "midpoint") kind.Point 1 (point_argument a ∷ point_argument b ∷ [])
command_form nodes (Translate a b c) = form (codes "translate") kind.Point 1 (point_argument a ∷ point_argument b ∷ point_argument c ∷ [])
command_form nodes (Symmetric a o) = form (codes "symmetric") kind.Point 1 (point_argument a ∷ point_argument o ∷ [])
command_form nodes (Reflect a p q) = form (codes "reflect") kind.Point 2 (point_argument a ∷ point_argument p ∷ point_argument q ∷ [])
command_form nodes (Circumcenter a b c) =
    form (codes "circumcenter") kind.Point 5 (point_argument a ∷ point_argument b ∷ point_argument c ∷ [])
command_form nodes (Orthocenter a b c) =
    form (codes "orthocenter") kind.Point 3 (point_argument a ∷ point_argument b ∷ point_argument c ∷ [])
command_form nodes (Centroid a b c) = form (codes "centroid") kind.Point 2 (point_argument a ∷ point_argument b ∷ point_argument c ∷ [])
command_form nodes (Oncircle o a) = form (codes "oncircle") kind.Point 3 (point_argument o ∷ point_argument a ∷ [])
command_form nodes (Second a b o) = form (codes "second") kind.Point 2 (point_argument a ∷ point_argument b ∷ point_argument o ∷ [])
command_form nodes (Cc o p a) = form (codes "cc") kind.Point 2 (point_argument o ∷ point_argument p ∷ point_argument a ∷ [])
command_form nodes (Inverse p o a) = form (codes "inverse") kind.Point 1 (point_argument p ∷ point_argument o ∷ point_argument a ∷ [])
command_form nodes (Weights a b c r s) =
    form (codes "weights") kind.Point 2
    (point_argument a ∷ point_argument b ∷ point_argument c ∷ number_argument (tree_of nodes r) ∷ number_argument (tree_of nodes s) ∷ [])
command_form nodes (AssumeDifferent a b) = assumption (codes "different") (a ∷ b ∷ [])
command_form nodes (AssumeNotCollinear a b c) = assumption (codes "not_collinear") (a ∷ b ∷ c ∷ [])
command_form nodes (AssumeNotParallel a b c d) = assumption (codes "not_parallel") (a ∷ b ∷ c ∷ d ∷ [])

-- a statement's word, and what stands behind it
pub record StatementForm : Type 0 where
  pub word : List ℕ
  pub arguments : List Argument

-- a statement on points
abbrev pub on_points : List ℕ → List PointId → StatementForm
on_points word points = record { word = word; arguments = map point_argument points }

-- the form of a statement, its sides unfolded to trees
abbrev pub statement_form : Store → Statement → StatementForm
statement_form nodes (statement.Equal e f) =
    record { word = codes "equal"; arguments = side_argument (tree_of nodes e) ∷ side_argument (tree_of nodes f) ∷ [] }
statement_form nodes (statement.Collinear a b c) = on_points (codes "collinear") (a ∷ b ∷ c ∷ [])
statement_form nodes (statement.Parallel a b c d) = on_points (codes "parallel") (a ∷ b ∷ c ∷ d ∷ [])
statement_form nodes (statement.Perpendicular a b c d) = on_points (codes "perpendicular") (a ∷ b ∷ c ∷ d ∷ [])
statement_form nodes (statement.Identical a b) = on_points (codes "identical") (a ∷ b ∷ [])
statement_form nodes (statement.Midpoint m a b) = on_points (codes "midpoint") (m ∷ a ∷ b ∷ [])
statement_form nodes (statement.SameLength a b c d) = on_points (codes "same_length") (a ∷ b ∷ c ∷ d ∷ [])
statement_form nodes (statement.Harmonic a b c d) = on_points (codes "harmonic") (a ∷ b ∷ c ∷ d ∷ [])
statement_form nodes (statement.Concyclic a b c d) = on_points (codes "concyclic") (a ∷ b ∷ c ∷ d ∷ [])

-- the command's numbers stand in the store
abbrev pub IsStored : Store → Command → Type 0
IsStored nodes (Pratio w u v r) = r.0 < length nodes
IsStored nodes (Tratio u v r) = r.0 < length nodes
IsStored nodes (Lratio a b r) = r.0 < length nodes
IsStored nodes (Weights a b c r s) = (r.0 < length nodes) × (s.0 < length nodes)
IsStored nodes _ = Unit {0}

-- the statement's sides stand in the store
abbrev pub AreSidesStored : Store → Statement → Type 0
AreSidesStored nodes (statement.Equal e f) = (e.0 < length nodes) × (f.0 < length nodes)
AreSidesStored nodes _ = Unit {0}
