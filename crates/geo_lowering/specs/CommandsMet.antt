-- Where a placement meets the commands of a program. Nothing here knows a step or a hidden point.
--
-- A placement of a program gives a triple to each point that a command names, and a fraction to each command that has a
-- number: `param`, `online` and `oncircle`, counted together.
use Rattle.std.specs.Prelude.{ℕ, List, [], ◌∷◌, ◌++◌, fold}
use Rattle.ring_laws.specs.Fraction.{Fraction}
use Rattle.geo_points.specs.Placements.{Placement}
use Rattle.geo_points.specs.Points.{Point as Triple}
use Rattle.geo_points.specs.Steps.{IsAlong, IsTurned, IsWeighted}
use Rattle.geo_terms.specs.Stores.{tree_of}
use Rattle.geo_terms.specs.Values.{HasTreeValue, tree_value}
use Rattle.geo_program.specs.declared.commands.Command.{Command}
use Rattle.geo_program.specs.declared.commands.Command.TheVariants.{Point, Param, Line, Parallel, Perp, Med, Intersec, Inter, Foot, Pratio}
use Rattle.geo_program.specs.declared.commands.Command.TheVariants.{Tratio, Online, Lratio, Midpoint, Translate, Symmetric, Reflect}
use Rattle.geo_program.specs.declared.commands.Command.TheVariants.{Circumcenter, Orthocenter, Centroid, Oncircle, Second, Cc, Inverse}
use Rattle.geo_program.specs.declared.commands.Command.TheVariants.{Weights, AssumeDifferent, AssumeNotCollinear, AssumeNotParallel}
use Rattle.geo_program.specs.declared.commands.LineId.{LineId}
use Rattle.geo_program.specs.declared.names.NameKind.TheVariants as kind
use Rattle.geo_program.specs.WellFormed.{Source}
use Rattle.geo_lowering.specs.Counting.{named, counted, next_number, param_place}
use Rattle.geo_lowering.specs.Lines.{DrawnLine, through, alongside, upright, bisector, line_at, IsOn}
use Rattle.geo_lowering.specs.Relations.{IsOnBothLines, IsProjection, IsMidpoint, IsTranslate, IsSymmetric, IsReflection, IsCircumcenter}
use Rattle.geo_lowering.specs.Relations.{IsOrthocenter, IsCentroid, IsOnCircle, IsOnLineAndCircle, IsOnBothCircles, IsInverse}

-- the placement as the terms of the program read it: they name parameters alone, and no other number
abbrev pub reading : Source → Placement → Placement
reading p placed = record { point = placed.point; number = λ t. placed.number (param_place p.commands t) }

-- the line of a command that names one, over the lines before it
abbrev pub drawn : Placement → List DrawnLine → Command → List DrawnLine
drawn placed lines (Line a b) = through (placed.point a.0) (placed.point b.0) ∷ []
drawn placed lines (Parallel p b) = alongside (placed.point p.0) (line_at lines b.0) ∷ []
drawn placed lines (Perp p b) = upright (placed.point p.0) (line_at lines b.0) ∷ []
drawn placed lines (Med a b) = bisector (placed.point a.0) (placed.point b.0) ∷ []
drawn placed lines _ = []

-- the lines of the commands, each over those before it
abbrev pub lines_of : Placement → List Command → List DrawnLine
lines_of placed commands = fold (λ lines c. lines ++ drawn placed lines c) [] commands

-- the line of this number
abbrev pub line_of : Source → Placement → LineId → DrawnLine
line_of p placed a = line_at (lines_of placed p.commands) a.0

-- the command is met, where X is the point that it names and t its own number
abbrev pub IsCommandMet : Source → Placement → Triple → Fraction → Command → Type 0
IsCommandMet s placed X t Point = Unit {0}
IsCommandMet s placed X t Param = Unit {0}
IsCommandMet s placed X t (Line a b) = Unit {0}
IsCommandMet s placed X t (Parallel p b) = Unit {0}
IsCommandMet s placed X t (Perp p b) = Unit {0}
IsCommandMet s placed X t (Med a b) = Unit {0}
IsCommandMet s placed X t (Intersec a b) = IsOn X (line_of s placed a) × IsOn X (line_of s placed b)
IsCommandMet s placed X t (Inter a b c d) = IsOnBothLines X (placed.point a.0) (placed.point b.0) (placed.point c.0) (placed.point d.0)
IsCommandMet s placed X t (Foot p a b) = IsProjection X (placed.point p.0) (placed.point a.0) (placed.point b.0)
IsCommandMet s placed X t (Pratio w u v r) =
    HasTreeValue (reading s placed) (tree_of s.nodes r)
    × IsAlong (placed.point w.0) (placed.point u.0) (placed.point v.0) (tree_value (reading s placed) (tree_of s.nodes r)) X
IsCommandMet s placed X t (Tratio u v r) =
    HasTreeValue (reading s placed) (tree_of s.nodes r)
    × IsTurned (placed.point u.0) (placed.point v.0) (tree_value (reading s placed) (tree_of s.nodes r)) X
IsCommandMet s placed X t (Online a b) = IsAlong (placed.point a.0) (placed.point a.0) (placed.point b.0) t X
IsCommandMet s placed X t (Lratio a b r) =
    HasTreeValue (reading s placed) (tree_of s.nodes r)
    × IsAlong (placed.point a.0) (placed.point a.0) (placed.point b.0) (tree_value (reading s placed) (tree_of s.nodes r)) X
IsCommandMet s placed X t (Midpoint a b) = IsMidpoint X (placed.point a.0) (placed.point b.0)
IsCommandMet s placed X t (Translate a b c) = IsTranslate X (placed.point a.0) (placed.point b.0) (placed.point c.0)
IsCommandMet s placed X t (Symmetric a o) = IsSymmetric X (placed.point a.0) (placed.point o.0)
IsCommandMet s placed X t (Reflect a p q) = IsReflection X (placed.point a.0) (placed.point p.0) (placed.point q.0)
IsCommandMet s placed X t (Circumcenter a b c) = IsCircumcenter X (placed.point a.0) (placed.point b.0) (placed.point c.0)
IsCommandMet s placed X t (Orthocenter a b c) = IsOrthocenter X (placed.point a.0) (placed.point b.0) (placed.point c.0)
IsCommandMet s placed X t (Centroid a b c) = IsCentroid X (placed.point a.0) (placed.point b.0) (placed.point c.0)
IsCommandMet s placed X t (Oncircle o a) = IsOnCircle X (placed.point o.0) (placed.point a.0) t
IsCommandMet s placed X t (Second a b o) = IsOnLineAndCircle X (placed.point a.0) (placed.point b.0) (placed.point o.0)
IsCommandMet s placed X t (Cc o p a) = IsOnBothCircles X (placed.point o.0) (placed.point p.0) (placed.point a.0)
IsCommandMet s placed X t (Inverse p o a) = IsInverse X (placed.point p.0) (placed.point o.0) (placed.point a.0)
IsCommandMet s placed X t (Weights a b c r q) =
    HasTreeValue (reading s placed) (tree_of s.nodes r)
    × HasTreeValue (reading s placed) (tree_of s.nodes q)
    × IsWeighted (placed.point a.0) (placed.point b.0) (placed.point c.0) (tree_value (reading s placed) (tree_of s.nodes r))
    (tree_value (reading s placed) (tree_of s.nodes q)) X
IsCommandMet s placed X t (AssumeDifferent a b) = Unit {0}
IsCommandMet s placed X t (AssumeNotCollinear a b c) = Unit {0}
IsCommandMet s placed X t (AssumeNotParallel a b c d) = Unit {0}

-- the commands are met, where their points are those from x on and their numbers those from m on
abbrev pub AreCommandsMet : Source → Placement → ℕ → ℕ → List Command → Type 0
AreCommandsMet s placed x m [] = Unit {0}
AreCommandsMet s placed x m (c ∷ cs) =
    IsCommandMet s placed (placed.point x) (placed.number m) c
    × AreCommandsMet s placed (counted kind.Point (named c) x) (next_number m c) cs

-- the placement meets each command of the program
abbrev pub MeetsCommands : Source → Placement → Type 0
MeetsCommands s placed = AreCommandsMet s placed 0 0 s.commands
