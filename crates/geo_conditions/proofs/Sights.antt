-- What the truth of a program depends on in a command, and in a statement, can be read off its form.
use Rattle.std.proofs.Common.{◌≡◌, ℕ, zero, suc, Bool, true, false, List, [], ◌∷◌, ◌++◌, refl, eqb, if◌then◌else◌, ◌-◌, Option, Some}
use Rattle.std.specs.Prelude.{slice_index}
use Rattle.ring_laws.specs.Fraction.{Fraction, IsNonzero}
use Rattle.geo_points.specs.declared.ids.PointId.{PointId}
use Rattle.geo_points.specs.Placements.{Placement}
use Rattle.geo_points.specs.Points.{Point as Triple}
use Rattle.geo_points.specs.Steps.{IsAlong, IsTurned, IsWeighted}
use Rattle.geo_terms.specs.Stores.{Store, tree_of}
use Rattle.geo_terms.specs.Trees.{Tree, subtraction}
use Rattle.geo_terms.specs.Values.{HasTreeValue, tree_value}
use Rattle.geo_program.specs.declared.commands.Command.{Command}
use Rattle.geo_program.specs.declared.commands.Command.TheVariants.{Point, Param, Line, Parallel, Perp, Med, Intersec, Inter, Foot, Pratio}
use Rattle.geo_program.specs.declared.commands.Command.TheVariants.{Tratio, Online, Lratio, Midpoint, Translate, Symmetric, Reflect}
use Rattle.geo_program.specs.declared.commands.Command.TheVariants.{Circumcenter, Orthocenter, Centroid, Oncircle, Second, Cc, Inverse}
use Rattle.geo_program.specs.declared.commands.Command.TheVariants.{Weights, AssumeDifferent, AssumeNotCollinear, AssumeNotParallel}
use Rattle.geo_program.specs.declared.commands.LineId.{LineId}
use Rattle.geo_program.specs.declared.names.NameKind.{NameKind}
use Rattle.geo_program.specs.declared.names.NameKind.TheVariants as kind
use Rattle.geo_program.specs.declared.statements.Statement.{Statement}
use Rattle.geo_program.specs.declared.statements.Statement.TheVariants as statement
use Rattle.geo_program.specs.Forms.{Argument, CommandForm, StatementForm, point_argument, line_argument, number_argument, side_argument, command_form, statement_form}
use Rattle.geo_program.specs.WellFormed.{Source}
use Rattle.geo_lowering.specs.declared.version.Version.{Version}
use Rattle.geo_lowering.specs.CommandsMet.{IsCommandMet, drawn, line_of, reading}
use Rattle.geo_lowering.specs.Conditions.{Condition, different, not_collinear, not_parallel, crossing, nonzero, IsConditionMet, command_conditions, expression_conditions}
use Rattle.geo_lowering.specs.Counting.{named, hidden, has_number, weights_points}
use Rattle.geo_lowering.specs.Lines.{DrawnLine, AreParallel, IsOn}
use Rattle.geo_lowering.specs.Lowering.{Layout, Pair, pair_of, renamed}
use Rattle.geo_conditions.specs.Statements.{HaveSameValue, StatementHolds, pair_goals, ratio_goals, statement_conditions}
use Rattle.geo_conditions.specs.Terms.{goal_term}
use Rattle.geo_conditions.specs.Truth.{is_free}

-- a program without commands: what reads no term and no line is the same over it
abbrev nothing : Source
nothing = record { names = []; nodes = []; commands = []; statement = statement.Identical (record { 0 = 0 }) (record { 0 = 0 }) }

-- COMMANDS
-- W + e (V - U), where terms read the first placement
abbrev along_by : PointId → PointId → PointId → Tree → Placement → Placement → Triple → Type 0
along_by w u v e read placed X = HasTreeValue read e × IsAlong (placed.point w.0) (placed.point u.0) (placed.point v.0) (tree_value read e) X

-- U + e J (V - U)
abbrev turned_by : PointId → PointId → Tree → Placement → Placement → Triple → Type 0
turned_by u v e read placed X = HasTreeValue read e × IsTurned (placed.point u.0) (placed.point v.0) (tree_value read e) X

-- A + e (B - A) + f (C - A)
abbrev weighted_by : PointId → PointId → PointId → Tree → Tree → Placement → Placement → Triple → Type 0
weighted_by a b c e f read placed X =
    HasTreeValue read e × HasTreeValue read f × IsWeighted (placed.point a.0) (placed.point b.0) (placed.point c.0) (tree_value read e) (tree_value read f) X

-- the command is met, where terms read the first placement and these are the lines
abbrev met_over : Store → Placement → (LineId → DrawnLine) → Placement → Triple → Fraction → Command → Type 0
met_over nodes read line placed X t (Intersec a b) = IsOn X (line a) × IsOn X (line b)
met_over nodes read line placed X t (Pratio w u v r) = along_by w u v (tree_of nodes r) read placed X
met_over nodes read line placed X t (Tratio u v r) = turned_by u v (tree_of nodes r) read placed X
met_over nodes read line placed X t (Lratio a b r) = along_by a a b (tree_of nodes r) read placed X
met_over nodes read line placed X t (Weights a b c r q) = weighted_by a b c (tree_of nodes r) (tree_of nodes q) read placed X
met_over nodes read line placed X t c = IsCommandMet nothing placed X t c

pub met_over-is : (s : Source) (placed : Placement) (X : Triple) (t : Fraction) (c : Command)
    → IsCommandMet s placed X t c ≡ met_over s.nodes (reading s placed) (line_of s placed) placed X t c
met_over-is s placed X t Point = refl
met_over-is s placed X t _ = refl

-- what truth sees of a command
pub record Sight : Type 1 where
  pub kind : Option NameKind
  pub hidden : Version → ℕ
  pub number : Bool
  pub free : Bool
  pub pair : (ℕ → ℕ) → ℕ → Pair
  pub lines : Placement → List DrawnLine → List DrawnLine
  pub conditions : PointId → List Condition
  pub met : Placement → (LineId → DrawnLine) → Placement → Triple → Fraction → Type 0

abbrev pub sight : Store → Command → Sight
sight nodes c = record {
  kind = named c;
  hidden = λ version. hidden version c;
  number = has_number c;
  free = is_free c;
  pair = λ point n. pair_of point n c;
  lines = λ placed lines. drawn placed lines c;
  conditions = λ x. command_conditions nodes x c;
  met = λ read line placed X t. met_over nodes read line placed X t c;
}

-- of a command whose number is this tree
abbrev numbered : (Placement → Placement → Triple → Type 0) → Tree → Sight
numbered met e = record {
  kind = Some kind.Point;
  hidden = λ version. 0;
  number = false;
  free = false;
  pair = λ point n. pair_of point n Point;
  lines = λ placed lines. [];
  conditions = λ x. expression_conditions e ++ [];
  met = λ read line placed X t. met read placed X;
}

-- of `weights` with these numbers
abbrev by_weights : PointId → PointId → PointId → Tree → Tree → Sight
by_weights a b c e f = record {
  kind = Some kind.Point;
  hidden = λ version. weights_points version - 1;
  number = false;
  free = false;
  pair = λ point n. pair_of point n Point;
  lines = λ placed lines. [];
  conditions = λ x. (expression_conditions e ++ expression_conditions f) ++ [];
  met = λ read line placed X t. weighted_by a b c e f read placed X;
}

-- the command whose word begins with this letter, or the other one
abbrev by_letter : List ℕ → ℕ → Command → Command → Command
by_letter word letter c d = if eqb (slice_index word 0) letter then c else d

-- what truth sees of a command with this word, so many points and these arguments
abbrev seen_by : List ℕ → ℕ → List Argument → Sight
seen_by word zero [] = sight [] Param
seen_by word zero (point_argument a ∷ point_argument b ∷ []) = sight [] (by_letter word 97 (AssumeDifferent a b) (Line a b))
seen_by word zero (point_argument a ∷ point_argument b ∷ point_argument c ∷ []) = sight [] (AssumeNotCollinear a b c)
seen_by word zero (point_argument a ∷ point_argument b ∷ point_argument c ∷ point_argument d ∷ []) = sight [] (AssumeNotParallel a b c d)
seen_by word (suc zero) (point_argument p ∷ line_argument b ∷ []) = sight [] (Parallel p b)
seen_by word (suc (suc zero)) (point_argument p ∷ line_argument b ∷ []) = sight [] (Perp p b)
seen_by word (suc (suc zero)) (point_argument a ∷ point_argument b ∷ []) = sight [] (Med a b)
seen_by word (suc (suc (suc zero))) (point_argument a ∷ point_argument b ∷ []) = sight [] (Oncircle a b)
seen_by word (suc zero) (line_argument a ∷ line_argument b ∷ []) = sight [] (Intersec a b)
seen_by word (suc zero) (point_argument a ∷ point_argument b ∷ point_argument c ∷ point_argument d ∷ []) = sight [] (Inter a b c d)
seen_by word (suc zero) (point_argument w ∷ point_argument u ∷ point_argument v ∷ number_argument e ∷ []) = numbered (along_by w u v e) e
seen_by word (suc zero) (point_argument a ∷ point_argument b ∷ number_argument e ∷ []) =
    elim (eqb (slice_index word 0) 116) [ true ↦ numbered (turned_by a b e) e | false ↦ numbered (along_by a a b e) e ]
seen_by word (suc zero) (point_argument a ∷ point_argument b ∷ []) = sight [] (by_letter word 111 (Online a b) (by_letter word 109 (Midpoint a b) (Symmetric a b)))
seen_by word (suc zero) (point_argument a ∷ point_argument b ∷ point_argument c ∷ []) = sight [] (by_letter word 102 (Foot a b c) (by_letter word 116 (Translate a b c) (Inverse a b c)))
seen_by word (suc (suc zero)) (point_argument a ∷ point_argument b ∷ point_argument c ∷ []) =
    sight []
    (by_letter word 114 (Reflect a b c)
    (by_letter word 115 (Second a b c) (if eqb (slice_index word 1) 101 then Centroid a b c else Cc a b c)))
seen_by word (suc (suc (suc zero))) (point_argument a ∷ point_argument b ∷ point_argument c ∷ []) = sight [] (Orthocenter a b c)
seen_by word (suc (suc (suc (suc (suc zero))))) (point_argument a ∷ point_argument b ∷ point_argument c ∷ []) = sight [] (Circumcenter a b c)
seen_by word (suc (suc zero)) (point_argument a ∷ point_argument b ∷ point_argument c ∷ number_argument e ∷ number_argument f ∷ []) = by_weights a b c e f
seen_by word _ _ = sight [] Point

abbrev pub seen : CommandForm → Sight
seen f = seen_by f.word f.points f.arguments

pub seen-is : (nodes : Store) (c : Command) → seen (command_form nodes c) ≡ sight nodes c
seen-is nodes Point = refl
seen-is nodes _ = refl

-- CONDITIONS
-- the condition holds, where terms read the first placement and these are the lines
abbrev pub condition_over : Placement → (LineId → DrawnLine) → Placement → Condition → Type 0
condition_over read line placed (crossing a b) = AreParallel (line a) (line b) → ⊥
condition_over read line placed (nonzero e) = HasTreeValue read e × IsNonzero (tree_value read e)
condition_over read line placed c = IsConditionMet nothing placed c

pub condition_over-is : (s : Source) (placed : Placement) (c : Condition) → IsConditionMet s placed c ≡ condition_over (reading s placed) (line_of s placed) placed c
condition_over-is s placed (different a b) = refl
condition_over-is s placed (not_collinear a b c) = refl
condition_over-is s placed (not_parallel a b c d) = refl
condition_over-is s placed (crossing a b) = refl
condition_over-is s placed (nonzero e) = refl

-- STATEMENTS
-- the statement holds, where terms read the first placement
abbrev holds_over : Store → Placement → Placement → Statement → Type 0
holds_over nodes read placed (statement.Equal e f) = HaveSameValue read (tree_of nodes e) (tree_of nodes f)
holds_over nodes read placed s = StatementHolds nothing placed s

pub holds_over-is : (p : Source) (placed : Placement) (s : Statement) → StatementHolds p placed s ≡ holds_over p.nodes (reading p placed) placed s
holds_over-is p placed (statement.Equal e f) = refl
holds_over-is p placed (statement.Collinear a b c) = refl
holds_over-is p placed (statement.Parallel a b c d) = refl
holds_over-is p placed (statement.Perpendicular a b c d) = refl
holds_over-is p placed (statement.Identical a b) = refl
holds_over-is p placed (statement.Midpoint m a b) = refl
holds_over-is p placed (statement.SameLength a b c d) = refl
holds_over-is p placed (statement.Harmonic a b c d) = refl
holds_over-is p placed (statement.Concyclic a b c d) = refl

-- what truth sees of a statement
pub record Saying : Type 1 where
  pub holds : Placement → Placement → Type 0
  pub conditions : List Condition
  pub pairs : List Statement
  pub term : Layout → Tree

abbrev pub saying : Store → Statement → Saying
saying nodes s = record {
  holds = λ read placed. holds_over nodes read placed s;
  conditions = statement_conditions nodes s;
  pairs = pair_goals nodes s;
  term = λ l. goal_term l nodes s;
}

-- of the equation of these trees
abbrev equation : Tree → Tree → Saying
equation e f = record {
  holds = λ read placed. HaveSameValue read e f;
  conditions = expression_conditions e ++ expression_conditions f;
  pairs = ratio_goals e ++ ratio_goals f;
  term = λ l. subtraction (renamed l e) (renamed l f);
}

-- the statement whose word begins with this letter, or the other one
abbrev either : List ℕ → ℕ → Statement → Statement → Statement
either word letter s t = if eqb (slice_index word 0) letter then s else t

-- what truth sees of a statement with this word and these arguments
abbrev said_by : List ℕ → List Argument → Saying
said_by word (side_argument e ∷ side_argument f ∷ []) = equation e f
said_by word (point_argument a ∷ point_argument b ∷ point_argument c ∷ []) = saying [] (either word 99 (statement.Collinear a b c) (statement.Midpoint a b c))
said_by word (point_argument a ∷ point_argument b ∷ point_argument c ∷ point_argument d ∷ []) =
    saying []
    (either word 115 (statement.SameLength a b c d)
    (either word 104 (statement.Harmonic a b c d)
    (either word 99 (statement.Concyclic a b c d)
    (if eqb (slice_index word 1) 97 then statement.Parallel a b c d else statement.Perpendicular a b c d))))
said_by word (point_argument a ∷ point_argument b ∷ []) = saying [] (statement.Identical a b)
said_by word _ = saying [] nothing.statement

abbrev pub said : StatementForm → Saying
said f = said_by f.word f.arguments

pub said-is : (nodes : Store) (s : Statement) → said (statement_form nodes s) ≡ saying nodes s
said-is nodes (statement.Equal e f) = refl
said-is nodes (statement.Collinear a b c) = refl
said-is nodes (statement.Parallel a b c d) = refl
said-is nodes (statement.Perpendicular a b c d) = refl
said-is nodes (statement.Identical a b) = refl
said-is nodes (statement.Midpoint m a b) = refl
said-is nodes (statement.SameLength a b c d) = refl
said-is nodes (statement.Harmonic a b c d) = refl
said-is nodes (statement.Concyclic a b c d) = refl
