-- The words of a command or a statement tell all of its form but the arguments, of which they tell the kinds.
use Rattle.std.proofs.Common.{◌≡◌, ℕ, zero, suc, Bool, true, false, not, List, [], ◌∷◌, ◌++◌, map, get_or, drop, Option, Some, None, is_some, refl, sym, ap, ap₂, subst, ◌∙◌}
use Rattle.std.specs.Prelude.{codes}
use Rattle.std.specs.List.{list_all}
use Rattle.std.proofs.lemmas.Bool.{false≢true}
use Rattle.geo_program.specs.declared.commands.Command.{Command}
use Rattle.geo_program.specs.declared.commands.Command.TheVariants as command
use Rattle.geo_program.specs.declared.names.NameKind.{NameKind}
use Rattle.geo_program.specs.declared.names.NameKind.TheVariants as kind
use Rattle.geo_program.specs.declared.statements.Statement.{Statement}
use Rattle.geo_program.specs.declared.statements.Statement.TheVariants as statement
use Rattle.geo_program.specs.Forms.{Argument, CommandForm, point_argument, line_argument, number_argument, side_argument, command_form, statement_form}
use Rattle.geo_program.specs.Rows.{ArgumentKind, CommandRow, command_rows, condition_rows, point_kind, line_kind, number_kind, side_kind}
use Rattle.geo_program.specs.Words.{command_words, statement_words}
use Rattle.geo_program.proofs.WordPlaces.{both, place_of, same_text}
use Rattle.geo_terms.specs.Stores.{Store}

-- the kind of an argument: 0 is a point, 1 a line, 2 a number and 3 a side
abbrev pub argument_kind : Argument → ℕ
argument_kind (point_argument a) = 0
argument_kind (line_argument a) = 1
argument_kind (number_argument e) = 2
argument_kind (side_argument e) = 3

-- all of a form but the arguments themselves, of which it has the kinds
pub record Shape : Type 0 where
  pub word : List ℕ
  pub condition : Option (List ℕ)
  pub made : Option NameKind
  pub points : ℕ
  pub arguments : List ℕ

-- the shape of a command with a new name, and that of an assumption
abbrev making : List ℕ → NameKind → ℕ → List ℕ → Shape
making word kind points arguments = record { word = word; condition = None; made = Some kind; points = points; arguments = arguments }

abbrev assuming : List ℕ → List ℕ → Shape
assuming condition arguments = record { word = codes "assume"; condition = Some condition; made = None; points = 0; arguments = arguments }

-- the number of a kind
abbrev kind_number : ArgumentKind → ℕ
kind_number point_kind = 0
kind_number line_kind = 1
kind_number number_kind = 2
kind_number side_kind = 3

abbrev making_row : CommandRow → Shape
making_row row = making row.word row.made row.points (map kind_number row.arguments)

abbrev assuming_row : List ℕ × List ArgumentKind → Shape
assuming_row row = assuming row.0 (map kind_number row.1)

abbrev pub shape_of : CommandForm → Shape
shape_of f = record { word = f.word; condition = f.condition; made = f.made; points = f.points; arguments = map argument_kind f.arguments }

-- the word that tells the shape: that of the condition that is assumed, or else the command's
abbrev pub key : List ℕ → Option (List ℕ) → List ℕ
key word None = word
key word (Some condition) = condition

-- the words of commands that have a new name, and those of conditions
abbrev keys : List (List ℕ)
keys = drop 1 command_words ++ map (λ (row : List ℕ × List ArgumentKind). row.0) condition_rows

-- the word is `assume` just where there is a condition
abbrev tells : List ℕ → Option (List ℕ) → Bool
tells word None = not (same_text word (codes "assume"))
tells word (Some condition) = same_text word (codes "assume")

-- the shapes, in the order of these words
abbrev pub command_shapes : List Shape
command_shapes = map making_row command_rows ++ map assuming_row condition_rows

-- the first of them
abbrev first_shape : Shape
first_shape = making (codes "point") kind.Point 1 ([])

-- the shape stands at the place of the word
command_shape : (nodes : Store) (c : Command) → shape_of (command_form nodes c) ≡ get_or command_shapes (place_of (key (command_form nodes c).word (command_form nodes c).condition) keys) first_shape
command_shape nodes command.Point = refl
command_shape nodes command.Param = refl
command_shape nodes (command.Line a b) = refl
command_shape nodes (command.Parallel a b) = refl
command_shape nodes (command.Perp a b) = refl
command_shape nodes (command.Med a b) = refl
command_shape nodes (command.Intersec a b) = refl
command_shape nodes (command.Inter a b c d) = refl
command_shape nodes (command.Foot a b c) = refl
command_shape nodes (command.Pratio a b c d) = refl
command_shape nodes (command.Tratio a b c) = refl
command_shape nodes (command.Online a b) = refl
command_shape nodes (command.Lratio a b c) = refl
command_shape nodes (command.Midpoint a b) = refl
command_shape nodes (command.Translate a b c) = refl
command_shape nodes (command.Symmetric a b) = refl
command_shape nodes (command.Reflect a b c) = refl
command_shape nodes (command.Circumcenter a b c) = refl
command_shape nodes (command.Orthocenter a b c) = refl
command_shape nodes (command.Centroid a b c) = refl
command_shape nodes (command.Oncircle a b) = refl
command_shape nodes (command.Second a b c) = refl
command_shape nodes (command.Cc a b c) = refl
command_shape nodes (command.Inverse a b c) = refl
command_shape nodes (command.Weights a b c d e) = refl
command_shape nodes (command.AssumeDifferent a b) = refl
command_shape nodes (command.AssumeNotCollinear a b c) = refl
command_shape nodes (command.AssumeNotParallel a b c d) = refl

-- so commands of one word, or of one condition's word, have one shape
pub same_shape : (nodes others : Store) (c d : Command) → (command_form nodes c).word ≡ (command_form others d).word → (command_form nodes c).condition ≡ (command_form others d).condition
    → shape_of (command_form nodes c) ≡ shape_of (command_form others d)
same_shape nodes others c d word condition =
    command_shape nodes c
    ∙ ap₂ (λ w o. get_or command_shapes (place_of (key w o) keys) first_shape) word condition
    ∙ sym (command_shape others d)

-- a test that all shapes pass is passed by the shape of each command
passed_by : (test : Shape → Bool) (shapes : List Shape) (i : ℕ) (d : Shape) → list_all test shapes ≡ true → test d ≡ true → test (get_or shapes i d) ≡ true
passed_by test [] zero d h own = own
passed_by test [] (suc i) d h own = own
passed_by test (s ∷ shapes) zero d h own = (both (test s) (list_all test shapes) h).0
passed_by test (s ∷ shapes) (suc i) d h own = passed_by test shapes i d (both (test s) (list_all test shapes) h).1 own

pub shapes_pass : (test : Shape → Bool) → list_all test command_shapes ≡ true → test first_shape ≡ true → (nodes : Store) (c : Command) → test (shape_of (command_form nodes c)) ≡ true
shapes_pass test h own nodes c =
    ap test (command_shape nodes c) ∙ passed_by test command_shapes (place_of (key (command_form nodes c).word (command_form nodes c).condition) keys) first_shape h own

-- the word is not `prove`
pub command_is_no_prove : (nodes : Store) (c : Command) → same_text (command_form nodes c).word (codes "prove") ≡ false
command_is_no_prove nodes c = not_true _ (shapes_pass (λ s. not (same_text s.word (codes "prove"))) refl refl nodes c)
  where
    not_true : (b : Bool) → not b ≡ true → b ≡ false
    not_true true h = absurd (false≢true h)
    not_true false h = refl

-- a condition stands behind `assume`, and behind no other word
tells_condition : (nodes : Store) (c : Command) → tells (command_form nodes c).word (command_form nodes c).condition ≡ true
tells_condition nodes c = shapes_pass (λ s. tells s.word s.condition) refl refl nodes c

pub same_kind_of_condition : (nodes others : Store) (c d : Command) → (command_form nodes c).word ≡ (command_form others d).word
    → is_some (command_form nodes c).condition ≡ is_some (command_form others d).condition
same_kind_of_condition nodes others c d same =
    by (command_form nodes c).condition (command_form others d).condition (tells_condition nodes c)
    (subst (λ w. tells w (command_form others d).condition ≡ true) (sym same) (tells_condition others d))
  where
    by : (a b : Option (List ℕ)) → tells (command_form nodes c).word a ≡ true → tells (command_form nodes c).word b ≡ true → is_some a ≡ is_some b
    by None None h k = refl
    by (Some a) (Some b) h k = refl
    by None (Some b) h k = absurd (false≢true (sym (ap not k) ∙ h))
    by (Some a) None h k = absurd (false≢true (sym (ap not h) ∙ k))

-- the kinds of the arguments of statements, in the order of their words
abbrev pub statement_shapes : List (List ℕ)
statement_shapes =
    (3 ∷ 3 ∷ []) ∷
    (0 ∷ 0 ∷ 0 ∷ []) ∷
    (0 ∷ 0 ∷ 0 ∷ 0 ∷ []) ∷
    (0 ∷ 0 ∷ 0 ∷ 0 ∷ []) ∷
    (0 ∷ 0 ∷ []) ∷
    (0 ∷ 0 ∷ 0 ∷ []) ∷
    (0 ∷ 0 ∷ 0 ∷ 0 ∷ []) ∷
    (0 ∷ 0 ∷ 0 ∷ 0 ∷ []) ∷
    (0 ∷ 0 ∷ 0 ∷ 0 ∷ []) ∷ []

pub statement_shape : (nodes : Store) (s : Statement) → map argument_kind (statement_form nodes s).arguments ≡ get_or statement_shapes (place_of (statement_form nodes s).word statement_words) []
statement_shape nodes (statement.Equal a b) = refl
statement_shape nodes (statement.Collinear a b c) = refl
statement_shape nodes (statement.Parallel a b c d) = refl
statement_shape nodes (statement.Perpendicular a b c d) = refl
statement_shape nodes (statement.Identical a b) = refl
statement_shape nodes (statement.Midpoint a b c) = refl
statement_shape nodes (statement.SameLength a b c d) = refl
statement_shape nodes (statement.Harmonic a b c d) = refl
statement_shape nodes (statement.Concyclic a b c d) = refl

pub same_statement_shape : (nodes others : Store) (s t : Statement) → (statement_form nodes s).word ≡ (statement_form others t).word
    → map argument_kind (statement_form nodes s).arguments ≡ map argument_kind (statement_form others t).arguments
same_statement_shape nodes others s t same =
    statement_shape nodes s
    ∙ ap (λ word. get_or statement_shapes (place_of word statement_words) []) same
    ∙ sym (statement_shape others t)
