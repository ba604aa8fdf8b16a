-- Scopes: how many names of each kind there are, and what a wider scope leaves as it was.
use Rattle.std.proofs.Common.{◌≡◌, ℕ, ◌+◌, ◌≤◌, Bool, true, false, List, [], ◌∷◌, ◌++◌, length, refl, arith}
use Rattle.std.specs.Prelude.{All}
use Rattle.std.proofs.lemmas.List.Elements.{All-weaker}
use Rattle.geo_program.specs.declared.names.Name.{Name}
use Rattle.geo_program.specs.declared.names.NameKind.{NameKind}
use Rattle.geo_program.specs.declared.names.NameKind.TheVariants.{Point, Param, Line}
use Rattle.geo_program.specs.Expressions.{IsExpression}
use Rattle.geo_program.specs.Forms.{Argument, point_argument, line_argument, number_argument, side_argument}
use Rattle.geo_program.specs.Names.{is_kind, names_of}
use Rattle.geo_program.specs.WellFormed.{IsArgument, Scope, declare, empty_scope, scope_of}
use Rattle.geo_terms.specs.Trees.{Tree, integer_leaf, parameter_leaf, area_leaf, pythagoras_leaf, ratio_leaf, negation, addition, subtraction, multiplication, division}

-- how many names of this kind are declared
abbrev pub declared_of : NameKind → Scope → ℕ
declared_of Point s = s.points
declared_of Param s = s.params
declared_of Line s = s.lines

-- what names declare, and then more of them
pub scope_of-append : (s : Scope) (names more : List Name) → scope_of s (names ++ more) ≡ scope_of (scope_of s names) more
scope_of-append s [] more = refl
scope_of-append s (name ∷ names) more = scope_of-append (declare name.kind s) names more

-- the names of a kind that this kind's name is
abbrev pub one_of : NameKind → NameKind → ℕ
one_of kind declared = length (names_of kind (record { text = []; kind = declared } ∷ []))

declared_of-declare : (kind declared : NameKind) (s : Scope) → declared_of kind (declare declared s) ≡ declared_of kind s + one_of kind declared
declared_of-declare Point Point s = omega arith
declared_of-declare Point Param s = omega arith
declared_of-declare Point Line s = omega arith
declared_of-declare Param Point s = omega arith
declared_of-declare Param Param s = omega arith
declared_of-declare Param Line s = omega arith
declared_of-declare Line Point s = omega arith
declared_of-declare Line Param s = omega arith
declared_of-declare Line Line s = omega arith

names_of-cons : (kind : NameKind) (name : Name) (names : List Name) → length (names_of kind (name ∷ names)) ≡ one_of kind name.kind + length (names_of kind names)
names_of-cons kind name names = by_test (is_kind name.kind kind) refl
  where
    by_test : (b : Bool) → is_kind name.kind kind ≡ b → length (names_of kind (name ∷ names)) ≡ one_of kind name.kind + length (names_of kind names)
    by_test true h = rw h (omega arith)
    by_test false h = rw h (omega arith)

-- what names declare is counted by kind
pub declared_of-scope_of : (kind : NameKind) (s : Scope) (names : List Name) → declared_of kind (scope_of s names) ≡ declared_of kind s + length (names_of kind names)
declared_of-scope_of kind s [] = omega arith
declared_of-scope_of kind s (name ∷ names) =
    omega (arith, declared_of-scope_of kind (declare name.kind s) names, declared_of-declare kind name.kind s, names_of-cons kind name names)

pub points_declared : (names : List Name) → (scope_of empty_scope names).points ≡ length (names_of Point names)
points_declared names = omega (arith, declared_of-scope_of Point empty_scope names)

pub params_declared : (names : List Name) → (scope_of empty_scope names).params ≡ length (names_of Param names)
params_declared names = omega (arith, declared_of-scope_of Param empty_scope names)

pub lines_declared : (names : List Name) → (scope_of empty_scope names).lines ≡ length (names_of Line names)
lines_declared names = omega (arith, declared_of-scope_of Line empty_scope names)

-- WIDER SCOPES

-- one scope declares what the other does, and perhaps more
pub record IsWithinScope (s wider : Scope) : Type 0 where
  pub points : s.points ≤ wider.points
  pub params : s.params ≤ wider.params
  pub lines : s.lines ≤ wider.lines

pub IsWithinScope-trans : (s t u : Scope) → IsWithinScope s t → IsWithinScope t u → IsWithinScope s u
IsWithinScope-trans s t u h k = record { points = omega arith; params = omega arith; lines = omega arith }

-- more names declare more
pub IsWithinScope-scope_of : (s : Scope) (names : List Name) → IsWithinScope s (scope_of s names)
IsWithinScope-scope_of s names = record {
  points = omega (arith, declared_of-scope_of Point s names);
  params = omega (arith, declared_of-scope_of Param s names);
  lines = omega (arith, declared_of-scope_of Line s names);
}

pub IsWithinScope-append : (names more : List Name) → IsWithinScope (scope_of empty_scope names) (scope_of empty_scope (names ++ more))
IsWithinScope-append names more = rw (scope_of-append empty_scope names more) (IsWithinScope-scope_of (scope_of empty_scope names) more)

-- an expression without ratios is one where they may stand
pub IsExpression-ratios : (points params : ℕ) (ratios : Bool) (e : Tree) → IsExpression points params false e → IsExpression points params ratios e
IsExpression-ratios points params ratios (integer_leaf n) h = h
IsExpression-ratios points params ratios (parameter_leaf t) h = h
IsExpression-ratios points params ratios (area_leaf a b c) h = h
IsExpression-ratios points params ratios (pythagoras_leaf a b c) h = h
IsExpression-ratios points params ratios (ratio_leaf a b c d) h = absurd (cc)
IsExpression-ratios points params ratios (negation e) h = IsExpression-ratios points params ratios e h
IsExpression-ratios points params ratios (addition e f) h = (IsExpression-ratios points params ratios e h.0, IsExpression-ratios points params ratios f h.1)
IsExpression-ratios points params ratios (subtraction e f) h = (IsExpression-ratios points params ratios e h.0, IsExpression-ratios points params ratios f h.1)
IsExpression-ratios points params ratios (multiplication e f) h = (IsExpression-ratios points params ratios e h.0, IsExpression-ratios points params ratios f h.1)
IsExpression-ratios points params ratios (division e f) h = (IsExpression-ratios points params ratios e h.0, h.1)

-- over more points and parameters an expression is one
pub IsExpression-wider : (points params more_points more_params : ℕ) (ratios : Bool) (e : Tree) → points ≤ more_points
    → params ≤ more_params → IsExpression points params ratios e → IsExpression more_points more_params ratios e
IsExpression-wider points params p q ratios (integer_leaf n) hp hq h = h
IsExpression-wider points params p q ratios (parameter_leaf t) hp hq h = omega arith
IsExpression-wider points params p q ratios (area_leaf a b c) hp hq h = omega arith
IsExpression-wider points params p q ratios (pythagoras_leaf a b c) hp hq h = omega arith
IsExpression-wider points params p q ratios (ratio_leaf a b c d) hp hq h = (h.0, omega arith, omega arith, omega arith, omega arith)
IsExpression-wider points params p q ratios (negation e) hp hq h = IsExpression-wider points params p q ratios e hp hq h
IsExpression-wider points params p q ratios (addition e f) hp hq h =
    (IsExpression-wider points params p q ratios e hp hq h.0, IsExpression-wider points params p q ratios f hp hq h.1)
IsExpression-wider points params p q ratios (subtraction e f) hp hq h =
    (IsExpression-wider points params p q ratios e hp hq h.0, IsExpression-wider points params p q ratios f hp hq h.1)
IsExpression-wider points params p q ratios (multiplication e f) hp hq h =
    (IsExpression-wider points params p q ratios e hp hq h.0, IsExpression-wider points params p q ratios f hp hq h.1)
IsExpression-wider points params p q ratios (division e f) hp hq h =
    (IsExpression-wider points params p q ratios e hp hq h.0, IsExpression-wider points params p q false f hp hq h.1)

-- in a wider scope an argument is one
pub IsArgument-wider : (s wider : Scope) (x : Argument) → IsWithinScope s wider → IsArgument s x → IsArgument wider x
IsArgument-wider s wider (point_argument a) w h = omega (arith, w.points)
IsArgument-wider s wider (line_argument a) w h = omega (arith, w.lines)
IsArgument-wider s wider (number_argument e) w h = (IsExpression-wider s.points s.params wider.points wider.params false e w.points w.params h.0, h.1)
IsArgument-wider s wider (side_argument e) w h = (IsExpression-wider s.points s.params wider.points wider.params true e w.points w.params h.0, h.1)

pub arguments_wider : (s wider : Scope) (arguments : List Argument) → IsWithinScope s wider → All (IsArgument s) arguments → All (IsArgument wider) arguments
arguments_wider s wider arguments w h = All-weaker (IsArgument s) (IsArgument wider) (λ x. IsArgument-wider s wider x w) arguments h
