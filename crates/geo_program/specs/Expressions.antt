-- Expressions: what may stand in them, and their spelling.
use Rattle.std.specs.Prelude.{ℕ, suc, ◌<◌, ◌^◌, max, Bool, false, IsTrue, unsigned_abs, codes, List, [], ◌∷◌, ◌++◌, map}
use Rattle.geo_points.specs.declared.ids.PointId.{PointId}
use Rattle.geo_lexer.specs.Lexemes.{Lexeme, word_lexeme, number_lexeme, open_brace, close_brace}
use Rattle.geo_program.specs.declared.names.Name.{Name}
use Rattle.geo_program.specs.declared.names.NameKind.TheVariants.{Point, Param}
use Rattle.geo_program.specs.Names.{name_text}
use Rattle.geo_terms.specs.Trees.{Tree, integer_leaf, parameter_leaf, area_leaf, pythagoras_leaf, ratio_leaf, negation, addition, subtraction, multiplication, division}

-- the expression names declared points and parameters alone; a ratio stands only where `ratios` tells so, and never inside a divisor
abbrev pub IsExpression : ℕ → ℕ → Bool → Tree → Type 0
IsExpression points params ratios (integer_leaf n) = unsigned_abs n < 2 ^ 127
IsExpression points params ratios (parameter_leaf t) = t.0 < params
IsExpression points params ratios (area_leaf a b c) = (a.0 < points) × (b.0 < points) × (c.0 < points)
IsExpression points params ratios (pythagoras_leaf a b c) = (a.0 < points) × (b.0 < points) × (c.0 < points)
IsExpression points params ratios (ratio_leaf a b c d) = IsTrue ratios × (a.0 < points) × (b.0 < points) × (c.0 < points) × (d.0 < points)
IsExpression points params ratios (negation e) = IsExpression points params ratios e
IsExpression points params ratios (addition e f) = IsExpression points params ratios e × IsExpression points params ratios f
IsExpression points params ratios (subtraction e f) = IsExpression points params ratios e × IsExpression points params ratios f
IsExpression points params ratios (multiplication e f) = IsExpression points params ratios e × IsExpression points params ratios f
IsExpression points params ratios (division e f) = IsExpression points params ratios e × IsExpression points params false f

-- how deep braces stand inside one another
abbrev pub nesting : Tree → ℕ
nesting (negation e) = suc (nesting e)
nesting (addition e f) = suc (max (nesting e) (nesting f))
nesting (subtraction e f) = suc (max (nesting e) (nesting f))
nesting (multiplication e f) = suc (max (nesting e) (nesting f))
nesting (division e f) = suc (max (nesting e) (nesting f))
nesting _ = 0

-- the name of a point
abbrev pub point_lexeme : List Name → PointId → Lexeme
point_lexeme names a = word_lexeme (name_text Point names a.0)

-- a word and then points
abbrev pub quantity_lexemes : List Name → List ℕ → List PointId → List Lexeme
quantity_lexemes names word points = word_lexeme word ∷ map (point_lexeme names) points

-- between braces
abbrev pub braced : List Lexeme → List Lexeme
braced lexemes = open_brace ∷ lexemes ++ close_brace ∷ []

-- the spelling of an expression
abbrev pub expression_lexemes : List Name → Tree → List Lexeme
expression_lexemes names (integer_leaf n) = number_lexeme n ∷ []
expression_lexemes names (parameter_leaf t) = word_lexeme (name_text Param names t.0) ∷ []
expression_lexemes names (area_leaf a b c) = quantity_lexemes names (codes "signed_area3") (a ∷ b ∷ c ∷ [])
expression_lexemes names (pythagoras_leaf a b c) = quantity_lexemes names (codes "pythagoras_difference3") (a ∷ b ∷ c ∷ [])
expression_lexemes names (ratio_leaf a b c d) = quantity_lexemes names (codes "sratio") (a ∷ b ∷ c ∷ d ∷ [])
expression_lexemes names (negation e) = word_lexeme (codes "neg") ∷ braced (expression_lexemes names e)
expression_lexemes names (addition e f) =
    word_lexeme (codes "sum") ∷ braced (expression_lexemes names e) ++ braced (expression_lexemes names f)
expression_lexemes names (subtraction e f) =
    word_lexeme (codes "sub") ∷ braced (expression_lexemes names e) ++ braced (expression_lexemes names f)
expression_lexemes names (multiplication e f) =
    word_lexeme (codes "mult") ∷ braced (expression_lexemes names e) ++ braced (expression_lexemes names f)
expression_lexemes names (division e f) =
    word_lexeme (codes "div") ∷ braced (expression_lexemes names e) ++ braced (expression_lexemes names f)
