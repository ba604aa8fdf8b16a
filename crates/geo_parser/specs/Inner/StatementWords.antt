-- What the words that begin a statement and an expression stand for.
use Rattle.std.specs.Prelude.{ℕ, Bool, false, codes, List, [], ◌∷◌, ◌++◌}
use Rattle.geo_parser.specs.declared.expression_words.ExpressionWord.{ExpressionWord}
use Rattle.geo_parser.specs.declared.expression_words.ExpressionWord.TheVariants.{SignedArea, PythagorasDifference, Ratio, Neg, Sum, Sub, Mult, Div}
use Rattle.geo_parser.specs.declared.statement_words.QuadrupleStatement.{QuadrupleStatement}
use Rattle.geo_parser.specs.declared.statement_words.QuadrupleStatement.TheVariants.{Parallel, Perpendicular, SameLength, Harmonic, Concyclic}
use Rattle.geo_parser.specs.declared.statement_words.StatementWord.{StatementWord}
use Rattle.geo_parser.specs.declared.statement_words.StatementWord.TheVariants.{Equal, Identical, Triple, Quadruple}
use Rattle.geo_parser.specs.declared.statement_words.TripleStatement.{TripleStatement}
use Rattle.geo_parser.specs.declared.statement_words.TripleStatement.TheVariants.{Collinear, Midpoint}
use Rattle.geo_parser.specs.Forms.{Slot, a_point, part, side}

-- the word's text, by the kind of statement
abbrev pub triple_text : TripleStatement → List ℕ
triple_text Collinear = codes "collinear"
triple_text Midpoint = codes "midpoint"

abbrev pub quadruple_text : QuadrupleStatement → List ℕ
quadruple_text Parallel = codes "parallel"
quadruple_text Perpendicular = codes "perpendicular"
quadruple_text SameLength = codes "same_length"
quadruple_text Harmonic = codes "harmonic"
quadruple_text Concyclic = codes "concyclic"

-- the word's text
abbrev pub statement_text : StatementWord → List ℕ
statement_text Equal = codes "equal"
statement_text Identical = codes "identical"
statement_text (Triple w) = triple_text w
statement_text (Quadruple w) = quadruple_text w

-- what is due behind the word
abbrev pub statement_due : StatementWord → List Slot
statement_due Equal = side ++ side
statement_due Identical = a_point ∷ a_point ∷ []
statement_due (Triple w) = a_point ∷ a_point ∷ a_point ∷ []
statement_due (Quadruple w) = a_point ∷ a_point ∷ a_point ∷ a_point ∷ []

-- the word's text
abbrev pub expression_text : ExpressionWord → List ℕ
expression_text SignedArea = codes "signed_area3"
expression_text PythagorasDifference = codes "pythagoras_difference3"
expression_text Ratio = codes "sratio"
expression_text Neg = codes "neg"
expression_text Sum = codes "sum"
expression_text Sub = codes "sub"
expression_text Mult = codes "mult"
expression_text Div = codes "div"

-- what is due behind the word, inside so many braces, where ratios may stand or not
abbrev pub expression_due : ℕ → Bool → ExpressionWord → List Slot
expression_due level ratios SignedArea = a_point ∷ a_point ∷ a_point ∷ []
expression_due level ratios PythagorasDifference = a_point ∷ a_point ∷ a_point ∷ []
expression_due level ratios Ratio = a_point ∷ a_point ∷ a_point ∷ a_point ∷ []
expression_due level ratios Neg = part level ratios
expression_due level ratios Sum = part level ratios ++ part level ratios
expression_due level ratios Sub = part level ratios ++ part level ratios
expression_due level ratios Mult = part level ratios ++ part level ratios
expression_due level ratios Div = part level ratios ++ part level false
