-- What the printer works with.
use Rattle.std.specs.Prelude.{◌≡◌, ℕ, ◌<◌, ◌≤◌, true, List, [], ◌∷◌, ◌++◌, length, map}
use Rattle.std.specs.Borrow.{Bor}
use Rattle.std.specs.List.{flat_map}
use Rattle.geo_lexer.specs.Lexemes.{Lexeme}
use Rattle.geo_points.specs.declared.ids.TermId.{TermId}
use Rattle.geo_program.specs.declared.names.Name.{Name}
use Rattle.geo_program.specs.declared.names.NameKind.TheVariants as kind
use Rattle.geo_program.specs.CanonicalText.{lexeme_text, line_text}
use Rattle.geo_program.specs.Expressions.{IsExpression, nesting}
use Rattle.geo_program.specs.Names.{names_of}
use Rattle.geo_program.specs.WellFormed.{Scope, empty_scope, scope_of}
use Rattle.geo_terms.specs.Stores.{Store, IsStore, tree_of}

-- these are the texts of the names, kind by kind
pub record IsNumbered (names : List Name) (p q r : List (Bor (List ℕ))) : Type 0 where
  pub points : map (λ text. text.now) p ≡ names_of kind.Point names
  pub params : map (λ text. text.now) q ≡ names_of kind.Param names
  pub lines : map (λ text. text.now) r ≡ names_of kind.Line names

-- what the names declare
abbrev pub whole_scope : List Name → Scope
whole_scope names = scope_of empty_scope names

-- lexemes, each with a space before it
unfoldable pub spaced_text : List Lexeme → List ℕ
spaced_text lexemes = flat_map (λ lexeme. 32 ∷ lexeme_text lexeme) lexemes

-- lines, each with its line feed
abbrev pub lines_text : List (List Lexeme) → List ℕ
lines_text lines = flat_map (λ line. line_text line ++ 10 ∷ []) lines

-- the term stands in a store, and is an expression over the names whose braces stand at most 128 deep
pub record IsPrintableTerm (names : List Name) (nodes : Store) (e : TermId) : Type 0 where
  pub store : IsStore nodes
  pub stored : e.0 < length nodes
  pub expression : IsExpression (whole_scope names).points (whole_scope names).params true (tree_of nodes e)
  pub shallow : nesting (tree_of nodes e) ≤ 128
