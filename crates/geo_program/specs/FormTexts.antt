-- The text of a word and what stands behind it, as in a statement, outside a program.
use Rattle.std.specs.Prelude.{ℕ, List, ◌∷◌}
use Rattle.std.specs.List.{flat_map}
use Rattle.geo_lexer.specs.Lexemes.{word_lexeme}
use Rattle.geo_program.specs.CanonicalText.{argument_lexemes, line_text}
use Rattle.geo_program.specs.declared.names.Name.{Name}
use Rattle.geo_program.specs.Forms.{StatementForm}

-- the word, and then each argument, with single spaces between all tokens
abbrev pub form_text : List Name → StatementForm → List ℕ
form_text names f = line_text (word_lexeme f.word ∷ flat_map (argument_lexemes names) f.arguments)
