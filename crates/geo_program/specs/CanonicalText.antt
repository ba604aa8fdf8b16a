-- The lexemes of a program, line by line, and its canonical text.
use Rattle.std.specs.Prelude.{ℕ, codes, ℤ, Option, Some, None, List, [], ◌∷◌, ◌++◌, map}
use Rattle.std.specs.Fmt.{signed_decimal}
use Rattle.std.specs.List.{flat_map, join_with_byte}
use Rattle.geo_lexer.specs.Lexemes.{Lexeme, word_lexeme, number_lexeme, open_brace, close_brace}
use Rattle.geo_program.specs.declared.commands.Command.{Command}
use Rattle.geo_program.specs.declared.names.Name.{Name}
use Rattle.geo_program.specs.declared.names.NameKind.TheVariants.{Point, Line}
use Rattle.geo_program.specs.declared.statements.Statement.{Statement}
use Rattle.geo_program.specs.Expressions.{braced, expression_lexemes}
use Rattle.geo_program.specs.Forms.{Argument, point_argument, line_argument, number_argument, side_argument, command_form, statement_form}
use Rattle.geo_program.specs.Names.{name_text}
use Rattle.geo_program.specs.WellFormed.{Source, own_names, later_names}
use Rattle.geo_terms.specs.Stores.{Store}

-- the spelling of an argument
abbrev pub argument_lexemes : List Name → Argument → List Lexeme
argument_lexemes names (point_argument a) = word_lexeme (name_text Point names a.0) ∷ []
argument_lexemes names (line_argument a) = word_lexeme (name_text Line names a.0) ∷ []
argument_lexemes names (number_argument e) = expression_lexemes names e
argument_lexemes names (side_argument e) = braced (expression_lexemes names e)

-- the two numbers that may follow the name of a point
abbrev pub Sketch : Type 0
Sketch = Option (ℤ × ℤ)

-- the spelling of the two numbers
abbrev pub sketch_lexemes : Sketch → List Lexeme
sketch_lexemes None = []
sketch_lexemes (Some (m, n)) = number_lexeme m ∷ number_lexeme n ∷ []

-- the word of a condition that is assumed
abbrev pub condition_lexemes : Option (List ℕ) → List Lexeme
condition_lexemes None = []
condition_lexemes (Some word) = word_lexeme word ∷ []

-- a command with its own name, if it makes one
abbrev pub command_lexemes : List Name → Store → List Name → Command → List Lexeme
command_lexemes names nodes own command =
    word_lexeme (command_form nodes command).word ∷ condition_lexemes (command_form nodes command).condition
    ++ (map (λ name. word_lexeme name.text) own ++ flat_map (argument_lexemes names) (command_form nodes command).arguments)

-- the commands, each with the numbers that follow it
abbrev pub commands_lexemes : List Name → Store → List Name → List Command → List Sketch → List (List Lexeme)
commands_lexemes all nodes names (command ∷ commands) (sketch ∷ sketches) =
    (command_lexemes all nodes (own_names (command_form nodes command) names) command ++ sketch_lexemes sketch)
    ∷ commands_lexemes all nodes (later_names (command_form nodes command) names) commands sketches
commands_lexemes all nodes _ _ _ = []

-- `prove { .. }`
abbrev pub statement_lexemes : List Name → Store → Statement → List Lexeme
statement_lexemes names nodes s =
    word_lexeme (codes "prove")
    ∷ braced (word_lexeme (statement_form nodes s).word ∷ flat_map (argument_lexemes names) (statement_form nodes s).arguments)

-- the lexemes of each command and of the statement
abbrev pub line_lexemes : List Sketch → Source → List (List Lexeme)
line_lexemes sketches p = commands_lexemes p.names p.nodes p.names p.commands sketches ++ statement_lexemes p.names p.nodes p.statement ∷ []

-- no command is followed by numbers
abbrev pub no_sketches : List Command → List Sketch
no_sketches commands = map (λ c. None) commands

-- THE CANONICAL TEXT

-- a lexeme as text
abbrev pub lexeme_text : Lexeme → List ℕ
lexeme_text (word_lexeme text) = text
lexeme_text (number_lexeme n) = signed_decimal n
lexeme_text open_brace = codes "{"
lexeme_text close_brace = codes "}"

-- lexemes with single spaces between them
abbrev pub line_text : List Lexeme → List ℕ
line_text lexemes = join_with_byte 32 (map lexeme_text lexemes)

-- one command a line and then the statement, each line with its line feed
abbrev pub canonical_text : Source → List ℕ
canonical_text p = flat_map (λ line. line_text line ++ 10 ∷ []) (line_lexemes (no_sketches p.commands) p)
