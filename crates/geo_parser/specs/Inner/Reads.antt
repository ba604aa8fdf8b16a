-- What the steps of the reader read, and what they refuse.
use Rattle.std.specs.Prelude.{◌≡◌, ◌⊎◌, ℕ, ◌+◌, ◌<◌, ◌≤◌, All, Bool, ℤ, codes, Option, Some, None, List, [], ◌∷◌, ◌++◌, length, map, sum_by}
use Rattle.std.specs.List.{flat_map}
use Rattle.geo_points.specs.declared.ids.TermId.{TermId}
use Rattle.geo_lexer.specs.declared.token_types.Fault.{Fault}
use Rattle.geo_lexer.specs.Lexemes.{Lexeme, word_lexeme, number_lexeme}
use Rattle.geo_program.specs.CanonicalText.{Sketch, argument_lexemes, commands_lexemes, condition_lexemes, sketch_lexemes}
use Rattle.geo_program.specs.Expressions.{IsExpression, braced, expression_lexemes, nesting}
use Rattle.geo_program.specs.Forms.{AreSidesStored, Argument, IsStored, command_form, line_argument, number_argument, point_argument, side_argument, statement_form}
use Rattle.geo_program.specs.Names.{name_text, names_of}
use Rattle.geo_program.specs.Spelling.{AreSketches}
use Rattle.geo_program.specs.WellFormed.{AllDiffer, AreCommands, IsArgument, Scope, empty_scope, kinds_made, scope_of}
use Rattle.geo_program.specs.Words.{IsNameText}
use Rattle.geo_program.specs.declared.commands.Command.{Command}
use Rattle.geo_program.specs.declared.commands.Command.TheVariants.{Point}
use Rattle.geo_program.specs.declared.names.Name.{Name}
use Rattle.geo_program.specs.declared.names.NameKind.{NameKind}
use Rattle.geo_program.specs.declared.statements.Statement.{Statement}
use Rattle.geo_terms.specs.Stores.{HasChildrenBelow, HasShortInteger, Store, node_tree, tree_of, trees_of}
use Rattle.geo_terms.specs.Trees.{Tree}
use Rattle.geo_terms.specs.declared.nodes.Node.{Node}
use Rattle.geo_parser.specs.declared.command_words.CommandWord.{CommandWord}
use Rattle.geo_parser.specs.declared.command_words.ConditionWord.{ConditionWord}
use Rattle.geo_parser.specs.declared.expression_words.ExpressionWord.{ExpressionWord}
use Rattle.geo_parser.specs.declared.reader.Reader.{Reader}
use Rattle.geo_parser.specs.declared.statement_words.StatementWord.{StatementWord}
use Rattle.geo_parser.specs.Inner.Coming.{fault_from, lexemes_of}
use Rattle.geo_parser.specs.Inner.CommandWords.{command_condition, command_due, command_kind, command_points, command_slots, command_text, condition_slots, condition_text}
use Rattle.geo_parser.specs.Inner.Dictionaries.{IsNew}
use Rattle.geo_parser.specs.Forms.{Slot, a_line, a_number, a_point, close_slot, command_slot, condition_slot, end_slot, expression_slot}
use Rattle.geo_parser.specs.Forms.{name_slot, new_name_slot, open_slot, second_number_slot, side, sketch_slot, statement_slot}
use Rattle.geo_parser.specs.Slots.{Reading}
use Rattle.geo_parser.specs.Inner.StatementWords.{expression_due, expression_text, statement_due, statement_text}

-- the names that are declared, that of the command which is being read, and the count of points
abbrev pub reading : List Name → List Name → ℕ → Reading
reading names begun points = record { declared = names; begun = begun; points = points }

-- the first refusal of what is to come, where these things are due
abbrev pub fault_of : Reader → List Name → List Slot → Option Fault
fault_of s begun slots = fault_from (reading s.names begun s.points) slots s.cursor

-- how many points, parameters and lines are declared
abbrev pub scope : Reader → Scope
scope s = scope_of empty_scope s.names

-- how many terms there are and tokens to come
abbrev pub extent : Reader → ℕ
extent s = length s.terms + length s.cursor.tokens

-- the longer store has the terms of the other
pub record Extends (old new : Store) : Type 0 where
  pub longer : length old ≤ length new
  pub others : (id : TermId) → id.0 < length old → tree_of new id ≡ tree_of old id

-- the reader has gone past these lexemes
pub record Passes (old new : Reader) (lexemes : List Lexeme) : Type 0 where
  pub spelt : lexemes_of old.cursor ≡ lexemes ++ lexemes_of new.cursor
  pub stop : new.cursor.stop ≡ old.cursor.stop

-- these things were due, and these lexemes stand there
pub record Reads (due : List Slot) (old new : Reader) (lexemes : List Lexeme) : Type 0 where
  pub passes : Passes old new lexemes
  pub names : new.names ≡ old.names
  pub points : new.points ≡ old.points
  pub terms : Extends old.terms new.terms
  pub room : extent new ≤ extent old
  pub follows : (begun : List Name) → (rest : List Slot) → fault_of old begun (due ++ rest) ≡ fault_of new begun rest

-- where these things are due, this is the first refusal, whatever is due behind them
pub record Refuses (due : List Slot) (old : Reader) (fault : Fault) : Type 0 where
  pub first : (begun : List Name) → (rest : List Slot) → fault_of old begun (due ++ rest) ≡ Some fault

-- ARGUMENTS

-- what is due for an argument
abbrev pub argument_slots : Argument → List Slot
argument_slots (point_argument a) = a_point ∷ []
argument_slots (line_argument a) = a_line ∷ []
argument_slots (number_argument e) = a_number ∷ []
argument_slots (side_argument e) = side

-- these arguments were due, and stand there
pub record ReadsArguments (arguments : List Argument) (old new : Reader) : Type 0 where
  pub reads : Reads (flat_map argument_slots arguments) old new (flat_map (argument_lexemes old.names) arguments)
  pub valid : All (IsArgument (scope old)) arguments

-- a declared name of this kind was due, and stands there
pub record ReadsName (kind : NameKind) (old new : Reader) (number : ℕ) : Type 0 where
  pub reads : Reads (name_slot kind ∷ []) old new (word_lexeme (name_text kind old.names number) ∷ [])
  pub within : number < length (names_of kind old.names)
  pub room : extent new < extent old

-- EXPRESSIONS

-- the tree is that of an expression inside so many braces
pub record IsTree (level : ℕ) (ratios : Bool) (s : Reader) (tree : Tree) : Type 0 where
  pub valid : IsExpression (scope s).points (scope s).params ratios tree
  pub nested : level + nesting tree ≤ 128

-- an expression inside so many braces stands there, and is this term
pub record ReadsExpression (level : ℕ) (ratios : Bool) (old new : Reader) (e : TermId) : Type 0 where
  pub reads : Reads (expression_slot level ratios ∷ []) old new (expression_lexemes old.names (tree_of new.terms e))
  pub stored : e.0 < length new.terms
  pub tree : IsTree level ratios old (tree_of new.terms e)

-- `{ e }`, where the brace is of this level
pub record ReadsPart (level : ℕ) (ratios : Bool) (old new : Reader) (e : TermId) : Type 0 where
  pub reads : Reads (open_slot level ∷ expression_slot level ratios ∷ close_slot ∷ []) old new
      (braced (expression_lexemes old.names (tree_of new.terms e)))
  pub stored : e.0 < length new.terms
  pub tree : IsTree level ratios old (tree_of new.terms e)

-- `{ e } { f }`
pub record ReadsParts (level : ℕ) (ratios ratios' : Bool) (old new : Reader) (e f : TermId) : Type 0 where
  pub reads : Reads ((open_slot level ∷ expression_slot level ratios ∷ close_slot ∷ [])
      ++ (open_slot level ∷ expression_slot level ratios' ∷ close_slot ∷ [])) old new
      (braced (expression_lexemes old.names (tree_of new.terms e)) ++ braced (expression_lexemes old.names (tree_of new.terms f)))
  pub stored : e.0 < length new.terms
  pub tree : IsTree level ratios old (tree_of new.terms e)
  pub stored' : f.0 < length new.terms
  pub tree' : IsTree level ratios' old (tree_of new.terms f)

-- the node may be put into the store
pub record IsStorable (s : Reader) (node : Node) : Type 0 where
  pub children : HasChildrenBelow (length s.terms) node
  pub integer : HasShortInteger node

-- the tree of a node whose parts are in the store
abbrev pub tree_of_node : Reader → Node → Tree
tree_of_node s node = node_tree (trees_of s.terms) node

-- an expression inside so many braces stands there, and this is its node
pub record ReadsNode (level : ℕ) (ratios : Bool) (old new : Reader) (node : Node) : Type 0 where
  pub reads : Reads (expression_slot level ratios ∷ []) old new (expression_lexemes old.names (tree_of_node new node))
  pub storable : IsStorable new node
  pub tree : IsTree level ratios old (tree_of_node new node)
  pub room : extent new < extent old

-- behind this word stands the rest of an expression, and this is its node
pub record ReadsFormed (form : ExpressionWord) (level : ℕ) (ratios : Bool) (old new : Reader) (node : Node) : Type 0 where
  pub lexemes : List Lexeme
  pub reads : Reads (expression_due level ratios form) old new lexemes
  pub spelt : expression_lexemes old.names (tree_of_node new node) ≡ word_lexeme (expression_text form) ∷ lexemes
  pub storable : IsStorable new node
  pub tree : IsTree level ratios old (tree_of_node new node)

-- COMMANDS

-- the word of a condition was due, and stands there
pub record ReadsCondition (word : ConditionWord) (old new : Reader) : Type 0 where
  pub passes : Passes old new (word_lexeme (condition_text word) ∷ [])
  pub names : new.names ≡ old.names
  pub points : new.points ≡ old.points
  pub terms : new.terms ≡ old.terms
  pub follows : (begun : List Name) → (rest : List Slot)
      → fault_of old begun (condition_slot ∷ rest) ≡ fault_of new begun (condition_slots word ++ rest)

-- the word of a command was due, and stands there; behind `assume` stands the word of a condition
pub record ReadsWord (word : CommandWord) (old new : Reader) : Type 0 where
  pub passes : Passes old new (word_lexeme (command_text word) ∷ condition_lexemes (command_condition word))
  pub names : new.names ≡ old.names
  pub points : new.points ≡ old.points
  pub terms : new.terms ≡ old.terms
  pub follows : (rest : List Slot) → fault_of old [] (command_slot ∷ rest) ≡ fault_of new [] (command_due word ++ command_slot ∷ rest)

-- what is due behind `prove`
abbrev pub statement_slots : List Slot
statement_slots = open_slot 0 ∷ statement_slot ∷ close_slot ∷ end_slot ∷ []

-- the word of a command was due, and `prove` stands there
pub record ReadsProve (old new : Reader) : Type 0 where
  pub passes : Passes old new (word_lexeme (codes "prove") ∷ [])
  pub names : new.names ≡ old.names
  pub points : new.points ≡ old.points
  pub terms : new.terms ≡ old.terms
  pub follows : (rest : List Slot) → fault_of old [] (command_slot ∷ rest) ≡ fault_of new [] statement_slots

-- a name of this kind
abbrev pub a_name : List ℕ → NameKind → Name
a_name text kind = record { text = text; kind = kind }

-- the new name of a command that makes so many points was due, and stands there
pub record ReadsNewName (points : ℕ) (old new : Reader) (text : List ℕ) : Type 0 where
  pub passes : Passes old new (word_lexeme text ∷ [])
  pub names : new.names ≡ old.names
  pub terms : new.terms ≡ old.terms
  pub counted : new.points ≡ old.points + points
  pub few : new.points ≤ 512
  pub valid : IsNameText text
  pub fresh : IsNew old.names text
  pub follows : (kind : NameKind) → (begun : List Name) → (rest : List Slot)
      → fault_of old begun (new_name_slot kind points ∷ rest) ≡ fault_of new (a_name text kind ∷ []) rest

-- two numbers may follow, and stand there or not
pub record ReadsSketch (old new : Reader) : Type 0 where
  pub sketch : Sketch
  pub reads : Reads (sketch_slot ∷ []) old new (sketch_lexemes sketch)

-- the second number was due, and stands there
pub record ReadsSecond (old new : Reader) : Type 0 where
  pub number : ℤ
  pub reads : Reads (second_number_slot ∷ []) old new (number_lexeme number ∷ [])

-- the command has this word
pub record HasWord (word : CommandWord) (nodes : Store) (command : Command) : Type 0 where
  pub text : (command_form nodes command).word ≡ command_text word
  pub condition : (command_form nodes command).condition ≡ command_condition word
  pub kind : (command_form nodes command).made ≡ command_kind word
  pub points : (command_form nodes command).points ≡ command_points word

-- what stands behind the new name, and the command that it makes
pub record ReadsForm (word : CommandWord) (old new : Reader) (command : Command) : Type 0 where
  pub sketch : Sketch
  pub sketched : (sketch ≡ None) ⊎ (command ≡ Point)
  pub named : HasWord word new.terms command
  pub reads : Reads (command_slots word) old new
      (flat_map (argument_lexemes old.names) (command_form new.terms command).arguments ++ sketch_lexemes sketch)
  pub valid : All (IsArgument (scope old)) (command_form new.terms command).arguments
  pub stored : IsStored new.terms command

-- what stands behind the word of a command: its new name, if it has one, and the rest
pub record ReadsCommand (word : CommandWord) (old new : Reader) (command : Command) : Type 0 where
  pub own : List Name
  pub sketch : Sketch
  pub sketched : (sketch ≡ None) ⊎ (command ≡ Point)
  pub named : HasWord word new.terms command
  pub passes : Passes old new
      (map (λ name. word_lexeme name.text) own
      ++ (flat_map (argument_lexemes old.names) (command_form new.terms command).arguments ++ sketch_lexemes sketch))
  pub names : new.names ≡ old.names ++ own
  pub kinds : map (λ name. name.kind) own ≡ kinds_made (command_form new.terms command)
  pub texts : All (λ name. IsNameText name.text) own
  pub differ : AllDiffer old.names → AllDiffer (old.names ++ own)
  pub valid : All (IsArgument (scope old)) (command_form new.terms command).arguments
  pub stored : IsStored new.terms command
  pub counted : new.points ≡ old.points + command_points word
  pub few : new.points ≤ 512
  pub terms : Extends old.terms new.terms
  pub room : extent new ≤ extent old
  pub follows : (rest : List Slot) → fault_of old [] (command_due word ++ command_slot ∷ rest) ≡ fault_of new [] (command_slot ∷ rest)

-- these commands stand there one after another, and the next one is due
pub record ReadsCommands (old new : Reader) (commands : List Command) : Type 0 where
  pub sketches : List Sketch
  pub sketched : AreSketches commands sketches
  pub passes : Passes old new (flat_map (λ line. line) (commands_lexemes new.names new.terms new.names commands sketches))
  pub made : AreCommands new.terms empty_scope new.names commands
  pub texts : All (λ name. IsNameText name.text) new.names
  pub differ : AllDiffer new.names
  pub counted : new.points ≡ sum_by (λ c. (command_form new.terms c).points) commands
  pub few : new.points ≤ 512
  pub room : extent new ≤ extent old
  pub names : length new.names + length new.cursor.tokens ≤ length old.cursor.tokens
  pub follows : fault_of old [] (command_slot ∷ []) ≡ fault_of new [] (command_slot ∷ [])

-- these commands stand there, and behind them `prove`
pub record ReadsAllCommands (old new : Reader) (commands : List Command) : Type 0 where
  pub middle : Reader
  pub read : ReadsCommands old middle commands
  pub prove : ReadsProve middle new

-- THE STATEMENT

-- the word of a statement was due, and stands there
pub record ReadsStatementWord (word : StatementWord) (old new : Reader) : Type 0 where
  pub passes : Passes old new (word_lexeme (statement_text word) ∷ [])
  pub names : new.names ≡ old.names
  pub points : new.points ≡ old.points
  pub terms : new.terms ≡ old.terms
  pub follows : (begun : List Name) → (rest : List Slot)
      → fault_of old begun (statement_slot ∷ rest) ≡ fault_of new begun (statement_due word ++ rest)

-- what stands behind the word of a statement, and the statement that it makes
pub record ReadsStated (word : StatementWord) (old new : Reader) (statement : Statement) : Type 0 where
  pub text : (statement_form new.terms statement).word ≡ statement_text word
  pub reads : Reads (statement_due word) old new (flat_map (argument_lexemes old.names) (statement_form new.terms statement).arguments)
  pub valid : All (IsArgument (scope old)) (statement_form new.terms statement).arguments
  pub sides : AreSidesStored new.terms statement

-- `{ STATEMENT }` and then the end of the text
pub record ReadsStatement (old new : Reader) (statement : Statement) : Type 0 where
  pub reads : Reads (open_slot 0 ∷ statement_slot ∷ close_slot ∷ []) old new
      (braced (word_lexeme (statement_form new.terms statement).word
      ∷ flat_map (argument_lexemes old.names) (statement_form new.terms statement).arguments))
  pub valid : All (IsArgument (scope old)) (statement_form new.terms statement).arguments
  pub sides : AreSidesStored new.terms statement
  pub ended : new.cursor.tokens ≡ []
  pub whole : new.cursor.stop ≡ None
