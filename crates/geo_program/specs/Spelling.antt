-- Which programs a text spells.
use Rattle.std.specs.Prelude.{◌≡◌, ◌⊎◌, ℕ, None, List, [], ◌∷◌, map}
use Rattle.std.specs.List.{flat_map}
use Rattle.geo_lexer.specs.Lexemes.{HasLexemes}
use Rattle.geo_program.specs.declared.commands.Command.{Command}
use Rattle.geo_program.specs.declared.commands.Command.TheVariants.{Point}
use Rattle.geo_program.specs.CanonicalText.{Sketch, line_lexemes}
use Rattle.geo_program.specs.Forms.{command_form, statement_form}
use Rattle.geo_program.specs.WellFormed.{Source, IsWellFormed}

-- each command has its place for two numbers, which only `point` may fill
abbrev pub AreSketches : List Command → List Sketch → Type 0
AreSketches [] [] = Unit {0}
AreSketches (command ∷ commands) (sketch ∷ sketches) = ((sketch ≡ None) ⊎ (command ≡ Point)) × AreSketches commands sketches
AreSketches _ _ = ⊥

-- the text's tokens are those of the well-formed program, but for the numbers that may follow the names of points
pub record SpellsSource (bytes : List ℕ) (p : Source) : Type 0 where
  pub well_formed : IsWellFormed p
  pub sketches : List Sketch
  pub sketched : AreSketches p.commands sketches
  pub lexemes : HasLexemes bytes (flat_map (λ line. line) (line_lexemes sketches p))

-- two programs are the same: their names, and their commands and statements with all terms unfolded
pub record SameSource (p q : Source) : Type 0 where
  pub names : p.names ≡ q.names
  pub commands : map (command_form p.nodes) p.commands ≡ map (command_form q.nodes) q.commands
  pub statement : statement_form p.nodes p.statement ≡ statement_form q.nodes q.statement
