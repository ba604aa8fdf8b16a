-- What refusals say of spelling.
use Rattle.std.specs.Prelude.{◌≡◌, ◌⊎◌, ℕ, List}
use Rattle.geo_lexer.specs.declared.token_types.Fault.{Fault}
use Rattle.geo_parser.specs.Refusals.{IsRefused}
use Rattle.geo_program.specs.Programs.{SameProgram, Spells, program_text}
use Rattle.geo_program.specs.Spelling.{SpellsSource}
use Rattle.geo_program.specs.WellFormed.{Source}
use Rattle.geo_program.specs.declared.program_type.Program.{Program}

-- a text that spells a program is not refused
abbrev pub SpeltTextsAreNotRefused : Type 0
SpeltTextsAreNotRefused = (bytes : List ℕ) (p : Source) (fault : Fault) → SpellsSource bytes p → IsRefused bytes fault → ⊥

-- each text spells a program, or it is refused
abbrev pub TextsSpellOrAreRefused : Type 0
TextsSpellOrAreRefused = (bytes : List ℕ) → ((p : Source) × SpellsSource bytes p) ⊎ ((fault : Fault) × IsRefused bytes fault)

-- a text has one first refusal
abbrev pub RefusalsAreUnique : Type 0
RefusalsAreUnique = (bytes : List ℕ) (f g : Fault) → IsRefused bytes f → IsRefused bytes g → f ≡ g

-- the canonical text of a program is that of no other program, and is not refused
pub record IsReadAgain (p : Program) : Type 0 where
  pub same : (q : Program) → Spells (program_text p) q → SameProgram p q
  pub allowed : (fault : Fault) → IsRefused (program_text p) fault → ⊥

-- the canonical text of each program is read again
abbrev pub PrintedProgramsAreRead : Type 0
PrintedProgramsAreRead = (p : Program) → IsReadAgain p
