-- What texts say of the programs that they spell.
use Rattle.std.specs.Prelude.{◌≡◌, ℕ, List}
use Rattle.geo_program.specs.CanonicalText.{canonical_text}
use Rattle.geo_program.specs.Spelling.{SameSource, SpellsSource}
use Rattle.geo_program.specs.WellFormed.{IsWellFormed, Source}

-- the canonical text of a well-formed program spells it
abbrev pub WellFormedProgramsAreSpelt : Type 0
WellFormedProgramsAreSpelt = (p : Source) → IsWellFormed p → SpellsSource (canonical_text p) p

-- a text spells one program at most
abbrev pub TextSpellsOneProgram : Type 0
TextSpellsOneProgram = (bytes : List ℕ) (p q : Source) → SpellsSource bytes p → SpellsSource bytes q → SameSource p q

-- two programs that are the same have the same canonical text
abbrev pub SameProgramsHaveTheSameText : Type 0
SameProgramsHaveTheSameText = (p q : Source) → SameSource p q → canonical_text p ≡ canonical_text q
