-- Programs, by their parts.
use Rattle.std.specs.Prelude.{ℕ, List}
use Rattle.geo_program.specs.declared.program_type.Program.{Program}
use Rattle.geo_program.specs.CanonicalText.{canonical_text}
use Rattle.geo_program.specs.Spelling.{SameSource, SpellsSource}
use Rattle.geo_program.specs.WellFormed.{Source}

-- the parts of a program
abbrev pub source_of : Program → Source
source_of p = record { names = p.names; nodes = p.terms; commands = p.commands; statement = p.statement }

-- the bytes spell the program
abbrev pub Spells : List ℕ → Program → Type 0
Spells bytes p = SpellsSource bytes (source_of p)

-- the canonical text of the program
abbrev pub program_text : Program → List ℕ
program_text p = canonical_text (source_of p)

-- both are the same program
abbrev pub SameProgram : Program → Program → Type 0
SameProgram p q = SameSource (source_of p) (source_of q)
