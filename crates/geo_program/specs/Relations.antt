-- Relations of points as statements, and a program with another statement.
use Rattle.geo_program.specs.declared.statements.Statement.{Statement}
use Rattle.geo_program.specs.declared.statements.Statement.TheVariants.{Equal}
use Rattle.geo_program.specs.WellFormed.{Source}

-- the statement names points alone
abbrev pub IsRelation : Statement → Type 0
IsRelation (Equal e f) = ⊥
IsRelation _ = Unit {0}

-- the program with another statement
abbrev pub with_statement : Source → Statement → Source
with_statement p s = record p { statement = s }
