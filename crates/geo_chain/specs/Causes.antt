-- Errors by their causes.
use Rattle.geo_chain.specs.declared.errors.ProveError.{ProveError}
use Rattle.geo_chain.specs.declared.errors.ProveError.TheVariants.{WriteFault, NoMemory}

-- the sink failed, or memory ran out
abbrev pub IsOfSink : ProveError → Type 0
IsOfSink WriteFault = Unit {0}
IsOfSink NoMemory = Unit {0}
IsOfSink _ = ⊥
