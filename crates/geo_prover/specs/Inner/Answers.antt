-- What the prover answers where the log does not end with a verdict.
use Rattle.std.specs.Prelude.{◌≡◌, ℕ, ◌≤◌}
use Rattle.geo_base.specs.Devices.{HasRisen}
use Rattle.geo_logs.specs.Ends.{too_long}
use Rattle.geo_logs.specs.Moves.{spent, too_large}
use Rattle.geo_program.specs.WellFormed.{Source}
use Rattle.geo_chain.specs.declared.errors.ProveError.{ProveError}
use Rattle.geo_chain.specs.declared.errors.ProveError.TheVariants.{TooLarge, Spent, TooLong, WriteFault, NoMemory}
use Rattle.geo_prover.specs.Proving.{WritesToStop, WritesLog, WritesPart}
use Rattle.geo_chain.specs.Written.{State}

-- the error, and what was written
abbrev pub IsAnswerOf : Source → ℕ → State → State → ProveError → Type 0
IsAnswerOf p steps s t (TooLarge n which) = WritesToStop p steps s.held t.held (too_large which) n × (t.faults ≡ s.faults)
IsAnswerOf p steps s t (Spent n) = WritesToStop p steps s.held t.held spent n × (t.faults ≡ s.faults)
IsAnswerOf p steps s t TooLong = WritesLog p steps s.held t.held too_long × (t.faults ≡ s.faults)
IsAnswerOf p steps s t WriteFault = HasRisen s.faults t.faults × WritesPart p steps s.held t.held × (s.faults ≤ t.faults)
IsAnswerOf p steps s t NoMemory = WritesPart p steps s.held t.held × (t.faults ≡ s.faults)
