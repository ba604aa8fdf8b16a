-- What is answered where the log in the fixed frame does not end with a verdict.
use Rattle.std.specs.Prelude.{ℕ}
use Rattle.geo_program.specs.WellFormed.{Source}
use Rattle.geo_logs.specs.Moves.{spent, too_large}
use Rattle.geo_chain.specs.declared.errors.ProveError.{ProveError}
use Rattle.geo_chain.specs.declared.errors.ProveError.TheVariants as stopped
use Rattle.geo_discover.specs.declared.errors.FixedError.{FixedError}
use Rattle.geo_discover.specs.declared.errors.FixedError.TheVariants.{Spent, TooLarge, NoMemory}
use Rattle.geo_discover.specs.FixedEnds.{StopsAtLine}

-- the same stop; lines that are counted are not too long, and no write of them fails
abbrev pub fixed_by : ProveError → FixedError
fixed_by (stopped.Spent n) = Spent n
fixed_by (stopped.TooLarge n which) = TooLarge n which
fixed_by stopped.TooLong = NoMemory
fixed_by stopped.WriteFault = NoMemory
fixed_by stopped.NoMemory = NoMemory

-- the stop is that of the program's log
abbrev pub IsFixedStop : Source → ℕ → FixedError → Type 0
IsFixedStop p steps (Spent n) = StopsAtLine p steps spent n
IsFixedStop p steps (TooLarge n which) = StopsAtLine p steps (too_large which) n
IsFixedStop p steps NoMemory = Unit {0}
