-- What a run reads.
use Rattle.std.specs.Prelude.{◌≡◌, ℕ, ◌+◌, ◌≤◌, List, length, Option}
use Rattle.geo_base.specs.Devices.{HasEnded, Loses}
use Rattle.geo_cli.specs.declared.order.Command.{Command}
use Rattle.geo_cli.specs.declared.order.Command.TheVariants.{Bench, Check, Cite, Text}

-- the most bytes of a program
abbrev pub program_limit : ℕ
program_limit = 1048576

-- the most bytes of a log, and of a log, names and a program
abbrev pub log_limit : ℕ
log_limit = 67108864

-- the most bytes of what a command reads: those of a log, or else of a program; `bench` reads nothing
abbrev pub limit_of : Command → ℕ
limit_of Check = log_limit
limit_of Text = log_limit
limit_of Cite = log_limit
limit_of (Bench number) = 0
limit_of _ = program_limit

-- all bytes of the source were read, and they are within the limit
pub record IsInput (limit : ℕ) (left : Option (List ℕ)) (bytes : List ℕ) (left' : Option (List ℕ)) : Type 0 where
  pub lost : Loses left bytes left'
  pub ended : HasEnded left'
  pub short : length bytes ≤ limit

-- the source gave more bytes than the limit
pub record IsLong (limit : ℕ) (left left' : Option (List ℕ)) : Type 0 where
  pub taken : List ℕ
  pub lost : Loses left taken left'
  pub longer : length taken ≡ limit + 1

-- the source lost the bytes that were taken, at most one past the limit
pub record Takes (limit : ℕ) (left left' : Option (List ℕ)) : Type 0 where
  pub taken : List ℕ
  pub lost : Loses left taken left'
  pub few : length taken ≤ limit + 1
