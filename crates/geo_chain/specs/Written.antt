-- What one write does to a log and to its sink.
use Rattle.std.specs.Prelude.{◌≡◌, ℕ, suc, ◌+◌, ◌≤◌, ◌⊎◌, Option, List, [], ◌∷◌, length, take}
use Rattle.geo_base.specs.Devices.{HasRisen}
use Rattle.geo_logs.specs.Ends.{stop_line, text_length}
use Rattle.geo_logs.specs.Moves.{Stop, spent, too_large}
use Rattle.proof_log.specs.declared.log.Line.{Line}
use Rattle.proof_log.specs.Lines.{log_text}
use Rattle.geo_chain.specs.declared.errors.ProveError.{ProveError}
use Rattle.geo_chain.specs.declared.errors.ProveError.TheVariants.{TooLarge, Spent, TooLong, WriteFault, NoMemory}
use Rattle.geo_chain.specs.declared.log_writer.LogWriter.{LogWriter}
use Rattle.geo_chain.specs.declared.size.Size.{Size}
use Rattle.geo_chain.specs.declared.size.Size.TheVariants.{Written}
use Rattle.geo_chain.specs.Sizes.{Fits, HoldsText, IsPastLimit, IsSizeAfter, with_text}

-- how many lines of a log there are, the size of their text, the bytes that its sink holds, and the sink's count of faults
pub record State : Type 0 where
  pub lines : ℕ
  pub size : Size
  pub held : Option (List ℕ)
  pub faults : ℕ

abbrev pub state : LogWriter → Option (List ℕ) → ℕ → State
state log held faults = record { lines = log.lines; size = log.size; held = held; faults = faults }

-- nothing of the log is written yet
abbrev pub first_state : Option (List ℕ) → ℕ → State
first_state held faults = record { lines = 0; size = Written 0; held = held; faults = faults }

-- these lines were written, or counted, or bounded
pub record Writes (lines : List Line) (s t : State) : Type 0 where
  pub counted : t.lines ≡ s.lines + length lines
  pub measured : IsSizeAfter s.size (text_length lines) t.size
  pub written : HoldsText s.size s.held (log_text lines) t.held
  pub faults : t.faults ≡ s.faults

-- the first bytes of the text were written
pub record WritesSome (text : List ℕ) (s t : State) : Type 0 where
  pub count : ℕ
  pub written : HoldsText s.size s.held (take count text) t.held
  pub faults : s.faults ≤ t.faults

-- the line takes the text past its limit, and was not written
pub record IsLeftOut (line : Line) (s t : State) : Type 0 where
  pub long : IsPastLimit (with_text s.size (text_length (line ∷ [])))
  pub kept : t.held ≡ s.held
  pub faults : t.faults ≡ s.faults

-- the line is within the limit, and the first bytes of it were written; or none were
abbrev pub IsCutOff : Line → State → State → Type 0
IsCutOff line s t =
    (Fits (with_text s.size (text_length (line ∷ []))) × WritesSome (log_text (line ∷ [])) s t)
    ⊎ ((t.held ≡ s.held) × (s.faults ≤ t.faults))

-- why the line was not written
abbrev pub IsUnwritten : Line → State → State → ProveError → Type 0
IsUnwritten line s t (TooLarge n which) = ⊥
IsUnwritten line s t (Spent n) = ⊥
IsUnwritten line s t TooLong = IsLeftOut line s t
IsUnwritten line s t WriteFault = IsCutOff line s t × HasRisen s.faults t.faults
IsUnwritten line s t NoMemory = IsCutOff line s t × (t.faults ≡ s.faults)

-- why the text was not written: it is past the limit; or the first bytes of it were written
abbrev pub IsTextUnwritten : List ℕ → State → State → ProveError → Type 0
IsTextUnwritten text s t (TooLarge n which) = ⊥
IsTextUnwritten text s t (Spent n) = ⊥
IsTextUnwritten text s t TooLong = IsPastLimit (with_text s.size (length text)) × (t.held ≡ s.held) × (t.faults ≡ s.faults)
IsTextUnwritten text s t WriteFault = WritesSome text s t × HasRisen s.faults t.faults
IsTextUnwritten text s t NoMemory = WritesSome text s t × (t.faults ≡ s.faults)

-- the line of the stop was written, or would be next, and has this number
pub record IsStopWritten (stop : Stop) (number : ℕ) (s t : State) : Type 0 where
  pub last : number ≡ suc s.lines
  pub written : HoldsText s.size s.held (log_text (stop_line number stop ∷ [])) t.held
  pub faults : t.faults ≡ s.faults

-- the stop is answered, with its line; or the first bytes of the line were written
abbrev pub HasStopped : Stop → State → State → ProveError → Type 0
HasStopped stop s t (TooLarge n which) = (stop ≡ too_large which) × IsStopWritten stop n s t
HasStopped stop s t (Spent n) = (stop ≡ spent) × IsStopWritten stop n s t
HasStopped stop s t TooLong = ⊥
HasStopped stop s t WriteFault = WritesSome (log_text (stop_line (suc s.lines) stop ∷ [])) s t × HasRisen s.faults t.faults
HasStopped stop s t NoMemory = WritesSome (log_text (stop_line (suc s.lines) stop ∷ [])) s t × (t.faults ≡ s.faults)
