-- The header and the lines of the program.
use Rattle.std.specs.Prelude.{◌≡◌, ℕ, ◌≤◌, List, [], ◌∷◌, ◌++◌, map, take}
use Rattle.std.specs.List.{AllByRecursion}
use Rattle.geo_base.specs.Devices.{HasRisen}
use Rattle.geo_logs.specs.Ends.{text_length}
use Rattle.geo_program.specs.CanonicalText.{line_lexemes, line_text, no_sketches}
use Rattle.geo_program.specs.WellFormed.{Source}
use Rattle.proof_log.specs.declared.log.Line.{Line}
use Rattle.proof_log.specs.declared.log.Line.TheVariants.{Header, Program as ProgramLine}
use Rattle.proof_log.specs.Lines.{log_text}
use Rattle.proof_log.specs.Writable.{HasNoLineFeed}
use Rattle.geo_chain.specs.declared.errors.ProveError.{ProveError}
use Rattle.geo_chain.specs.declared.errors.ProveError.TheVariants.{TooLarge, Spent, TooLong, WriteFault, NoMemory}
use Rattle.geo_chain.specs.Sizes.{Fits, HoldsText, IsPastLimit, with_text}
use Rattle.geo_chain.specs.Written.{State}

-- the lines of the program's canonical text, without their line feeds
abbrev pub text_lines : Source → List (List ℕ)
text_lines p = map line_text (line_lexemes (no_sketches p.commands) p)

-- none of them has a line feed, as is so of every well-formed program
abbrev pub HasNoLineFeeds : Source → Type 0
HasNoLineFeeds p = AllByRecursion HasNoLineFeed (text_lines p)

-- the lines of a log that come before its chains
abbrev pub program_lines : Source → List Line
program_lines p = Header 2 ∷ map ProgramLine (text_lines p)

-- some of the lines were written, and the next one takes the text past its limit
pub record IsTooLongAmong (all : List Line) (s t : State) : Type 0 where
  pub before : List Line
  pub line : Line
  pub rest : List Line
  pub split : all ≡ before ++ line ∷ rest
  pub fits : Fits (with_text s.size (text_length before))
  pub long : IsPastLimit (with_text s.size (text_length (before ++ line ∷ [])))
  pub written : HoldsText s.size s.held (log_text before) t.held
  pub faults : t.faults ≡ s.faults

-- some of the lines were written, within the limit, the last of them perhaps in part
pub record IsPartAmong (all : List Line) (s t : State) : Type 0 where
  pub before : List Line
  pub rest : List Line
  pub count : ℕ
  pub split : all ≡ before ++ rest
  pub fits : Fits (with_text s.size (text_length before))
  pub written : HoldsText s.size s.held (take count (log_text before)) t.held
  pub faults : s.faults ≤ t.faults

-- where the writing of lines breaks off, and why
abbrev pub IsBrokenOffAmong : List Line → State → State → ProveError → Type 0
IsBrokenOffAmong all s t (TooLarge n which) = ⊥
IsBrokenOffAmong all s t (Spent n) = ⊥
IsBrokenOffAmong all s t TooLong = IsTooLongAmong all s t
IsBrokenOffAmong all s t WriteFault = IsPartAmong all s t × HasRisen s.faults t.faults
IsBrokenOffAmong all s t NoMemory = IsPartAmong all s t × (t.faults ≡ s.faults)
