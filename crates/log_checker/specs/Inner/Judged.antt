-- What the code answers of a line or of a rest, where a state is what some lines leave.
use Rattle.std.specs.Prelude.{◌≡◌, ◌≢◌, ℕ, ◌+◌, ◌≤◌, ◌⊎◌, Option, Some, List, [], ◌∷◌, ◌++◌, length, map}
use Rattle.geo_program.specs.CanonicalText.{canonical_text}
use Rattle.geo_program.specs.Programs.{source_of}
use Rattle.geo_program.specs.WellFormed.{IsWellFormed, Source}
use Rattle.geo_lowering.specs.declared.version.Version.{Version}
use Rattle.proof_log.specs.declared.log.Line.{Line}
use Rattle.proof_log.specs.Lines.{line_text, log_text}
use Rattle.proof_log.specs.Writable.{AllWritable, IsWritable}
use Rattle.geo_logs.specs.Judging.{Refusal, rejected, wrong_program}
use Rattle.log_checker.specs.Checkers.{IsAtWork, IsLeftBy, head_of, subject_of}
use Rattle.log_checker.specs.Inner.Lines.{GoesOn, IsRefusedAfter}
use Rattle.log_checker.specs.Judged.{IsFirstStop, IsRead}
use Rattle.log_checker.specs.Laws.{IsAcceptedLog}
use Rattle.log_checker.specs.declared.accepted.Accepted.{Accepted}
use Rattle.log_checker.specs.declared.state.State.{State}
use Rattle.log_checker.specs.declared.state.State.TheVariants.{Failed}
use Rattle.log_checker.specs.declared.work.Work.{Work}

-- lines of at most 67,108,864 bytes leave the state
pub record Leaves (steps : ℕ) (lines : List Line) (state : State) : Type 0 where
  pub writable : AllWritable lines
  pub fits : length (log_text lines) ≤ 67108864
  pub left : IsLeftBy steps state lines

-- some such lines leave it, or it has failed
abbrev pub IsReachedState : ℕ → State → Type 0
IsReachedState steps (Failed error) = Unit {0}
IsReachedState steps state = (lines : List Line) × Leaves steps lines state

-- behind these lines the first stop is at what is read next, whatever follows
abbrev pub StopsNext : ℕ → List Line → Option Line → ℕ → Refusal → Type 0
StopsNext steps lines read number refusal = (more : List (Option Line)) → IsFirstStop steps (map Some lines ++ read ∷ more) number refusal

-- where nothing follows these lines, the first stop is this
abbrev pub StopsThere : ℕ → List Line → ℕ → Refusal → Type 0
StopsThere steps lines number refusal = IsFirstStop steps (map Some lines) number refusal

-- what was read is a line, and with it the lines leave this state
pub record IsNextState (steps : ℕ) (lines : List Line) (read : Option Line) (state : State) : Type 0 where
  pub line : Line
  pub is_read : read ≡ Some line
  pub left : IsLeftBy steps state (lines ++ line ∷ [])

-- what was read is a line, with which the work goes on
pub record GoesOnWith (w : Work) (read : Option Line) (w' : Work) : Type 0 where
  pub line : Line
  pub is_read : read ≡ Some line
  pub goes : GoesOn w line w'

-- the work is refused at this number
pub record IsRefusedWork (w : Work) (steps : ℕ) (good : List Line) (read : Option Line) (number n : ℕ) (refusal : Refusal) : Type 0 where
  pub at : n ≡ number
  pub refused : IsRefusedAfter (subject_of (head_of w) w.problem) steps good read refusal

-- the bytes are the text of no program
pub record IsNoProgram (bytes : List ℕ) (n : ℕ) (refusal : Refusal) : Type 0 where
  pub at : n ≡ 2
  pub refused : refusal ≡ rejected wrong_program
  pub none : (p : Source) → IsWellFormed p → canonical_text p ≢ bytes

-- a work by this version, of the program with this text, where no line came behind it
pub record IsBegunWork (version : Version) (bytes : List ℕ) (steps : ℕ) (w : Work) : Type 0 where
  pub version-is : w.version ≡ version
  pub text : canonical_text (source_of w.program) ≡ bytes
  pub begun : IsAtWork w steps []

-- the first line behind the program is refused: the bytes are the text of no program, or the work refuses it
abbrev pub IsFirstRefused : Version → List ℕ → ℕ → Option Line → ℕ → ℕ → Refusal → Type 0
IsFirstRefused version bytes steps read number n refusal =
    IsNoProgram bytes n refusal ⊎ ((w : Work) × IsBegunWork version bytes steps w × IsRefusedWork w steps [] read number n refusal)

-- what was read is a line, with which the work begins
pub record BeginsWith (version : Version) (bytes : List ℕ) (steps : ℕ) (read : Option Line) (w' : Work) : Type 0 where
  pub work : Work
  pub begun : IsBegunWork version bytes steps work
  pub goes : GoesOnWith work read w'

-- the answer is that of the accepted lines
pub record IsAnswerOf (steps : ℕ) (lines : List Line) (answer : Accepted) : Type 0 where
  pub accepted : IsAcceptedLog (source_of answer.program) steps lines answer.verdict
  pub version : answer.version ≡ accepted.subject.version
  pub counted : answer.lines ≡ length lines
  pub charged : answer.charge + accepted.left ≡ steps

-- the piece is the text of a line, with which the lines leave this state
pub record IsNextPiece (steps : ℕ) (lines : List Line) (piece : List ℕ) (state : State) : Type 0 where
  pub line : Line
  pub writable : IsWritable line
  pub text : line_text line ≡ piece
  pub left : IsLeftBy steps state (lines ++ line ∷ [])

-- what is read of the piece stops behind the lines
pub record StopsAtPiece (steps : ℕ) (lines : List Line) (piece : List ℕ) (number : ℕ) (refusal : Refusal) : Type 0 where
  pub read : Option Line
  pub is_read : IsRead piece read
  pub stops : StopsNext steps lines read number refusal
