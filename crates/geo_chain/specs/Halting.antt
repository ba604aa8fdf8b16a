-- How a part of the log is written to its end, or where it stops.
use Rattle.std.specs.Prelude.{◌≡◌, ℕ, suc, ◌+◌, ◌≤◌, ◌⊎◌, Option, List, [], ◌∷◌, ◌++◌, length, map, take}
use Rattle.geo_base.specs.Devices.{HasRisen}
use Rattle.geo_poly.specs.declared.variables.Var.{Var}
use Rattle.geo_poly.specs.Polynomials.{Summands}
use Rattle.geo_terms.specs.Constructions.{Construction}
use Rattle.geo_terms.specs.Trees.{Tree}
use Rattle.proof_log.specs.declared.log.Line.{Line}
use Rattle.proof_log.specs.declared.log.Line.TheVariants.{End, Verdict as VerdictLine}
use Rattle.proof_log.specs.declared.log.Verdict.{Verdict}
use Rattle.proof_log.specs.declared.log.Verdict.TheVariants.{Impossible}
use Rattle.proof_log.specs.Lines.{log_text}
use Rattle.elim_apply.specs.declared.errors.ApplyError.{ApplyError}
use Rattle.elim_apply.specs.declared.errors.ApplyError.TheVariants.{NoRow, Spent as SpentThere, TooLarge as TooLargeThere}
use Rattle.elim_apply.specs.declared.errors.ApplyError.TheVariants.{NoMemory as NoMemoryThere}
use Rattle.geo_logs.specs.Chains.{Chain, ChainStep, IsEnd, chain_lines, line_of}
use Rattle.geo_logs.specs.Defined.{NoCutDue}
use Rattle.geo_logs.specs.Ends.{comes, stop_line, stops, text_length}
use Rattle.geo_logs.specs.Logs.{only_variable}
use Rattle.geo_logs.specs.Moves.{Stop, spent, too_large}
use Rattle.geo_logs.specs.Places.{Place, before_line}
use Rattle.geo_logs.specs.Starts.{start_of}
use Rattle.geo_chain.specs.declared.errors.ProveError.{ProveError}
use Rattle.geo_chain.specs.declared.errors.ProveError.TheVariants.{TooLarge, Spent, TooLong, WriteFault, NoMemory}
use Rattle.geo_chain.specs.declared.frame.Frame.{Frame}
use Rattle.geo_chain.specs.declared.size.Size.{Size}
use Rattle.geo_chain.specs.InFrame.{IsNextIn, leads_in, works_in}
use Rattle.geo_chain.specs.Parts.{Continues, Part}
use Rattle.geo_chain.specs.Sizes.{Fits, HoldsText, IsPastLimit, with_text}
use Rattle.geo_chain.specs.Written.{HasStopped, State, Writes}

-- STOPS
-- the part stops behind the lines, and the line of the stop was written
pub record IsStopped (frame : Frame) (c : Construction) (part : Part) (s t : State) (stop : Stop) (number : ℕ) : Type 0 where
  pub lines : List Line
  pub place : Place
  pub begun : part.begun lines place
  pub next : IsNextIn frame c place (stops stop)
  pub fits : Fits (with_text s.size (text_length lines))
  pub last : number ≡ suc (s.lines + length lines)
  pub written : HoldsText s.size s.held (log_text (lines ++ stop_line number stop ∷ [])) t.held
  pub faults : t.faults ≡ s.faults

-- the next line takes the text past its limit, and the lines before were written
pub record IsTooLong (frame : Frame) (c : Construction) (part : Part) (s t : State) : Type 0 where
  pub lines : List Line
  pub place : Place
  pub line : Line
  pub begun : part.begun lines place
  pub next : IsNextIn frame c place (comes line)
  pub fits : Fits (with_text s.size (text_length lines))
  pub long : IsPastLimit (with_text s.size (text_length (lines ++ line ∷ [])))
  pub written : HoldsText s.size s.held (log_text lines) t.held
  pub faults : t.faults ≡ s.faults

-- the text is the first bytes of the line that comes next, or of the stop line
abbrev pub IsPieceOfNext : Frame → Construction → Place → ℕ → Size → List ℕ → Type 0
IsPieceOfNext frame c place lines size text =
    (text ≡ [])
    ⊎ (((line : Line) × (count : ℕ) × IsNextIn frame c place (comes line) × Fits (with_text size (text_length (line ∷ [])))
    × (text ≡ take count (log_text (line ∷ []))))
    ⊎ ((stop : Stop) × (count : ℕ) × IsNextIn frame c place (stops stop)
    × (text ≡ take count (log_text (stop_line (suc lines) stop ∷ [])))))

-- the lines were written, and perhaps the first bytes of what comes next
pub record IsBrokenOff (frame : Frame) (c : Construction) (part : Part) (s t : State) : Type 0 where
  pub lines : List Line
  pub place : Place
  pub piece : List ℕ
  pub begun : part.begun lines place
  pub fits : Fits (with_text s.size (text_length lines))
  pub next : IsPieceOfNext frame c place (s.lines + length lines) (with_text s.size (text_length lines)) piece
  pub written : HoldsText s.size s.held (log_text lines ++ piece) t.held
  pub faults : s.faults ≤ t.faults

-- where the part stops, and why
abbrev pub Halts : Frame → Construction → Part → State → State → ProveError → Type 0
Halts frame c part s t (TooLarge n which) = IsStopped frame c part s t (too_large which) n
Halts frame c part s t (Spent n) = IsStopped frame c part s t spent n
Halts frame c part s t TooLong = IsTooLong frame c part s t
Halts frame c part s t WriteFault = IsBrokenOff frame c part s t × HasRisen s.faults t.faults
Halts frame c part s t NoMemory = IsBrokenOff frame c part s t × (t.faults ≡ s.faults)

-- a line that has no polynomial for this reason is answered so
abbrev pub IsStopAnswered : ApplyError → State → State → ProveError → Type 0
IsStopAnswered NoRow s t e = Unit {0}
IsStopAnswered SpentThere s t e = HasStopped spent s t e
IsStopAnswered (TooLargeThere which) s t e = HasStopped (too_large which) s t e
IsStopAnswered NoMemoryThere s t e = (e ≡ NoMemory) × (t ≡ s)

-- WHAT IS WRITTEN WHOLE
-- the steps from the polynomial on and the end were written, and the last polynomial is this
pub record WorksSteps (frame : Frame) (c : Construction) (known : List Var) (left : ℕ) (q : Summands) (left' : ℕ) (s t : State)
    (end : Summands)
    : Type 0 where
  pub steps : List ChainStep
  pub leads : leads_in frame c known left q steps left' end
  pub no_cut : NoCutDue known end
  pub ended : IsEnd end
  pub written : Writes (map line_of steps ++ End ∷ []) s t

-- the chain of the term was written; it ends so, and this variable is known then
pub record WorksChain (frame : Frame) (c : Construction) (header : Line) (known : List Var) (left : ℕ) (e : Tree) (left' : ℕ) (s t : State)
    (end : Summands)
    (variable : Option Var) : Type 0 where
  pub chain : Chain
  pub works : works_in frame c known left e chain left'
  pub ended : end ≡ chain.end
  pub told : variable ≡ only_variable (start_of e)
  pub written : Writes (chain_lines header e chain) s t

-- lines were written behind which the part goes on as another
pub record Passes (part next : Part) (s t : State) : Type 0 where
  pub lines : List Line
  pub continues : Continues part next lines
  pub written : Writes lines s t

-- lines were written behind which nothing but this verdict comes
pub record IsImpossibleAt (part : Part) (left : ℕ) (s t : State) (k : ℕ) : Type 0 where
  pub lines : List Line
  pub begun : part.begun lines (before_line (VerdictLine (Impossible k)))
  pub whole : part.whole (lines ++ VerdictLine (Impossible k) ∷ []) (Impossible k) left
  pub written : Writes lines s t

-- all of the part was written
pub record Finishes (part : Part) (s t : State) (verdict : Verdict) (left : ℕ) : Type 0 where
  pub lines : List Line
  pub whole : part.whole lines verdict left
  pub written : Writes lines s t
