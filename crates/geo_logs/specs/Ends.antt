-- The prover's log with its end: a verdict, or the first line at which a stop is due.
use Rattle.std.specs.Prelude.{◌≡◌, ℕ, suc, ◌<◌, ◌≤◌, ◌⊎◌, ℤ, List, [], ◌∷◌, ◌++◌, length}
use Rattle.geo_poly.specs.declared.variables.Var.{Var}
use Rattle.geo_poly.specs.Polynomials.{Summands}
use Rattle.geo_terms.specs.Constructions.{Construction}
use Rattle.geo_terms.specs.Trees.{Tree}
use Rattle.proof_log.specs.declared.log.Line.{Line}
use Rattle.proof_log.specs.declared.log.Line.TheVariants.{Start, End, Sample, StopTooLarge, StopSpent}
use Rattle.proof_log.specs.declared.log.Verdict.{Verdict}
use Rattle.geo_logs.specs.declared.moves.Move.{Move}
use Rattle.geo_logs.specs.Chains.{ChainStep, IsEnd, line_of}
use Rattle.geo_logs.specs.Starts.{IsStarted, IsStartStopped, start_of}
use Rattle.geo_logs.specs.Defined.{IsDefinedChain, IsLogOfProver, IsNextMove, LeadsBySteps, NoCutDue}
use Rattle.proof_log.specs.Lines.{log_text}
use Rattle.geo_logs.specs.Logs.{Subject}
use Rattle.geo_logs.specs.Moves.{IsMoveStopped, Table, replacement, Stop, spent, too_large}
use Rattle.geo_logs.specs.Places.{Place, IsBegun, before_line, before_sample, before_start, in_chain}
use Rattle.geo_logs.specs.Samples.{IsLeastSample, IsSearchStopped}

-- WHAT COMES NEXT
-- what comes in the prover's log after some of its lines: a further line, or a stop
pub data Next : Type 0 where
  comes : Line → Next
  stops : Stop → Next

-- what comes after the header of a chain
abbrev pub IsAfterHeader : ℕ → Tree → Next → Type 0
IsAfterHeader left e (comes line) = (line ≡ Start (start_of e)) × IsStarted left e
IsAfterHeader left e (stops stop) = IsStartStopped left e stop

-- what comes in a chain after the polynomial q
abbrev pub IsAfterPolynomial : Table → Construction → List Var → ℕ → Summands → Next → Type 0
IsAfterPolynomial table c known left q (comes line) =
    ((step : ChainStep) × (left' : ℕ) × (r : Summands) × LeadsBySteps table c known left q (step ∷ []) left' r × (line ≡ line_of step))
    ⊎ (NoCutDue known q × IsEnd q × (line ≡ End))
IsAfterPolynomial table c known left q (stops stop) =
    (move : Move) × NoCutDue known q × IsNextMove table c q move × IsMoveStopped (replacement table c move q) left q stop

-- what comes where the sample is due
abbrev pub IsAtSample : Construction → List Summands → ℕ → Next → Type 0
IsAtSample c listed left (comes line) =
    (values : List (Var × ℤ)) × (left' : ℕ) × IsLeastSample c listed left values left' × (line ≡ Sample values)
IsAtSample c listed left (stops stop) = IsSearchStopped c listed left stop

-- what comes at a place
abbrev pub IsNext : Table → Construction → Place → Next → Type 0
IsNext table c (before_line line) next = next ≡ comes line
IsNext table c (before_start left e) next = IsAfterHeader left e next
IsNext table c (in_chain known left q) next = IsAfterPolynomial table c known left q next
IsNext table c (before_sample listed left) next = IsAtSample c listed left next

-- the lines begin the prover's log, and this comes next
abbrev pub GoesOn : Table → Subject → ℕ → List Line → Next → Type 0
GoesOn table subject steps lines next =
    let c = subject.construction in
    (place : Place) × IsBegun (LeadsBySteps table c) (IsDefinedChain table c) (IsLeastSample c) subject steps lines place
    × IsNext table c place next

-- THE DEFINED LOG
-- how it ends: with a verdict and so many steps left, by a stop, or since its text gets too long
pub data Ending : Type 0 where
  ends_with : Verdict → ℕ → Ending
  ends_by : Stop → Ending
  too_long : Ending

-- the line of a stop
abbrev pub stop_line : ℕ → Stop → Line
stop_line n spent = StopSpent n
stop_line n (too_large which) = StopTooLarge n which

-- the length of the text
abbrev pub text_length : List Line → ℕ
text_length lines = length (log_text lines)

-- the lines are the prover's log of the subject with so many steps. At a stop its line stands behind the lines before, and no limit counts
-- it; a line that takes the text past its limit is left out
abbrev pub IsDefinedLog : Table → Subject → ℕ → List Line → Ending → Type 0
IsDefinedLog table subject steps lines (ends_with verdict left) =
    IsLogOfProver table subject steps lines verdict left × (text_length lines ≤ 67108864)
IsDefinedLog table subject steps lines (ends_by stop) =
    (before : List Line) × (lines ≡ before ++ stop_line (suc (length before)) stop ∷ []) × GoesOn table subject steps before (stops stop)
    × (text_length before ≤ 67108864)
IsDefinedLog table subject steps lines too_long =
    (line : Line) × GoesOn table subject steps lines (comes line) × (text_length lines ≤ 67108864)
    × (67108864 < text_length (lines ++ line ∷ []))
