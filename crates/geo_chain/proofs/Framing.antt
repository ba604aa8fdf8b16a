-- Places, chains and samples in either frame.
use Rattle.std.proofs.Common.{◌≡◌, ℕ, pos, ℤ, List, refl}
use Rattle.fraction_poly.specs.TableRows.{HasPointsBelow}
use Rattle.geo_chain.specs.NextLines.{HasLinePointsBelow}
use Rattle.geo_poly.specs.declared.variables.Var.{Var}
use Rattle.geo_poly.specs.declared.variables.Var.TheVariants.{X, Y}
use Rattle.geo_poly.specs.Polynomials.{Summands}
use Rattle.geo_poly.specs.PolynomialVariables.{AllVariables}
use Rattle.geo_poly.specs.Specialise.{specialised}
use Rattle.geo_poly.proofs.KeptVariables.{of-specialised}
use Rattle.geo_sample.specs.Samples.{SearchEndsIn}
use Rattle.geo_sample.specs.Samples as Search
use Rattle.geo_sample.specs.Tries.{AreMade, search_tries}
use Rattle.geo_terms.specs.Constructions.{Construction}
use Rattle.geo_terms.specs.Trees.{Tree}
use Rattle.proof_log.specs.declared.log.Line.{Line}
use Rattle.proof_log.specs.declared.log.Line.TheVariants as line
use Rattle.elim_apply.specs.LemmaTable.{lemma_table}
use Rattle.geo_logs.specs.Ends.{IsNext, comes, stops}
use Rattle.geo_logs.specs.Moves.{Stop}
use Rattle.geo_logs.specs.Places.{before_line, before_sample, before_start, in_chain}
use Rattle.geo_logs.specs.Samples.{error_of}
use Rattle.geo_logs.specs.Starts.{IsStarted, start_of}
use Rattle.geo_chain.specs.declared.frame.Frame.{Frame}
use Rattle.geo_chain.specs.declared.frame.Frame.TheVariants.{Full, Fixed}
use Rattle.geo_chain.specs.Frames.{first_point}
use Rattle.geo_chain.specs.InFrame.{IsNextIn, chosen_in, framed_line, variables_in}

-- a line that is due by itself
pub line_due : (frame : Frame) (c : Construction) (l : Line) → IsNextIn frame c (before_line l) (comes l)
line_due Full c l = refl
line_due Fixed c l = refl

-- a start, and a stop there
pub start_due : (frame : Frame) (c : Construction) (left : ℕ) (e : Tree) (l : Line) → l ≡ line.Start (start_of e) → IsStarted left e
    → IsNextIn frame c (before_start left e) (comes l)
start_due Full c left e l is h = (is, h)
start_due Fixed c left e l is h = (is, h)

pub start_stops : (frame : Frame) (c : Construction) (left : ℕ) (e : Tree) (stop : Stop)
    → IsNext lemma_table c (before_start left e) (stops stop) → IsNextIn frame c (before_start left e) (stops stop)
start_stops Full c left e stop h = h
start_stops Fixed c left e stop h = h

-- a stop in a chain
pub chain_stops : (frame : Frame) (c : Construction) (known : List Var) (left : ℕ) (q : Summands) (stop : Stop)
    → IsNext lemma_table c (in_chain known left q) (stops stop)
    → IsNextIn frame c (in_chain known left q) (stops stop)
chain_stops Full c known left q stop h = h
chain_stops Fixed c known left q stop h = h

-- the sample, and a stop there
pub sample_due : (frame : Frame) (c : Construction) (listed : List Summands) (left : ℕ) (values : List (Var × ℤ)) (left' : ℕ)
    → chosen_in frame c listed left values left'
    → IsNextIn frame c (before_sample listed left) (comes (line.Sample values))
sample_due Full c listed left values left' h = (values, left', h, refl)
sample_due Fixed c listed left values left' h = (values, left', h, refl)

pub sample_stops : (frame : Frame) (c : Construction) (listed : List Summands) (left : ℕ) (stop : Stop) (rest : ℕ)
    → SearchEndsIn (error_of stop) (variables_in frame c) listed left rest
    → IsNextIn frame c (before_sample listed left) (stops stop)
sample_stops Full c listed left stop rest h = (rest, h)
sample_stops Fixed c listed left stop rest h = (rest, h)

pub chosen_of : (frame : Frame) (c : Construction) (listed : List Summands) (left : ℕ) (values : List (Var × ℤ)) (left' : ℕ)
    → Search.IsLeastSample (variables_in frame c) listed values
    → AreMade left (search_tries values listed) left' → chosen_in frame c listed left values left'
chosen_of Full c listed left values left' least made = record { least = least; made = made }
chosen_of Fixed c listed left values left' least made = record { least = least; made = made }

-- no points come in at the origin
origin_points : (n : ℕ) (q : Summands) → AllVariables (HasPointsBelow n) q
    → AllVariables (HasPointsBelow n) (specialised (Y first_point) (pos 0) (specialised (X first_point) (pos 0) q))
origin_points n q h =
    of-specialised (HasPointsBelow n) (Y first_point) (pos 0) (specialised (X first_point) (pos 0) q)
    (of-specialised (HasPointsBelow n) (X first_point) (pos 0) q h)

pub framed_points : (n : ℕ) (frame : Frame) (l : Line) → HasLinePointsBelow n l → HasLinePointsBelow n (framed_line frame l)
framed_points n Full l h = h
framed_points n Fixed (line.Coords q) h = origin_points n q h
framed_points n Fixed (line.Start r) h = h
framed_points n Fixed (line.Ratio v lemma at r) h = h
framed_points n Fixed (line.Point at r) h = h
framed_points n Fixed (line.Cut by r) h = h
framed_points n Fixed (line.Header v) h = h
framed_points n Fixed (line.Program t) h = h
framed_points n Fixed (line.Condition k t) h = h
framed_points n Fixed (line.Goal k t) h = h
framed_points n Fixed line.End h = h
framed_points n Fixed (line.Sample vs) h = h
framed_points n Fixed (line.Verdict v) h = h
framed_points n Fixed (line.StopTooLarge m w) h = h
framed_points n Fixed (line.StopSpent m) h = h
