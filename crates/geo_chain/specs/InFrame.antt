-- The steps, chains, samples and lines that come next, by the frame.
use Rattle.std.specs.Prelude.{◌≡◌, ℕ, ◌⊎◌, Bool, true, not, ℤ, List, [], ◌∷◌}
use Rattle.geo_poly.specs.declared.variables.Var.{Var}
use Rattle.geo_poly.specs.Polynomials.{Summands}
use Rattle.geo_sample.specs.Samples.{SearchEndsIn}
use Rattle.geo_terms.specs.Constructions.{Construction}
use Rattle.proof_log.specs.declared.log.Line.{Line}
use Rattle.proof_log.specs.declared.log.Line.TheVariants.{Coords, End, Sample}
use Rattle.elim_apply.specs.LemmaTable.{lemma_table}
use Rattle.geo_chain.specs.NextLines.{IsNextLine}
use Rattle.geo_logs.specs.Chains.{ChainStep, IsEnd, line_of}
use Rattle.geo_logs.specs.Defined.{IsDefinedChain, LeadsBySteps, NoCutDue}
use Rattle.geo_logs.specs.Ends.{IsNext, Next, comes, stops}
use Rattle.geo_logs.specs.Logs.{Chains, Samples}
use Rattle.geo_logs.specs.Places.{Paths, Place, before_sample, in_chain}
use Rattle.geo_logs.specs.Samples.{IsLeastSample, error_of, sample_variables}
use Rattle.geo_chain.specs.declared.frame.Frame.{Frame}
use Rattle.geo_chain.specs.declared.frame.Frame.TheVariants.{Full, Fixed}
use Rattle.geo_chain.specs.FixedLogs.{IsFixedChain, IsFixedSample, LeadsInFrame}
use Rattle.geo_chain.specs.Frames.{at_origin, framed_variables, is_of_first_point}

-- which steps lead from a polynomial to another
abbrev pub leads_in : Frame → Construction → Paths
leads_in Full c = LeadsBySteps lemma_table c
leads_in Fixed c = LeadsInFrame lemma_table c

-- which chain a term has
abbrev pub works_in : Frame → Construction → Chains
works_in Full c = IsDefinedChain lemma_table c
works_in Fixed c = IsFixedChain lemma_table c

-- which sample is chosen
abbrev pub chosen_in : Frame → Construction → Samples
chosen_in Full c = IsLeastSample c
chosen_in Fixed c = IsFixedSample c

-- the variables of a sample
abbrev pub variables_in : Frame → Construction → List Var
variables_in Full c = sample_variables c
variables_in Fixed c = framed_variables c

-- the variable has no value yet
abbrev pub is_in_frame : Frame → Var → Bool
is_in_frame Full v = true
is_in_frame Fixed v = not (is_of_first_point v)

-- the line of a step, where what a move to coordinates gives is taken at the origin
abbrev pub framed_line : Frame → Line → Line
framed_line Fixed (Coords q) = Coords (at_origin q)
framed_line _ line = line

-- what comes at a place; a stop comes where it does in the full frame, but for the sample
abbrev pub IsNextIn : Frame → Construction → Place → Next → Type 0
IsNextIn Full c place next = IsNext lemma_table c place next
IsNextIn Fixed c (in_chain known left q) (comes line) =
    ((step : ChainStep) × (left' : ℕ) × (r : Summands) × LeadsInFrame lemma_table c known left q (step ∷ []) left' r
    × (line ≡ line_of step))
    ⊎ (NoCutDue known q × IsEnd q × (line ≡ End))
IsNextIn Fixed c (before_sample listed left) (comes line) =
    (values : List (Var × ℤ)) × (left' : ℕ) × IsFixedSample c listed left values left' × (line ≡ Sample values)
IsNextIn Fixed c (before_sample listed left) (stops stop) =
    (rest : ℕ) × SearchEndsIn (error_of stop) (framed_variables c) listed left rest
IsNextIn Fixed c place next = IsNext lemma_table c place next

-- the line is the one that the prover writes after q, in this frame
pub record IsNextLineIn (frame : Frame) (c : Construction) (known : List Var) (left : ℕ) (q : Summands) (line : Line)
    (left' : ℕ) : Type 0 where
  pub own : Line
  pub next : IsNextLine c known left q own left'
  pub is : line ≡ framed_line frame own
