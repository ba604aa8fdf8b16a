-- The prover's log in the fixed frame: that of the prover, with the first point at the origin from each move to coordinates on, and no
-- limit of its text.
use Rattle.std.specs.Prelude.{◌≡◌, ℕ, ◌-◌, ℤ, List, [], ◌∷◌}
use Rattle.geo_poly.specs.declared.variables.Var.{Var}
use Rattle.geo_poly.specs.Polynomials.{Summands}
use Rattle.geo_sample.specs.Samples.{SearchEndsIn}
use Rattle.geo_sample.specs.Samples as Search
use Rattle.geo_sample.specs.Tries.{AreMade, search_tries}
use Rattle.geo_terms.specs.Constructions.{Construction}
use Rattle.geo_terms.specs.Trees.{Tree}
use Rattle.proof_log.specs.declared.log.Line.{Line}
use Rattle.geo_logs.specs.Chains.{Chain, ChainStep, IsEnd}
use Rattle.geo_logs.specs.Defined.{LeadsBySteps, NoCutDue}
use Rattle.geo_logs.specs.Ends.{Ending, IsNext, ends_by, ends_with, stops, too_long}
use Rattle.geo_logs.specs.Logs.{IsLog, Subject}
use Rattle.geo_logs.specs.Moves.{Stop, Table}
use Rattle.geo_logs.specs.Places.{IsBegun, Place, before_sample}
use Rattle.geo_logs.specs.Samples.{error_of}
use Rattle.geo_logs.specs.Starts.{IsStarted, start_charge, start_of}
use Rattle.geo_chain.specs.Frames.{after_step, framed, framed_variables}

-- CHAINS
-- each step is the one that the prover makes on the polynomial before it, in the fixed frame
abbrev pub LeadsInFrame : Table → Construction → List Var → ℕ → Summands → List ChainStep → ℕ → Summands → Type 0
LeadsInFrame table c known left q [] left' e = (left ≡ left') × (q ≡ e)
LeadsInFrame table c known left q (step ∷ steps) left' e =
    (own : ChainStep) × (after : ℕ) × LeadsBySteps table c known left q (own ∷ []) after (after_step own) × (step ≡ framed own)
    × LeadsInFrame table c known after (after_step step) steps left' e

-- the chain of the term in the fixed frame
pub record IsFixedChain (table : Table) (c : Construction) (known : List Var) (left : ℕ) (e : Tree) (chain : Chain) (left' : ℕ)
    : Type 0 where
  pub started : IsStarted left e
  pub leads : LeadsInFrame table c known (left - start_charge e) (start_of e) chain.steps left' chain.end
  pub no_cut : NoCutDue known chain.end
  pub ended : IsEnd chain.end

-- SAMPLES
-- the least values of the variables but the coordinates of the first point, and the tries that find them, none past its limits
pub record IsFixedSample (c : Construction) (listed : List Summands) (left : ℕ) (values : List (Var × ℤ)) (left' : ℕ) : Type 0 where
  pub least : Search.IsLeastSample (framed_variables c) listed values
  pub made : AreMade left (search_tries values listed) left'

-- WHOLE LOGS
-- a stop is due at a place: that of the prover, and for the sample that of the search for the values of this frame
abbrev pub IsStopInFrame : Table → Construction → Place → Stop → Type 0
IsStopInFrame table c (before_sample listed left) stop = (rest : ℕ) × SearchEndsIn (error_of stop) (framed_variables c) listed left rest
IsStopInFrame table c place stop = IsNext table c place (stops stop)

-- the lines are the log of the subject in the fixed frame with so many steps; at a stop, those before its line
abbrev pub IsFixedLog : Table → Subject → ℕ → List Line → Ending → Type 0
IsFixedLog table subject steps lines (ends_with verdict left) =
    IsLog (IsFixedChain table subject.construction) (IsFixedSample subject.construction) subject steps lines verdict left
IsFixedLog table subject steps lines (ends_by stop) =
    let c = subject.construction in
    (place : Place) × IsBegun (LeadsInFrame table c) (IsFixedChain table c) (IsFixedSample c) subject steps lines place
    × IsStopInFrame table c place stop
IsFixedLog table subject steps lines too_long = ⊥
