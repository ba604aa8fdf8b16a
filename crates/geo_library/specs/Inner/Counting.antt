-- Chains that are counted and not written.
use Rattle.std.specs.Prelude.{◌≡◌, ℕ, suc, ◌+◌, Option, Some, None, List, [], ◌∷◌, length, map}
use Rattle.geo_poly.specs.declared.variables.Var.{Var}
use Rattle.geo_poly.specs.Polynomials.{Summands}
use Rattle.geo_terms.specs.Constructions.{Construction}
use Rattle.geo_terms.specs.Trees.{Tree}
use Rattle.proof_log.specs.declared.log.Line.{Line}
use Rattle.elim_apply.specs.LemmaTable.{lemma_table}
use Rattle.elim_apply.specs.declared.errors.ApplyError.{ApplyError}
use Rattle.elim_apply.specs.declared.errors.ApplyError.TheVariants as apply
use Rattle.geo_logs.specs.Chains.{Chain, ChainStep, IsEnd, chain_lines}
use Rattle.geo_logs.specs.Defined.{IsDefinedChain, LeadsBySteps, NoCutDue}
use Rattle.geo_logs.specs.Ends.{IsNext, stops}
use Rattle.geo_logs.specs.Moves.{Stop, spent, too_large}
use Rattle.geo_logs.specs.Places.{IsBegunChain, Place, in_chain}
use Rattle.geo_logs.specs.Samples.{IsLeastSample}
use Rattle.geo_library.specs.declared.errors.CiteError.{CiteError}
use Rattle.geo_library.specs.declared.errors.CiteError.TheVariants as cite
use Rattle.geo_library.specs.Working.{counted_header}

-- STOPS
-- the error that a stop at the line of this number is
abbrev pub error_of_stop : ApplyError → ℕ → CiteError
error_of_stop apply.Spent number = cite.Spent number
error_of_stop (apply.TooLarge which) number = cite.TooLarge number which
error_of_stop _ number = cite.NoMemory

-- the error tells a stop of which this is so, of the line of its number; want of memory tells nothing
abbrev pub TellsStop : (ℕ → Stop → Type 0) → CiteError → Type 0
TellsStop IsSo (cite.Spent number) = IsSo number spent
TellsStop IsSo (cite.TooLarge number which) = IsSo number (too_large which)
TellsStop IsSo cite.NoMemory = Unit {0}
TellsStop IsSo _ = ⊥

-- the stop comes next at the place, in the line of this number
abbrev pub IsStopAt : Construction → Place → ℕ → ℕ → Stop → Type 0
IsStopAt c place due number stop = (number ≡ due) × IsNext lemma_table c place (stops stop)

module _ (c : Construction) (known : List Var) (lines left : ℕ) where
  -- STEPS
  -- so many lines later the prover's steps from the first polynomial have come to an end
  pub record AreStepsWorked (first : Summands) (lines' left' : ℕ) (end : Summands) : Type 0 where
    pub steps : List ChainStep
    pub leads : LeadsBySteps lemma_table c known left first steps left' end
    pub no_cut : NoCutDue known end
    pub ended : IsEnd end
    pub counted : lines' ≡ lines + length steps + 1

  -- behind some of them the stop comes, in the line of this number
  pub record AreStepsStopped (first : Summands) (number : ℕ) (stop : Stop) : Type 0 where
    pub steps : List ChainStep
    pub after : ℕ
    pub last : Summands
    pub leads : LeadsBySteps lemma_table c known left first steps after last
    pub next : IsNext lemma_table c (in_chain known after last) (stops stop)
    pub counted : number ≡ suc (lines + length steps)

  -- CHAINS
  -- so many lines later the prover's chain of the term has come to an end
  pub record IsChainWorked (e : Tree) (lines' left' : ℕ) (end : Summands) : Type 0 where
    pub chain : Chain
    pub works : IsDefinedChain lemma_table c known left e chain left'
    pub ended : chain.end ≡ end
    pub counted : lines' ≡ lines + length (chain_lines counted_header e chain)

  -- behind some of its lines the stop comes, in the line of this number
  pub record IsChainHalted (e : Tree) (number : ℕ) (stop : Stop) : Type 0 where
    pub before : List Line
    pub place : Place
    pub begun : IsBegunChain (LeadsBySteps lemma_table c) (IsDefinedChain lemma_table c) (IsLeastSample c) counted_header known left e before place
    pub next : IsNext lemma_table c place (stops stop)
    pub counted : number ≡ suc (lines + length before)
