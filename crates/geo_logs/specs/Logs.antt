-- Logs: a header, the program, the chains of its conditions and goals, a sample, a verdict.
use Rattle.std.specs.Prelude.{◌≡◌, ◌≢◌, ℕ, suc, ◌==◌, ◌⊎◌, cond, ℤ, Option, Some, None, List, [], ◌∷◌, ◌++◌, map}
use Rattle.std.specs.List.{filter_map}
use Rattle.geo_poly.specs.declared.variables.Var.{Var}
use Rattle.geo_poly.specs.Monomials.{Powers}
use Rattle.geo_poly.specs.Polynomials.{Summands}
use Rattle.geo_terms.specs.Constructions.{Construction}
use Rattle.geo_terms.specs.Trees.{Tree}
use Rattle.proof_log.specs.declared.log.Line.{Line}
use Rattle.proof_log.specs.declared.log.Line.TheVariants.{Header, Program as ProgramLine, Condition, Goal, Sample, Verdict as VerdictLine}
use Rattle.proof_log.specs.declared.log.Verdict.{Verdict}
use Rattle.proof_log.specs.declared.log.Verdict.TheVariants.{Proved, False, Impossible}
use Rattle.geo_logs.specs.Chains.{Chain, IsAcceptedChain, chain_lines}
use Rattle.geo_logs.specs.Starts.{start_of}
use Rattle.geo_logs.specs.Moves.{Table}
use Rattle.geo_logs.specs.Samples.{IsAcceptedSample}

-- WHAT A LOG IS ABOUT
-- a condition or a goal: its text, and the term that is not 0, or is 0, where it holds
pub record Item : Type 0 where
  pub text : List ℕ
  pub term : Tree

-- a program as a log takes it: the version of the log, the lines of the program, its construction, its conditions and its goals
pub record Subject : Type 0 where
  pub version : ℕ
  pub program : List (List ℕ)
  pub construction : Construction
  pub conditions : List Item
  pub goals : List Item

-- KNOWN VARIABLES
-- the variable that a monomial is, alone and not raised to a power
abbrev pub sole_variable : Powers → Option Var
sole_variable [] = None
sole_variable (p ∷ []) = cond (p.1 == 1) (Some p.0) None
sole_variable (p ∷ r ∷ m) = None

-- the variable of which a polynomial is a multiple by a number
abbrev pub only_variable : Summands → Option Var
only_variable [] = None
only_variable (t ∷ []) = sole_variable t.0
only_variable (t ∷ u ∷ ts) = None

-- the variables that the conditions make known: the start of one is a nonzero integer times that variable alone
abbrev pub known_by : List Item → List Var
known_by items = filter_map (λ item. only_variable (start_of item.term)) items

-- THE FORM OF A LOG, whichever chains and samples may stand in it
-- which chains of a term may stand, with these variables known, and with so many steps left before and after
abbrev pub Chains : Type 1
Chains = List Var → ℕ → Tree → Chain → ℕ → Type 0

-- which samples for the listed polynomials may stand, with so many steps left before and after
abbrev pub Samples : Type 1
Samples = List Summands → ℕ → List (Var × ℤ) → ℕ → Type 0

module _ (Works : Chains) (IsChosen : Samples) where
  -- the lines begin with the chain of the item
  pub record BeginsWithChain (header : Line) (known : List Var) (left : ℕ) (item : Item) (lines : List Line) : Type 0 where
    pub chain : Chain
    pub after : ℕ
    pub rest : List Line
    pub split : lines ≡ chain_lines header item.term chain ++ rest
    pub works : Works known left item.term chain after

  -- the lines are a sample for the listed polynomials, and the verdict
  pub record IsConcluded (listed : List Summands) (left : ℕ) (lines : List Line) (verdict : Verdict) (left' : ℕ) : Type 0 where
    pub values : List (Var × ℤ)
    pub chosen : IsChosen listed left values left'
    pub split : lines ≡ Sample values ∷ VerdictLine verdict ∷ []

  -- the chains of the goals from number k on, up to and with the first that does not end in 0, and the end of the log
  abbrev pub AreGoalsWorked : List Var → List Summands → ℕ → ℕ → List Item → List Line → Verdict → ℕ → Type 0
  AreGoalsWorked known listed k left [] lines verdict left' = (verdict ≡ Proved) × IsConcluded listed left lines Proved left'
  AreGoalsWorked known listed k left (item ∷ items) lines verdict left' =
      (first : BeginsWithChain (Goal k item.text) known left item lines)
      × ((first.chain.end ≡ []) × AreGoalsWorked known listed (suc k) first.after items first.rest verdict left'
      ⊎ (first.chain.end ≢ []) × (verdict ≡ False k) × IsConcluded (listed ++ first.chain.end ∷ []) first.after first.rest (False k) left')

  -- the chains of the conditions from number k on, up to and with the first that ends in 0, and what follows; `known` and `listed` come
  -- from those before
  abbrev pub AreConditionsWorked : List Item → List Var → List Summands → ℕ → ℕ → List Item → List Line → Verdict → ℕ → Type 0
  AreConditionsWorked goals known listed k left [] lines verdict left' = AreGoalsWorked known listed 1 left goals lines verdict left'
  AreConditionsWorked goals known listed k left (item ∷ items) lines verdict left' =
      (first : BeginsWithChain (Condition k item.text) known left item lines)
      × ((first.chain.end ≡ []) × (verdict ≡ Impossible k) × (first.rest ≡ VerdictLine (Impossible k) ∷ []) × (first.after ≡ left')
      ⊎ (first.chain.end ≢ [])
      × AreConditionsWorked goals (known ++ known_by (item ∷ [])) (listed ++ first.chain.end ∷ []) (suc k) first.after
      items first.rest verdict left')

  -- the lines are a log of the subject with this verdict: the header, the program, the chains, a sample, the verdict
  pub record IsLog (subject : Subject) (steps : ℕ) (lines : List Line) (verdict : Verdict) (left : ℕ) : Type 0 where
    pub rest : List Line
    pub split : lines ≡ Header subject.version ∷ map ProgramLine subject.program ++ rest
    pub worked : AreConditionsWorked subject.goals [] [] 1 steps subject.conditions rest verdict left

-- ACCEPTED LOGS
-- the lines are an accepted log, whoever wrote it: chains of any moves and cuts, and any sample, all within so many steps, of which `left`
-- are left
abbrev pub IsAccepted : Table → Subject → ℕ → List Line → Verdict → ℕ → Type 0
IsAccepted table subject = IsLog (IsAcceptedChain table subject.construction) (IsAcceptedSample subject.construction) subject
