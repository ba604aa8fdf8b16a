-- Where a log stands after some of its lines.
use Rattle.std.specs.Prelude.{◌≡◌, ◌≢◌, ℕ, suc, ◌-◌, ◌⊎◌, ℤ, Some, List, [], ◌∷◌, ◌++◌, map, slice_get, take}
use Rattle.geo_poly.specs.declared.variables.Var.{Var}
use Rattle.geo_poly.specs.Polynomials.{Summands}
use Rattle.geo_terms.specs.Trees.{Tree}
use Rattle.proof_log.specs.declared.log.Line.{Line}
use Rattle.proof_log.specs.declared.log.Line.TheVariants.{Header, Program as ProgramLine, Condition, Goal, Start, Sample, Verdict as VerdictLine}
use Rattle.proof_log.specs.declared.log.Verdict.{Verdict}
use Rattle.proof_log.specs.declared.log.Verdict.TheVariants.{Proved, False, Impossible}
use Rattle.geo_logs.specs.Chains.{ChainStep, line_of}
use Rattle.geo_logs.specs.Starts.{IsStarted, start_charge, start_of}
use Rattle.geo_logs.specs.Logs.{BeginsWithChain, Chains, Item, Samples, Subject, known_by}

-- what is due next
pub data Place : Type 0 where
  -- this very line: the header, a line of the program, the header of a chain, the verdict
  before_line : Line → Place
  -- the start of the term, with so many steps left
  before_start : ℕ → Tree → Place
  -- in a chain with these known variables, with so many steps left, after this polynomial
  in_chain : List Var → ℕ → Summands → Place
  -- the sample for the listed polynomials, with so many steps left
  before_sample : List Summands → ℕ → Place

-- which steps may lead from a polynomial to another, with these known variables, and with so many steps left before and after
abbrev pub Paths : Type 1
Paths = List Var → ℕ → Summands → List ChainStep → ℕ → Summands → Type 0

-- the header and the lines of the program
abbrev pub first_lines : Subject → List Line
first_lines subject = Header subject.version ∷ map ProgramLine subject.program

-- BEGINNINGS OF LOGS, whichever chains and samples may stand in them
module _ (Leads : Paths) (Works : Chains) (IsChosen : Samples) where
  -- the lines are the header, the start and some steps of a chain
  pub record IsOpenChain (header : Line) (known : List Var) (left : ℕ) (e : Tree) (lines : List Line) (place : Place) : Type 0 where
    pub steps : List ChainStep
    pub after : ℕ
    pub last : Summands
    pub started : IsStarted left e
    pub leads : Leads known (left - start_charge e) (start_of e) steps after last
    pub split : lines ≡ header ∷ Start (start_of e) ∷ map line_of steps
    pub stands : place ≡ in_chain known after last

  -- the lines begin a chain, without its end
  abbrev pub IsBegunChain : Line → List Var → ℕ → Tree → List Line → Place → Type 0
  IsBegunChain header known left e lines place =
      ((lines ≡ []) × (place ≡ before_line header))
      ⊎ (((lines ≡ header ∷ []) × (place ≡ before_start left e))
      ⊎ IsOpenChain header known left e lines place)

  -- the lines begin the end of a log: its sample and its verdict
  abbrev pub IsBegunEnd : List Summands → Verdict → ℕ → List Line → Place → Type 0
  IsBegunEnd listed verdict left lines place =
      ((lines ≡ []) × (place ≡ before_sample listed left))
      ⊎ ((values : List (Var × ℤ)) × (left' : ℕ) × IsChosen listed left values left' × (lines ≡ Sample values ∷ [])
      × (place ≡ before_line (VerdictLine verdict)))

  -- the lines begin the chains of the goals from number k on, and what follows them
  abbrev pub AreGoalsBegun : List Var → List Summands → ℕ → ℕ → List Item → List Line → Place → Type 0
  AreGoalsBegun known listed k left [] lines place = IsBegunEnd listed Proved left lines place
  AreGoalsBegun known listed k left (item ∷ items) lines place =
      IsBegunChain (Goal k item.text) known left item.term lines place
      ⊎ ((first : BeginsWithChain Works IsChosen (Goal k item.text) known left item lines)
      × ((first.chain.end ≡ []) × AreGoalsBegun known listed (suc k) first.after items first.rest place
      ⊎ (first.chain.end ≢ []) × IsBegunEnd (listed ++ first.chain.end ∷ []) (False k) first.after first.rest place))

  -- the lines begin the chains of the conditions from number k on, and what follows them
  abbrev pub AreConditionsBegun : List Item → List Var → List Summands → ℕ → ℕ → List Item → List Line → Place → Type 0
  AreConditionsBegun goals known listed k left [] lines place = AreGoalsBegun known listed 1 left goals lines place
  AreConditionsBegun goals known listed k left (item ∷ items) lines place =
      IsBegunChain (Condition k item.text) known left item.term lines place
      ⊎ ((first : BeginsWithChain Works IsChosen (Condition k item.text) known left item lines)
      × ((first.chain.end ≡ []) × (first.rest ≡ []) × (place ≡ before_line (VerdictLine (Impossible k)))
      ⊎ (first.chain.end ≢ [])
      × AreConditionsBegun goals (known ++ known_by (item ∷ [])) (listed ++ first.chain.end ∷ []) (suc k) first.after
      items first.rest place))

  -- the lines begin a log of the subject, which stands at the place after them
  abbrev pub IsBegun : Subject → ℕ → List Line → Place → Type 0
  IsBegun subject steps lines place =
      ((k : ℕ) × (line : Line) × (slice_get (first_lines subject) k ≡ Some line) × (lines ≡ take k (first_lines subject))
      × (place ≡ before_line line))
      ⊎ ((rest : List Line) × (lines ≡ first_lines subject ++ rest)
      × AreConditionsBegun subject.goals [] [] 1 steps subject.conditions rest place)
