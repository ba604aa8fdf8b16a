-- Beginnings of the prover's log by what comes next.
use Rattle.std.proofs.Common.{◌≡◌, ◌≢◌, ℕ, suc, ◌-◌, ◌⊎◌, inl, inr, ℤ, Some, List, [], ◌∷◌, ◌++◌, map, take, subst}
use Rattle.std.specs.Prelude.{slice_get}
use Rattle.geo_poly.specs.declared.variables.Var.{Var}
use Rattle.geo_poly.specs.Polynomials.{Summands}
use Rattle.geo_terms.specs.Constructions.{Construction}
use Rattle.geo_terms.specs.Trees.{Tree}
use Rattle.proof_log.specs.declared.log.Line.{Line}
use Rattle.proof_log.specs.declared.log.Line.TheVariants.{Condition, Goal, Start, Sample, Verdict as VerdictLine}
use Rattle.proof_log.specs.declared.log.Verdict.{Verdict}
use Rattle.proof_log.specs.declared.log.Verdict.TheVariants.{Proved, False, Impossible}
use Rattle.geo_logs.specs.Chains.{ChainStep, line_of}
use Rattle.geo_logs.specs.Starts.{IsStarted, start_charge, start_of}
use Rattle.geo_logs.specs.Defined.{IsDefinedChain, LeadsBySteps}
use Rattle.geo_logs.specs.Ends.{GoesOn, IsAfterHeader, IsAfterPolynomial, IsAtSample, IsNext, Next, comes}
use Rattle.geo_logs.specs.Logs.{BeginsWithChain, Item, Subject, known_by}
use Rattle.geo_logs.specs.Moves.{Table}
use Rattle.geo_logs.specs.Places as Places
use Rattle.geo_logs.specs.Places.{Place, before_line, before_sample, before_start, first_lines, in_chain}
use Rattle.geo_logs.specs.Samples.{IsLeastSample}

-- BEGINNINGS OF THE PROVER'S LOG
-- the lines are the header, the start and some steps of a chain, and what comes after them
pub record IsOpenChain (table : Table) (c : Construction) (header : Line) (known : List Var) (left : ℕ) (e : Tree) (lines : List Line) (next : Next) : Type 0 where
  pub steps : List ChainStep
  pub after : ℕ
  pub last : Summands
  pub started : IsStarted left e
  pub leads : LeadsBySteps table c known (left - start_charge e) (start_of e) steps after last
  pub split : lines ≡ header ∷ Start (start_of e) ∷ map line_of steps
  pub follows : IsAfterPolynomial table c known after last next

-- the lines begin a chain, without its end
abbrev pub IsBegunChain : Table → Construction → Line → List Var → ℕ → Tree → List Line → Next → Type 0
IsBegunChain table c header known left e lines next =
    ((lines ≡ []) × (next ≡ comes header))
    ⊎ (((lines ≡ header ∷ []) × IsAfterHeader left e next)
    ⊎ IsOpenChain table c header known left e lines next)

-- the lines begin the end of a log: its sample and its verdict
abbrev pub IsBegunEnd : Construction → List Summands → Verdict → ℕ → List Line → Next → Type 0
IsBegunEnd c listed verdict left lines next =
    ((lines ≡ []) × IsAtSample c listed left next)
    ⊎ ((values : List (Var × ℤ)) × (left' : ℕ) × IsLeastSample c listed left values left' × (lines ≡ Sample values ∷ []) × (next ≡ comes (VerdictLine verdict)))

-- the lines begin the chains of the goals from number k on, and what follows them
abbrev pub AreGoalsBegun : Table → Construction → List Var → List Summands → ℕ → ℕ → List Item → List Line → Next → Type 0
AreGoalsBegun table c known listed k left [] lines next = IsBegunEnd c listed Proved left lines next
AreGoalsBegun table c known listed k left (item ∷ items) lines next =
    IsBegunChain table c (Goal k item.text) known left item.term lines next
    ⊎ ((first : BeginsWithChain (IsDefinedChain table c) (IsLeastSample c) (Goal k item.text) known left item lines)
    × ((first.chain.end ≡ []) × AreGoalsBegun table c known listed (suc k) first.after items first.rest next
    ⊎ (first.chain.end ≢ []) × IsBegunEnd c (listed ++ first.chain.end ∷ []) (False k) first.after first.rest next))

-- the lines begin the chains of the conditions from number k on, and what follows them
abbrev pub AreConditionsBegun : Table → Construction → List Item → List Var → List Summands → ℕ → ℕ → List Item → List Line → Next → Type 0
AreConditionsBegun table c goals known listed k left [] lines next = AreGoalsBegun table c known listed 1 left goals lines next
AreConditionsBegun table c goals known listed k left (item ∷ items) lines next =
    IsBegunChain table c (Condition k item.text) known left item.term lines next
    ⊎ ((first : BeginsWithChain (IsDefinedChain table c) (IsLeastSample c) (Condition k item.text) known left item lines)
    × ((first.chain.end ≡ []) × (first.rest ≡ []) × (next ≡ comes (VerdictLine (Impossible k)))
    ⊎ (first.chain.end ≢ [])
    × AreConditionsBegun table c goals (known ++ known_by (item ∷ [])) (listed ++ first.chain.end ∷ []) (suc k) first.after items first.rest next))

-- the prover's log begins with the lines, and this comes next
abbrev pub IsBegun : Table → Subject → ℕ → List Line → Next → Type 0
IsBegun table subject steps lines next =
    ((k : ℕ) × (line : Line) × (slice_get (first_lines subject) k ≡ Some line) × (lines ≡ take k (first_lines subject)) × (next ≡ comes line))
    ⊎ ((rest : List Line) × (lines ≡ first_lines subject ++ rest)
    × AreConditionsBegun table subject.construction subject.goals [] [] 1 steps subject.conditions rest next)

-- FROM PLACES
module _ (table : Table) (c : Construction) where
  next_as : (place place' : Place) (next : Next) → place ≡ place' → IsNext table c place next → IsNext table c place' next
  next_as place place' next e h = subst (λ (p : Place). IsNext table c p next) e h

  chain_next : (head : Line) (known : List Var) (left : ℕ) (e : Tree) (lines : List Line) (place : Place) (next : Next) → IsNext table c place next
      → Places.IsBegunChain (LeadsBySteps table c) (IsDefinedChain table c) (IsLeastSample c) head known left e lines place → IsBegunChain table c head known left e lines next
  chain_next head known left e lines place next n (inl h) = inl (h.0, next_as place (before_line head) next h.1 n)
  chain_next head known left e lines place next n (inr (inl h)) = inr (inl (h.0, next_as place (before_start left e) next h.1 n))
  chain_next head known left e lines place next n (inr (inr h)) =
      inr (inr (record {
        steps = h.steps;
        after = h.after;
        last = h.last;
        started = h.started;
        leads = h.leads;
        split = h.split;
        follows = next_as place (in_chain known h.after h.last) next h.stands n;
      }))

  end_next : (listed : List Summands) (verdict : Verdict) (left : ℕ) (lines : List Line) (place : Place) (next : Next) → IsNext table c place next
      → Places.IsBegunEnd (LeadsBySteps table c) (IsDefinedChain table c) (IsLeastSample c) listed verdict left lines place → IsBegunEnd c listed verdict left lines next
  end_next listed verdict left lines place next n (inl h) = inl (h.0, next_as place (before_sample listed left) next h.1 n)
  end_next listed verdict left lines place next n (inr (values, left', chosen, split, e)) = inr (values, left', chosen, split, next_as place (before_line (VerdictLine verdict)) next e n)

  goals_next : (known : List Var) (listed : List Summands) (k left : ℕ) (items : List Item) (lines : List Line) (place : Place) (next : Next) → IsNext table c place next
      → Places.AreGoalsBegun (LeadsBySteps table c) (IsDefinedChain table c) (IsLeastSample c) known listed k left items lines place → AreGoalsBegun table c known listed k left items lines next
  goals_next known listed k left [] lines place next n h = end_next listed Proved left lines place next n h
  goals_next known listed k left (item ∷ items) lines place next n (inl h) = inl (chain_next (Goal k item.text) known left item.term lines place next n h)
  goals_next known listed k left (item ∷ items) lines place next n (inr (first, inl h)) = inr (first, inl (h.0, goals_next known listed (suc k) first.after items first.rest place next n h.1))
  goals_next known listed k left (item ∷ items) lines place next n (inr (first, inr h)) =
      inr (first, inr (h.0, end_next (listed ++ first.chain.end ∷ []) (False k) first.after first.rest place next n h.1))

  conditions_next : (goals : List Item) (known : List Var) (listed : List Summands) (k left : ℕ) (items : List Item) (lines : List Line) (place : Place) (next : Next) → IsNext table c place next
      → Places.AreConditionsBegun (LeadsBySteps table c) (IsDefinedChain table c) (IsLeastSample c) goals known listed k left items lines place
      → AreConditionsBegun table c goals known listed k left items lines next
  conditions_next goals known listed k left [] lines place next n h = goals_next known listed 1 left goals lines place next n h
  conditions_next goals known listed k left (item ∷ items) lines place next n (inl h) = inl (chain_next (Condition k item.text) known left item.term lines place next n h)
  conditions_next goals known listed k left (item ∷ items) lines place next n (inr (first, inl h)) =
      inr (first, inl (h.0, h.1, next_as place (before_line (VerdictLine (Impossible k))) next h.2 n))
  conditions_next goals known listed k left (item ∷ items) lines place next n (inr (first, inr h)) =
      inr (first, inr (h.0, conditions_next goals (known ++ known_by (item ∷ [])) (listed ++ first.chain.end ∷ []) (suc k) first.after items first.rest place next n h.1))

-- what goes on does so in these terms
pub goes_on : (table : Table) (subject : Subject) (steps : ℕ) (lines : List Line) (next : Next) → GoesOn table subject steps lines next → IsBegun table subject steps lines next
goes_on table subject steps lines next (place, inl (k, line, at, split, e), n) = inl (k, line, at, split, next_as table subject.construction place (before_line line) next e n)
goes_on table subject steps lines next (place, inr (rest, split, h), n) =
    inr (rest, split, conditions_next table subject.construction subject.goals [] [] 1 steps subject.conditions rest place next n h)
