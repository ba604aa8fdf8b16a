-- Subjects with the same items over constructions with the same steps have the same logs.
use Rattle.std.proofs.Common.{◌≡◌, ℕ, suc, ◌-◌, inl, inr, ℤ, List, [], ◌∷◌, ◌++◌, ◌∙◌, subst}
use Rattle.geo_points.specs.declared.ids.PointId.{PointId}
use Rattle.geo_poly.specs.declared.variables.Var.{Var}
use Rattle.geo_poly.specs.Polynomials.{Summands}
use Rattle.geo_terms.specs.Constructions.{Construction}
use Rattle.geo_terms.specs.Trees.{Tree}
use Rattle.geo_sample.specs.Samples.{SearchEndsIn}
use Rattle.geo_sample.specs.Samples as Search
use Rattle.proof_log.specs.declared.log.Line.{Line}
use Rattle.proof_log.specs.declared.log.Line.TheVariants.{Condition, Goal}
use Rattle.proof_log.specs.declared.log.Verdict.{Verdict}
use Rattle.proof_log.specs.declared.log.Verdict.TheVariants.{Proved, False}
use Rattle.geo_logs.specs.declared.moves.Move.{Move}
use Rattle.geo_logs.specs.declared.moves.Move.TheVariants.{Ratio, Point, Coords}
use Rattle.geo_logs.specs.declared.moves.Replacement.{Replacement}
use Rattle.elim_apply.specs.LemmaTable.{lemma_table}
use Rattle.geo_logs.specs.Moves.{IsMoved, IsMoveStopped, move_charge, replacement}
use Rattle.geo_logs.specs.Starts.{start_charge, start_of}
use Rattle.geo_logs.specs.Chains.{Chain, ChainStep, IsAcceptedChain, LeadsTo, cuts, moves}
use Rattle.geo_logs.specs.Defined.{HasFreePointsAlone, IsDefinedChain, IsHighest, IsLogOfProver, IsNextMove, LeadsBySteps}
use Rattle.geo_logs.specs.Ends.{Ending, GoesOn, IsDefinedLog, IsNext, Next, comes, ends_by, ends_with, stops, too_long}
use Rattle.geo_logs.specs.Logs.{AreConditionsWorked, AreGoalsWorked, BeginsWithChain, Chains, IsAccepted, IsConcluded, Item, Samples, Subject, known_by}
use Rattle.geo_logs.specs.Places.{AreConditionsBegun, AreGoalsBegun, IsBegun, IsBegunChain, IsBegunEnd, Paths, Place, before_line, before_sample, before_start, in_chain}
use Rattle.geo_logs.specs.Samples.{IsAcceptedSample, IsLeastSample, error_of}
use Rattle.log_checker.proofs.AlikeSteps.{AlikeConstructions, constructed_same, first_lemma_same, replacement_same, turned_round, variables_same}

-- CHAINS
module _ (c d : Construction) (h : AlikeConstructions c d) where
  moved : (move : Move) (left : ℕ) (q r : Summands) → IsMoved (replacement lemma_table c move q) left q r → IsMoved (replacement lemma_table d move q) left q r
  moved move left q r m = subst (λ (x : Replacement). IsMoved x left q r) (replacement_same c d h move q) m

  pub leads_alike : (known : List Var) (left : ℕ) (q : Summands) (steps : List ChainStep) (left' : ℕ) (e : Summands)
      → LeadsTo lemma_table c known left q steps left' e → LeadsTo lemma_table d known left q steps left' e
  leads_alike known left q [] left' e l = l
  leads_alike known left q (moves move r ∷ steps) left' e l = (
    moved move left q r l.0,
    subst (λ (x : Replacement). LeadsTo lemma_table d known (left - move_charge x q) r steps left' e) (replacement_same c d h move q)
        (leads_alike known (left - move_charge (replacement lemma_table c move q) q) r steps left' e l.1),
  )
  leads_alike known left q (cuts f r ∷ steps) left' e l = (l.0, leads_alike known left r steps left' e l.1)

  pub chain_alike : (known : List Var) (left : ℕ) (e : Tree) (chain : Chain) (left' : ℕ)
      → IsAcceptedChain lemma_table c known left e chain left' → IsAcceptedChain lemma_table d known left e chain left'
  chain_alike known left e chain left' a =
      record { started = a.started; leads = leads_alike known (left - start_charge e) (start_of e) chain.steps left' chain.end a.leads; ended = a.ended }

  pub sample_alike : (listed : List Summands) (left : ℕ) (values : List (Var × ℤ)) (left' : ℕ) → IsAcceptedSample c listed left values left' → IsAcceptedSample d listed left values left'
  sample_alike listed left values left' a = record { variables = a.variables ∙ variables_same c d h; fits = a.fits; made = a.made; nonzero = a.nonzero }

  -- the prover's
  highest_alike : (y : PointId) (q : Summands) → IsHighest c y q → IsHighest d y q
  highest_alike y q a = record {
    constructed = constructed_same c d h y a.constructed;
    occurs = a.occurs;
    highest = λ z made occurs. a.highest z (constructed_same d c (turned_round c d h) z made) occurs;
  }

  free_alike : (q : Summands) → HasFreePointsAlone c q → HasFreePointsAlone d q
  free_alike q a = λ y made occurs. a y (constructed_same d c (turned_round c d h) y made) occurs

  next_alike : (q : Summands) (move : Move) → IsNextMove lemma_table c q move → IsNextMove lemma_table d q move
  next_alike q (Ratio v lemma at) (inl a) = inl (a.0, highest_alike a.0 q a.1, a.2, a.3 ∙ first_lemma_same c d h a.0 v, a.4)
  next_alike q (Ratio v lemma at) (inr a) = inr (free_alike q a.0, a.1, a.2, a.3)
  next_alike q (Point y) a = (highest_alike y q a.0, a.1)
  next_alike q Coords a = (free_alike q a.0, a.1, a.2)

  pub steps_alike : (known : List Var) (left : ℕ) (q : Summands) (steps : List ChainStep) (left' : ℕ) (e : Summands)
      → LeadsBySteps lemma_table c known left q steps left' e → LeadsBySteps lemma_table d known left q steps left' e
  steps_alike known left q [] left' e l = l
  steps_alike known left q (moves move r ∷ steps) left' e l = (
    l.0,
    next_alike q move l.1,
    moved move left q r l.2,
    subst (λ (x : Replacement). LeadsBySteps lemma_table d known (left - move_charge x q) r steps left' e) (replacement_same c d h move q)
        (steps_alike known (left - move_charge (replacement lemma_table c move q) q) r steps left' e l.3),
  )
  steps_alike known left q (cuts f r ∷ steps) left' e l = (l.0, l.1, steps_alike known left r steps left' e l.2)

  pub defined_alike : (known : List Var) (left : ℕ) (e : Tree) (chain : Chain) (left' : ℕ)
      → IsDefinedChain lemma_table c known left e chain left' → IsDefinedChain lemma_table d known left e chain left'
  defined_alike known left e chain left' a = record {
    started = a.started;
    leads = steps_alike known (left - start_charge e) (start_of e) chain.steps left' chain.end a.leads;
    no_cut = a.no_cut;
    ended = a.ended;
  }

  pub least_alike : (listed : List Summands) (left : ℕ) (values : List (Var × ℤ)) (left' : ℕ) → IsLeastSample c listed left values left' → IsLeastSample d listed left values left'
  least_alike listed left values left' a = record { least = subst (λ (vs : List Var). Search.IsLeastSample vs listed values) (variables_same c d h) a.least; made = a.made }

  pub next_line_alike : (place : Place) (next : Next) → IsNext lemma_table c place next → IsNext lemma_table d place next
  next_line_alike (before_line line) next a = a
  next_line_alike (before_start left e) next a = a
  next_line_alike (in_chain known left q) (comes line) (inl a) = inl (a.0, a.1, a.2, steps_alike known left q (a.0 ∷ []) a.1 a.2 a.3, a.4)
  next_line_alike (in_chain known left q) (comes line) (inr a) = inr a
  next_line_alike (in_chain known left q) (stops stop) a =
      (a.0, a.1, next_alike q a.0 a.2, subst (λ (x : Replacement). IsMoveStopped x left q stop) (replacement_same c d h a.0 q) a.3)
  next_line_alike (before_sample listed left) (comes line) a = (a.0, a.1, least_alike listed left a.0 a.1 a.2, a.3)
  next_line_alike (before_sample listed left) (stops stop) a = (a.0, subst (λ (vs : List Var). SearchEndsIn (error_of stop) vs listed left a.0) (variables_same c d h) a.1)

-- LOGS: chains and samples that may stand in one may stand in the other
module _ (W V : Chains) (C D : Samples)
    (chain : (known : List Var) (left : ℕ) (e : Tree) (x : Chain) (left' : ℕ) → W known left e x left' → V known left e x left')
    (sample : (listed : List Summands) (left : ℕ) (values : List (Var × ℤ)) (left' : ℕ) → C listed left values left' → D listed left values left') where
  abbrev first_alike : (header : Line) (known : List Var) (left : ℕ) (item : Item) (lines : List Line)
      → BeginsWithChain W C header known left item lines → BeginsWithChain V D header known left item lines
  first_alike header known left item lines a =
      record { chain = a.chain; after = a.after; rest = a.rest; split = a.split; works = chain known left item.term a.chain a.after a.works }

  concluded_alike : (listed : List Summands) (left : ℕ) (lines : List Line) (verdict : Verdict) (left' : ℕ)
      → IsConcluded W C listed left lines verdict left' → IsConcluded V D listed left lines verdict left'
  concluded_alike listed left lines verdict left' a = record { values = a.values; chosen = sample listed left a.values left' a.chosen; split = a.split }

  goals_alike : (known : List Var) (listed : List Summands) (k left : ℕ) (items : List Item) (lines : List Line) (verdict : Verdict) (left' : ℕ)
      → AreGoalsWorked W C known listed k left items lines verdict left' → AreGoalsWorked V D known listed k left items lines verdict left'
  goals_alike known listed k left [] lines verdict left' a = (a.0, concluded_alike listed left lines Proved left' a.1)
  goals_alike known listed k left (item ∷ items) lines verdict left' (a, inl b) =
      (first_alike (Goal k item.text) known left item lines a, inl (b.0, goals_alike known listed (suc k) a.after items a.rest verdict left' b.1))
  goals_alike known listed k left (item ∷ items) lines verdict left' (a, inr b) =
      (first_alike (Goal k item.text) known left item lines a, inr (b.0, b.1, concluded_alike (listed ++ a.chain.end ∷ []) a.after a.rest (False k) left' b.2))

  pub worked_alike : (goals : List Item) (known : List Var) (listed : List Summands) (k left : ℕ) (items : List Item) (lines : List Line) (verdict : Verdict) (left' : ℕ)
      → AreConditionsWorked W C goals known listed k left items lines verdict left' → AreConditionsWorked V D goals known listed k left items lines verdict left'
  worked_alike goals known listed k left [] lines verdict left' a = goals_alike known listed 1 left goals lines verdict left' a
  worked_alike goals known listed k left (item ∷ items) lines verdict left' (a, inl b) = (first_alike (Condition k item.text) known left item lines a, inl b)
  worked_alike goals known listed k left (item ∷ items) lines verdict left' (a, inr b) = (
    first_alike (Condition k item.text) known left item lines a,
    inr (b.0, worked_alike goals (known ++ known_by (item ∷ [])) (listed ++ a.chain.end ∷ []) (suc k) a.after items a.rest verdict left' b.1),
  )

  -- beginnings
  module _ (L M : Paths)
      (path : (known : List Var) (left : ℕ) (q : Summands) (steps : List ChainStep) (left' : ℕ) (e : Summands) → L known left q steps left' e → M known left q steps left' e) where
    begun_chain_alike : (header : Line) (known : List Var) (left : ℕ) (e : Tree) (lines : List Line) (place : Place)
        → IsBegunChain L W C header known left e lines place → IsBegunChain M V D header known left e lines place
    begun_chain_alike header known left e lines place (inl a) = inl a
    begun_chain_alike header known left e lines place (inr (inl a)) = inr (inl a)
    begun_chain_alike header known left e lines place (inr (inr a)) =
        inr (inr (record {
          steps = a.steps;
          after = a.after;
          last = a.last;
          started = a.started;
          leads = path known (left - start_charge e) (start_of e) a.steps a.after a.last a.leads;
          split = a.split;
          stands = a.stands;
        }))

    begun_end_alike : (listed : List Summands) (verdict : Verdict) (left : ℕ) (lines : List Line) (place : Place)
        → IsBegunEnd L W C listed verdict left lines place → IsBegunEnd M V D listed verdict left lines place
    begun_end_alike listed verdict left lines place (inl a) = inl a
    begun_end_alike listed verdict left lines place (inr a) = inr (a.0, a.1, sample listed left a.0 a.1 a.2, a.3, a.4)

    goals_begun_alike : (known : List Var) (listed : List Summands) (k left : ℕ) (items : List Item) (lines : List Line) (place : Place)
        → AreGoalsBegun L W C known listed k left items lines place → AreGoalsBegun M V D known listed k left items lines place
    goals_begun_alike known listed k left [] lines place a = begun_end_alike listed Proved left lines place a
    goals_begun_alike known listed k left (item ∷ items) lines place (inl a) = inl (begun_chain_alike (Goal k item.text) known left item.term lines place a)
    goals_begun_alike known listed k left (item ∷ items) lines place (inr (a, inl b)) =
        inr (first_alike (Goal k item.text) known left item lines a, inl (b.0, goals_begun_alike known listed (suc k) a.after items a.rest place b.1))
    goals_begun_alike known listed k left (item ∷ items) lines place (inr (a, inr b)) =
        inr (first_alike (Goal k item.text) known left item lines a, inr (b.0, begun_end_alike (listed ++ a.chain.end ∷ []) (False k) a.after a.rest place b.1))

    pub begun_alike : (goals : List Item) (known : List Var) (listed : List Summands) (k left : ℕ) (items : List Item) (lines : List Line) (place : Place)
        → AreConditionsBegun L W C goals known listed k left items lines place → AreConditionsBegun M V D goals known listed k left items lines place
    begun_alike goals known listed k left [] lines place a = goals_begun_alike known listed 1 left goals lines place a
    begun_alike goals known listed k left (item ∷ items) lines place (inl a) = inl (begun_chain_alike (Condition k item.text) known left item.term lines place a)
    begun_alike goals known listed k left (item ∷ items) lines place (inr (a, inl b)) = inr (first_alike (Condition k item.text) known left item lines a, inl b)
    begun_alike goals known listed k left (item ∷ items) lines place (inr (a, inr b)) =
        inr (
          first_alike (Condition k item.text) known left item lines a,
          inr (b.0, begun_alike goals (known ++ known_by (item ∷ [])) (listed ++ a.chain.end ∷ []) (suc k) a.after items a.rest place b.1),
        )

-- SUBJECTS
-- both have the same lines and the same items, over constructions with the same steps
pub record AlikeSubjects (s t : Subject) : Type 0 where
  pub version : s.version ≡ t.version
  pub program : s.program ≡ t.program
  pub conditions : s.conditions ≡ t.conditions
  pub goals : s.goals ≡ t.goals
  pub steps : AlikeConstructions s.construction t.construction

-- the subject with another construction
abbrev pub over : Subject → Construction → Subject
over s c = record s { construction = c }

module _ (s t : Subject) (h : AlikeSubjects s t) where
  abbrev c : Construction
  c = s.construction

  abbrev d : Construction
  d = t.construction

  pub same_over : over s d ≡ t
  same_over = λ i. record { version = h.version i; program = h.program i; construction = d; conditions = h.conditions i; goals = h.goals i }

  pub accepted_alike : (steps : ℕ) (lines : List Line) (verdict : Verdict) (left : ℕ) → IsAccepted lemma_table s steps lines verdict left → IsAccepted lemma_table t steps lines verdict left
  accepted_alike steps lines verdict left a =
      subst (λ (x : Subject). IsAccepted lemma_table x steps lines verdict left) same_over
      (record {
        rest = a.rest;
        split = a.split;
        worked = worked_alike (IsAcceptedChain lemma_table c) (IsAcceptedChain lemma_table d) (IsAcceptedSample c) (IsAcceptedSample d) (chain_alike c d h.steps) (sample_alike c d h.steps)
            s.goals [] [] 1 steps s.conditions a.rest verdict left a.worked;
      })

  of_prover_alike : (steps : ℕ) (lines : List Line) (verdict : Verdict) (left : ℕ) → IsLogOfProver lemma_table s steps lines verdict left → IsLogOfProver lemma_table t steps lines verdict left
  of_prover_alike steps lines verdict left a =
      subst (λ (x : Subject). IsLogOfProver lemma_table x steps lines verdict left) same_over
      (record {
        rest = a.rest;
        split = a.split;
        worked = worked_alike (IsDefinedChain lemma_table c) (IsDefinedChain lemma_table d) (IsLeastSample c) (IsLeastSample d) (defined_alike c d h.steps) (least_alike c d h.steps)
            s.goals [] [] 1 steps s.conditions a.rest verdict left a.worked;
      })

  goes_on_alike : (steps : ℕ) (lines : List Line) (next : Next) → GoesOn lemma_table s steps lines next → GoesOn lemma_table t steps lines next
  goes_on_alike steps lines next a =
      subst (λ (x : Subject). GoesOn lemma_table x steps lines next) same_over (a.0, begun a.1, next_line_alike c d h.steps a.0 next a.2)
    where
      begun : IsBegun (LeadsBySteps lemma_table c) (IsDefinedChain lemma_table c) (IsLeastSample c) s steps lines a.0
          → IsBegun (LeadsBySteps lemma_table d) (IsDefinedChain lemma_table d) (IsLeastSample d) (over s d) steps lines a.0
      begun (inl b) = inl b
      begun (inr b) =
          inr (
            b.0,
            b.1,
            begun_alike (IsDefinedChain lemma_table c) (IsDefinedChain lemma_table d) (IsLeastSample c) (IsLeastSample d) (defined_alike c d h.steps) (least_alike c d h.steps)
                (LeadsBySteps lemma_table c) (LeadsBySteps lemma_table d) (steps_alike c d h.steps) s.goals [] [] 1 steps s.conditions b.0 a.0 b.2,
          )

  pub defined_log_alike : (steps : ℕ) (lines : List Line) (ending : Ending) → IsDefinedLog lemma_table s steps lines ending → IsDefinedLog lemma_table t steps lines ending
  defined_log_alike steps lines (ends_with verdict left) a = (of_prover_alike steps lines verdict left a.0, a.1)
  defined_log_alike steps lines (ends_by stop) a = (a.0, a.1, goes_on_alike steps a.0 (stops stop) a.2, a.3)
  defined_log_alike steps lines too_long a = (a.0, goes_on_alike steps lines (comes a.0) a.1, a.2, a.3)
