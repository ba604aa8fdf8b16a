-- Accepted logs, and those of the prover, as they were said before, are walked.
use Rattle.std.proofs.Common.{ℕ, suc, ◌-◌, inl, inr, List, [], ◌∷◌, ◌++◌}
use Rattle.geo_poly.specs.declared.variables.Var.{Var}
use Rattle.geo_poly.specs.Polynomials.{Summands}
use Rattle.geo_terms.specs.Trees.{Tree}
use Rattle.geo_terms.specs.Constructions.{Construction}
use Rattle.proof_log.specs.declared.log.Line.{Line}
use Rattle.proof_log.specs.declared.log.Line.TheVariants.{Condition, Goal}
use Rattle.proof_log.specs.declared.log.Verdict.{Verdict}
use Rattle.proof_log.specs.declared.log.Verdict.TheVariants.{Proved}
use Rattle.geo_logs.specs.Chains.{Chain, ChainStep, IsAcceptedChain, LeadsTo}
use Rattle.geo_logs.specs.Defined.{IsDefinedChain, LeadsBySteps}
use Rattle.geo_logs.specs.Logs.{AreConditionsWorked, AreGoalsWorked, BeginsWithChain, Chains, IsConcluded, Item, Samples, known_by}
use Rattle.geo_logs.specs.Moves.{Table}
use Rattle.geo_logs.specs.Places.{AreConditionsBegun, AreGoalsBegun, IsBegunChain, Paths, Place}
use Rattle.geo_logs.specs.Samples.{IsAcceptedSample, IsLeastSample}
use Rattle.geo_logs.specs.Starts.{start_charge, start_of}
use Rattle.geo_logs.specs.Walks.{accepting, proving}
use Rattle.geo_logs.specs.WalkLaws.{Follow, LogsAreWalked, WalksAreBeginnings}
use Rattle.geo_logs.proofs.ChainsWalked.{IsChainBy, log_walk}
use Rattle.geo_logs.proofs.WalksBack.{log_back}
use Rattle.geo_logs.proofs.WalksBegun.{log_begun}
use Rattle.geo_logs.proofs.WalksStand.{stands_or_over}
use Rattle.geo_logs.proofs.StepsFollowed.{accepted_follow, accepted_lead, proved_follow, proved_lead}

-- other chains may stand
module _ (Works Others : Chains) (IsChosen : Samples)
    (change : (known : List Var) (left : ℕ) (e : Tree) (chain : Chain) (left' : ℕ) → Works known left e chain left' → Others known left e chain left') where
  concluded : (listed : List Summands) (left : ℕ) (lines : List Line) (verdict : Verdict) (left' : ℕ) → IsConcluded Works IsChosen listed left lines verdict left'
      → IsConcluded Others IsChosen listed left lines verdict left'
  concluded listed left lines verdict left' h = record { values = h.values; chosen = h.chosen; split = h.split }

  goals : (known : List Var) (listed : List Summands) (k left : ℕ) (items : List Item) (lines : List Line) (verdict : Verdict) (left' : ℕ)
      → AreGoalsWorked Works IsChosen known listed k left items lines verdict left' → AreGoalsWorked Others IsChosen known listed k left items lines verdict left'
  goals known listed k left [] lines verdict left' h = (h.0, concluded listed left lines Proved left' h.1)
  goals known listed k left (item ∷ items) lines verdict left' (first, inl h) = (
    record { chain = first.chain; after = first.after; rest = first.rest; split = first.split; works = change known left item.term first.chain first.after first.works },
    inl (h.0, goals known listed (suc k) first.after items first.rest verdict left' h.1),
  )
  goals known listed k left (item ∷ items) lines verdict left' (first, inr h) = (
    record { chain = first.chain; after = first.after; rest = first.rest; split = first.split; works = change known left item.term first.chain first.after first.works },
    inr (h.0, h.1, record { values = h.2.values; chosen = h.2.chosen; split = h.2.split }),
  )

  pub conditions : (ends : List Item) (known : List Var) (listed : List Summands) (k left : ℕ) (items : List Item) (lines : List Line) (verdict : Verdict) (left' : ℕ)
      → AreConditionsWorked Works IsChosen ends known listed k left items lines verdict left'
      → AreConditionsWorked Others IsChosen ends known listed k left items lines verdict left'
  conditions ends known listed k left [] lines verdict left' h = goals known listed 1 left ends lines verdict left' h
  conditions ends known listed k left (item ∷ items) lines verdict left' (first, inl h) = (
    record { chain = first.chain; after = first.after; rest = first.rest; split = first.split; works = change known left item.term first.chain first.after first.works },
    inl h,
  )
  conditions ends known listed k left (item ∷ items) lines verdict left' (first, inr h) = (
    record { chain = first.chain; after = first.after; rest = first.rest; split = first.split; works = change known left item.term first.chain first.after first.works },
    inr (h.0, conditions ends (known ++ known_by (item ∷ [])) (listed ++ first.chain.end ∷ []) (suc k) first.after items first.rest verdict left' h.1),
  )

accepted_chain : (table : Table) (c : Construction) (known : List Var) (left : ℕ) (e : Tree) (chain : Chain) (left' : ℕ) → IsAcceptedChain table c known left e chain left'
    → IsChainBy (accepting table c) known left e chain left'
accepted_chain table c known left e chain left' h = record {
  started = h.started;
  follow = accepted_follow table c known (left - start_charge e) (start_of e) chain.steps left' chain.end h.leads;
  ended = h.ended;
}

proved_chain : (table : Table) (c : Construction) (known : List Var) (left : ℕ) (e : Tree) (chain : Chain) (left' : ℕ) → IsDefinedChain table c known left e chain left'
    → IsChainBy (proving table c) known left e chain left'
proved_chain table c known left e chain left' h = record {
  started = h.started;
  follow = proved_follow table c known (left - start_charge e) (start_of e) chain.steps left' chain.end h.leads;
  ended = (h.no_cut, h.ended);
}

chain_accepted : (table : Table) (c : Construction) (known : List Var) (left : ℕ) (e : Tree) (chain : Chain) (left' : ℕ) → IsChainBy (accepting table c) known left e chain left'
    → IsAcceptedChain table c known left e chain left'
chain_accepted table c known left e chain left' h = record {
  started = h.started;
  leads = accepted_lead table c known (left - start_charge e) (start_of e) chain.steps left' chain.end h.follow;
  ended = h.ended;
}

chain_proved : (table : Table) (c : Construction) (known : List Var) (left : ℕ) (e : Tree) (chain : Chain) (left' : ℕ) → IsChainBy (proving table c) known left e chain left'
    → IsDefinedChain table c known left e chain left'
chain_proved table c known left e chain left' h = record {
  started = h.started;
  leads = proved_lead table c known (left - start_charge e) (start_of e) chain.steps left' chain.end h.follow;
  no_cut = h.ended.0;
  ended = h.ended.1;
}

pub logs_are_walked : LogsAreWalked
logs_are_walked = record {
  accepted = λ table subject steps lines verdict left h.
      let c : Construction = subject.construction in
      log_walk (accepting table c) subject steps lines verdict left
      (conditions (IsAcceptedChain table c) (IsChainBy (accepting table c)) (IsAcceptedSample c) (accepted_chain table c) subject.goals [] [] 1 steps subject.conditions lines verdict left h);
  proved = λ table subject steps lines verdict left h.
      let c : Construction = subject.construction in
      log_walk (proving table c) subject steps lines verdict left
      (conditions (IsDefinedChain table c) (IsChainBy (proving table c)) (IsLeastSample c) (proved_chain table c) subject.goals [] [] 1 steps subject.conditions lines verdict left h);
  walked_accepted = λ table subject steps lines verdict left h.
      let c : Construction = subject.construction in
      conditions (IsChainBy (accepting table c)) (IsAcceptedChain table c) (IsAcceptedSample c) (chain_accepted table c) subject.goals [] [] 1 steps subject.conditions lines verdict left
      (log_back (accepting table c) subject steps lines verdict left h);
  walked_proved = λ table subject steps lines verdict left h.
      let c : Construction = subject.construction in
      conditions (IsChainBy (proving table c)) (IsDefinedChain table c) (IsLeastSample c) (chain_proved table c) subject.goals [] [] 1 steps subject.conditions lines verdict left
      (log_back (proving table c) subject steps lines verdict left h);
}

-- BEGINNINGS
-- other steps and chains may stand
module _ (Leads Others : Paths) (Works Chained : Chains) (IsChosen : Samples)
    (lead : (known : List Var) (left : ℕ) (q : Summands) (steps : List ChainStep) (left' : ℕ) (e : Summands) → Leads known left q steps left' e
    → Others known left q steps left' e)
    (change : (known : List Var) (left : ℕ) (e : Tree) (chain : Chain) (left' : ℕ) → Works known left e chain left' → Chained known left e chain left') where
  begun_chain : (header : Line) (known : List Var) (left : ℕ) (e : Tree) (lines : List Line) (place : Place)
      → IsBegunChain Leads Works IsChosen header known left e lines place → IsBegunChain Others Chained IsChosen header known left e lines place
  begun_chain header known left e lines place (inl h) = inl h
  begun_chain header known left e lines place (inr (inl h)) = inr (inl h)
  begun_chain header known left e lines place (inr (inr h)) = inr (inr (record {
    steps = h.steps;
    after = h.after;
    last = h.last;
    started = h.started;
    leads = lead known (left - start_charge e) (start_of e) h.steps h.after h.last h.leads;
    split = h.split;
    stands = h.stands;
  }))

  abbrev first_chain : (header : Line) (known : List Var) (left : ℕ) (item : Item) (lines : List Line)
      → BeginsWithChain Works IsChosen header known left item lines → BeginsWithChain Chained IsChosen header known left item lines
  first_chain header known left item lines h = record {
    chain = h.chain;
    after = h.after;
    rest = h.rest;
    split = h.split;
    works = change known left item.term h.chain h.after h.works;
  }

  begun_goals : (known : List Var) (listed : List Summands) (k left : ℕ) (items : List Item) (lines : List Line) (place : Place)
      → AreGoalsBegun Leads Works IsChosen known listed k left items lines place
      → AreGoalsBegun Others Chained IsChosen known listed k left items lines place
  begun_goals known listed k left [] lines place h = h
  begun_goals known listed k left (item ∷ items) lines place (inl h) = inl (begun_chain (Goal k item.text) known left item.term lines place h)
  begun_goals known listed k left (item ∷ items) lines place (inr (first, inl h)) =
      inr (
        first_chain (Goal k item.text) known left item lines first,
        inl (h.0, begun_goals known listed (suc k) first.after items first.rest place h.1),
      )
  begun_goals known listed k left (item ∷ items) lines place (inr (first, inr h)) =
      inr (first_chain (Goal k item.text) known left item lines first, inr h)

  pub begun_conditions : (goals : List Item) (known : List Var) (listed : List Summands) (k left : ℕ) (items : List Item) (lines : List Line)
      (place : Place) → AreConditionsBegun Leads Works IsChosen goals known listed k left items lines place
      → AreConditionsBegun Others Chained IsChosen goals known listed k left items lines place
  begun_conditions goals known listed k left [] lines place h = begun_goals known listed 1 left goals lines place h
  begun_conditions goals known listed k left (item ∷ items) lines place (inl h) =
      inl (begun_chain (Condition k item.text) known left item.term lines place h)
  begun_conditions goals known listed k left (item ∷ items) lines place (inr (first, inl h)) =
      inr (first_chain (Condition k item.text) known left item lines first, inl h)
  begun_conditions goals known listed k left (item ∷ items) lines place (inr (first, inr h)) =
      inr (
        first_chain (Condition k item.text) known left item lines first,
        inr (h.0, begun_conditions goals (known ++ known_by (item ∷ [])) (listed ++ first.chain.end ∷ []) (suc k) first.after items first.rest place h.1),
      )

pub walks_are_beginnings : WalksAreBeginnings
walks_are_beginnings = record {
  accepted = λ table subject steps lines w place walks stands.
      let c : Construction = subject.construction in
      begun_conditions (Follow (accepting table c)) (LeadsTo table c) (IsChainBy (accepting table c)) (IsAcceptedChain table c) (IsAcceptedSample c)
      (accepted_lead table c) (chain_accepted table c) subject.goals [] [] 1 steps subject.conditions lines place
      (log_begun (accepting table c) subject steps lines w place walks stands);
  accepted_stand = λ table subject. stands_or_over subject (accepting table subject.construction);
  proved = λ table subject steps lines w place walks stands.
      let c : Construction = subject.construction in
      begun_conditions (Follow (proving table c)) (LeadsBySteps table c) (IsChainBy (proving table c)) (IsDefinedChain table c) (IsLeastSample c)
      (proved_lead table c) (chain_proved table c) subject.goals [] [] 1 steps subject.conditions lines place
      (log_begun (proving table c) subject steps lines w place walks stands);
  proved_stand = λ table subject. stands_or_over subject (proving table subject.construction);
}
