-- Charges are spent, and chains name no later points.
use Rattle.std.proofs.Common.{ℕ, suc, ◌-◌, ◌≤◌, inl, inr, ℤ, List, [], ◌∷◌, ◌++◌, subst, arith}
use Rattle.geo_poly.specs.declared.variables.Var.{Var}
use Rattle.geo_poly.specs.Polynomials.{Summands}
use Rattle.geo_terms.specs.Constructions.{Construction}
use Rattle.geo_terms.specs.Trees.{Tree}
use Rattle.proof_log.specs.declared.log.Line.{Line}
use Rattle.proof_log.specs.declared.log.Verdict.{Verdict}
use Rattle.geo_logs.specs.Chains.{Chain, ChainStep, moves, cuts, IsAcceptedChain, LeadsTo}
use Rattle.geo_logs.specs.Starts.{start_charge, start_of}
use Rattle.geo_logs.specs.Laws.{ChainsNameNoLater, ChargesAreSpent}
use Rattle.geo_logs.specs.Logs.{AreConditionsWorked, AreGoalsWorked, Item, known_by}
use Rattle.geo_logs.specs.Moves.{Table, move_charge, replacement}
use Rattle.geo_logs.specs.Naming.{IsNamed}
use Rattle.geo_logs.specs.Samples.{IsAcceptedSample}
use Rattle.geo_poly.specs.PolynomialVariables.{AllVariables}
use Rattle.geo_poly.proofs.EachVariable.{of-cut}
use Rattle.geo_logs.proofs.MoveValues.{move_named}

-- NAMES
pub name_no_later : ChainsNameNoLater
name_no_later table c known n left q [] left' e sound named h = (tt, subst (AllVariables (IsNamed c n)) h.1 named)
name_no_later table c known n left q (moves move r ∷ steps) left' e sound named h =
    let next = move_named table c sound n move left q r named h.0 in
    let rest = name_no_later table c known n (left - move_charge (replacement table c move q) q) r steps left' e sound next.names h.1 in
    ((next.place, rest.0), rest.1)
name_no_later table c known n left q (cuts f r ∷ steps) left' e sound named h =
    name_no_later table c known n left r steps left' e sound (of-cut (IsNamed c n) known f q r h.0 named) h.1

-- CHARGES
module _ (table : Table) (c : Construction) where
  path_spent : (known : List Var) (left : ℕ) (q : Summands) (steps : List ChainStep) (left' : ℕ) (e : Summands) → LeadsTo table c known left q steps left' e → left' ≤ left
  path_spent known left q [] left' e h = omega (arith, h.0)
  path_spent known left q (moves move r ∷ steps) left' e h =
      let rest = path_spent known (left - move_charge (replacement table c move q) q) r steps left' e h.1 in omega (arith, rest)
  path_spent known left q (cuts f r ∷ steps) left' e h = path_spent known left r steps left' e h.1

  pub chain_spent : (known : List Var) (left : ℕ) (e : Tree) (chain : Chain) (left' : ℕ) → IsAcceptedChain table c known left e chain left' → left' ≤ left
  chain_spent known left e chain left' h =
      let rest = path_spent known (left - start_charge e) (start_of e) chain.steps left' chain.end h.leads in omega (arith, rest)

  sample_spent : (listed : List Summands) (left : ℕ) (values : List (Var × ℤ)) (left' : ℕ) → IsAcceptedSample c listed left values left' → left' ≤ left
  sample_spent listed left values left' h = let charged = h.made.charged in omega (arith, charged)

  goals_spent : (known : List Var) (listed : List Summands) (k left : ℕ) (items : List Item) (lines : List Line) (verdict : Verdict) (left' : ℕ)
      → AreGoalsWorked (IsAcceptedChain table c) (IsAcceptedSample c) known listed k left items lines verdict left' → left' ≤ left
  goals_spent known listed k left [] lines verdict left' h = sample_spent listed left h.1.values left' h.1.chosen
  goals_spent known listed k left (item ∷ items) lines verdict left' (first, inl ended) =
      let rest = goals_spent known listed (suc k) first.after items first.rest verdict left' ended.1 in
      omega (arith, rest, chain_spent known left item.term first.chain first.after first.works)
  goals_spent known listed k left (item ∷ items) lines verdict left' (first, inr failed) =
      let rest = sample_spent (listed ++ first.chain.end ∷ []) first.after failed.2.values left' failed.2.chosen in
      omega (arith, rest, chain_spent known left item.term first.chain first.after first.works)

  conditions_spent : (goals : List Item) (known : List Var) (listed : List Summands) (k left : ℕ) (items : List Item) (lines : List Line) (verdict : Verdict) (left' : ℕ)
      → AreConditionsWorked (IsAcceptedChain table c) (IsAcceptedSample c) goals known listed k left items lines verdict left' → left' ≤ left
  conditions_spent goals known listed k left [] lines verdict left' h = goals_spent known listed 1 left goals lines verdict left' h
  conditions_spent goals known listed k left (item ∷ items) lines verdict left' (first, inl ended) =
      let same = ended.3 in omega (arith, same, chain_spent known left item.term first.chain first.after first.works)
  conditions_spent goals known listed k left (item ∷ items) lines verdict left' (first, inr more) =
      let rest = conditions_spent goals (known ++ known_by (item ∷ [])) (listed ++ first.chain.end ∷ []) (suc k) first.after items first.rest verdict left' more.1 in
      omega (arith, rest, chain_spent known left item.term first.chain first.after first.works)

pub charges_spent : ChargesAreSpent
charges_spent table subject steps left lines verdict h =
    conditions_spent table subject.construction subject.goals [] [] 1 steps subject.conditions h.rest verdict left h.worked
