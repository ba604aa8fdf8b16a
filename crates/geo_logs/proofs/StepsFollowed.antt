-- Steps one by one and all at once.
use Rattle.std.proofs.Common.{ℕ, ◌-◌, List, [], ◌∷◌, refl, sym, subst}
use Rattle.geo_poly.specs.declared.variables.Var.{Var}
use Rattle.geo_poly.specs.Polynomials.{Summands}
use Rattle.geo_terms.specs.Constructions.{Construction}
use Rattle.geo_logs.specs.Chains.{ChainStep, LeadsTo, moves, cuts}
use Rattle.geo_logs.specs.Defined.{LeadsBySteps}
use Rattle.geo_logs.specs.Moves.{Table, move_charge, replacement}
use Rattle.geo_logs.specs.Walks.{accepting, proving}
use Rattle.geo_logs.specs.WalkLaws.{Follow, StepsAgree}

module _ (table : Table) (c : Construction) (known : List Var) where
  pub accepted_follow : (left : ℕ) (q : Summands) (steps : List ChainStep) (left' : ℕ) (e : Summands) → LeadsTo table c known left q steps left' e
      → Follow (accepting table c) known left q steps left' e
  accepted_follow left q [] left' e h = h
  accepted_follow left q (moves m r ∷ steps) left' e h =
      let after : ℕ = left - move_charge (replacement table c m q) q in
      (after, (h.0, (refl, refl)), accepted_follow after r steps left' e h.1)
  accepted_follow left q (cuts f r ∷ steps) left' e h = (left, (h.0, (refl, refl)), accepted_follow left r steps left' e h.1)

  pub accepted_lead : (left : ℕ) (q : Summands) (steps : List ChainStep) (left' : ℕ) (e : Summands)
      → Follow (accepting table c) known left q steps left' e → LeadsTo table c known left q steps left' e
  accepted_lead left q [] left' e h = h
  accepted_lead left q (moves m s ∷ steps) left' e (after, (moved, (same, right)), rest) =
      (moved, subst (λ (n : ℕ). LeadsTo table c known n s steps left' e) (sym same) (accepted_lead after s steps left' e rest))
  accepted_lead left q (cuts f s ∷ steps) left' e (after, (cut, (same, right)), rest) =
      (cut, subst (λ (n : ℕ). LeadsTo table c known n s steps left' e) (sym same) (accepted_lead after s steps left' e rest))

  pub proved_follow : (left : ℕ) (q : Summands) (steps : List ChainStep) (left' : ℕ) (e : Summands) → LeadsBySteps table c known left q steps left' e
      → Follow (proving table c) known left q steps left' e
  proved_follow left q [] left' e h = h
  proved_follow left q (moves m r ∷ steps) left' e h =
      let after : ℕ = left - move_charge (replacement table c m q) q in
      (after, (h.0, h.1, h.2, (refl, refl)), proved_follow after r steps left' e h.3)
  proved_follow left q (cuts f r ∷ steps) left' e h = (left, (h.0, h.1, (refl, refl)), proved_follow left r steps left' e h.2)

  pub proved_lead : (left : ℕ) (q : Summands) (steps : List ChainStep) (left' : ℕ) (e : Summands)
      → Follow (proving table c) known left q steps left' e → LeadsBySteps table c known left q steps left' e
  proved_lead left q [] left' e h = h
  proved_lead left q (moves m s ∷ steps) left' e (after, (none, next, moved, (same, right)), rest) =
      (none, next, moved, subst (λ (n : ℕ). LeadsBySteps table c known n s steps left' e) (sym same) (proved_lead after s steps left' e rest))
  proved_lead left q (cuts f s ∷ steps) left' e (after, (due, cut, (same, right)), rest) =
      (due, cut, subst (λ (n : ℕ). LeadsBySteps table c known n s steps left' e) (sym same) (proved_lead after s steps left' e rest))

pub steps_agree : StepsAgree
steps_agree = record {
  accepted = accepted_follow;
  accepted_follow = accepted_lead;
  proved = proved_follow;
  proved_follow = proved_lead;
}
