-- A chain that ends in 0 over the first points: its term is 0 wherever the steps of these points are met.
use Rattle.std.proofs.Common.{◌≡◌, ℕ, suc, ◌-◌, Option, Some, None, List, [], ◌∷◌, sym, arith}
use Rattle.fraction_poly.proofs.PolynomialValues.{self}
use Rattle.fraction_poly.specs.TableRows.{HasVariable}
use Rattle.geo_points.specs.declared.ids.PointId.{PointId}
use Rattle.geo_points.specs.Placements.{Placement}
use Rattle.ring_laws.specs.Fraction.{Same}
use Rattle.geo_poly.specs.declared.variables.Var.{Var}
use Rattle.geo_poly.specs.Polynomials.{Summands}
use Rattle.geo_poly.specs.PolynomialVariables.{AllVariables}
use Rattle.geo_poly.proofs.EachVariable.{of-cut}
use Rattle.geo_terms.specs.Constructions.{Construction, IsConstruction}
use Rattle.geo_terms.specs.TermBounds.{IsTermBelow}
use Rattle.proof_log.specs.declared.log.Line.{Line}
use Rattle.proof_log.specs.declared.log.Verdict.TheVariants.{Impossible}
use Rattle.geo_logs.specs.Chains.{ChainStep, moves, cuts, LeadsTo}
use Rattle.geo_logs.specs.Logs.{IsAccepted, Item, Subject}
use Rattle.geo_logs.specs.Moves.{Table, move_charge, place_of, replacement}
use Rattle.geo_logs.specs.Naming.{IsNamed, IsPlaceBelow, IsPlaceMet}
use Rattle.geo_logs.specs.Placements.{HoldsAsCondition, MeetsStepsBelow}
use Rattle.geo_logs.specs.Sound.{IsSoundTable}
use Rattle.geo_logs.specs.Starts.{start_charge, start_of}
use Rattle.geo_logs.proofs.AcceptedChains.{start_apart}
use Rattle.geo_logs.proofs.AcceptedGoals.{conditions_impossible}
use Rattle.geo_logs.proofs.MoveValues.{at_placement, move_kept, move_named, null_before_cut, null_before_move, value_as, zero_fraction}
use Rattle.geo_logs.proofs.TermVariables.{term_sound}
use Rattle.elim_apply.specs.LemmaTable.{lemma_table}
use Rattle.elim_apply.proofs.MoveRows.{lemma_table_sound}
use Rattle.log_checker.proofs.Places.{At}

place_met : (placed : Placement) (c : Construction) (n : ℕ) → MeetsStepsBelow placed c n → (place : Option PointId) → IsPlaceBelow n place → IsPlaceMet placed c place
place_met placed c n met None below = tt
place_met placed c n met (Some y) below = λ step at. met y.0 step below at

module _ (table : Table) (c : Construction) (sound : IsSoundTable table c) (known : List Var) (placed : Placement) (n : ℕ) (met : MeetsStepsBelow placed c n) where
  pub null_below : (left : ℕ) (q : Summands) (steps : List ChainStep) (left' : ℕ) (e : Summands)
      → AllVariables (IsNamed c n) q → AllVariables (HasVariable placed) q → LeadsTo table c known left q steps left' e
      → Same (at_placement placed e) zero_fraction → Same (at_placement placed q) zero_fraction
  null_below left q [] left' e named defined h z = value_as placed q e (sym h.1) z
  null_below left q (moves move r ∷ steps) left' e named defined h z =
      let next = move_named table c sound n move left q r named h.0 in
      let kept = move_kept placed table c sound move left q r (place_met placed c n met (place_of move) next.place) defined h.0 in
      null_before_move placed table c sound move q r kept
      (null_below (left - move_charge (replacement table c move q) q) r steps left' e next.names kept.defined h.1 z)
  null_below left q (cuts f r ∷ steps) left' e named defined h z =
      null_before_cut placed known f q r h.0
      (null_below left r steps left' e (of-cut (IsNamed c n) known f q r h.0 named) (of-cut (HasVariable placed) known f q r h.0 defined) h.1 z)

-- the condition that is called impossible holds in no placement that meets the steps of the points that its term names
pub never_below : (subject : Subject) (steps left k : ℕ) (lines : List Line) → IsConstruction subject.construction → IsAccepted lemma_table subject steps lines (Impossible k) left
    → (i : ℕ) × (condition : Item) × (k ≡ suc i) × At subject.conditions i condition
    × ((placed : Placement) (n : ℕ) → MeetsStepsBelow placed subject.construction n → IsTermBelow n subject.construction.params condition.term
    → HoldsAsCondition placed condition.term → ⊥)
never_below subject steps left k lines valid h =
    let c = subject.construction in
    let found = conditions_impossible _ _ subject.goals [] [] 1 steps subject.conditions h.rest k left h.worked in
    let ends = found.ends in
    let e = found.condition.term in
    let term = term_sound c e in (
      found.place,
      found.condition,
      omega (arith, found.number),
      found.at,
      λ placed n met below holds.
          start_apart placed c e term holds
          (null_below lemma_table c (lemma_table_sound c valid) ends.known placed n met (ends.left - start_charge e) (start_of e) ends.chain.steps ends.after ends.chain.end
          (term.named n below) (term.defined placed holds.has_value) ends.works.leads (value_as placed ends.chain.end [] (sym ends.zero) self)),
    )
