-- A chain that ends in 0 begins with 0; one that does not end in 0 does not begin with 0.
use Rattle.std.proofs.Common.{ℕ, ◌-◌, Option, Some, None, List, [], ◌∷◌, Contains, sym, subst}
use Rattle.geo_points.specs.declared.ids.PointId.{PointId}
use Rattle.ring_laws.specs.Fraction.{Same}
use Rattle.geo_points.specs.Placements.{Placement}
use Rattle.geo_poly.specs.declared.variables.Var.{Var}
use Rattle.geo_poly.specs.Polynomials.{Summands}
use Rattle.geo_terms.specs.Constructions.{Construction, MeetsSteps}
use Rattle.geo_logs.specs.Chains.{ChainStep, moves, cuts, LeadsTo}
use Rattle.geo_logs.specs.Moves.{Table, move_charge, place_of, replacement}
use Rattle.fraction_poly.specs.TableRows.{HasVariable}
use Rattle.geo_logs.specs.Naming.{IsNamed, IsPlaceBelow, IsPlaceMet}
use Rattle.geo_logs.specs.Placements.{MeetsStepsBelow}
use Rattle.geo_logs.specs.Sound.{IsSoundTable}
use Rattle.geo_poly.specs.PolynomialVariables.{AllVariables}
use Rattle.geo_poly.proofs.EachVariable.{of-cut}
use Rattle.geo_logs.proofs.MoveValues.{IsApart, at_placement, at_variable, move_kept, move_named, null_after_cut, null_after_move, null_before_cut, null_before_move, value_as, zero_fraction}

-- any step that is looked at is met, where all are
any_met : (placed : Placement) (c : Construction) → MeetsSteps placed c → (place : Option PointId) → IsPlaceMet placed c place
any_met placed c met None = tt
any_met placed c met (Some y) = λ step at. met y.0 step at

-- and one of a point below n, where those are
below_met : (placed : Placement) (c : Construction) (n : ℕ) → MeetsStepsBelow placed c n → (place : Option PointId) → IsPlaceBelow n place → IsPlaceMet placed c place
below_met placed c n met None below = tt
below_met placed c n met (Some y) below = λ step at. met y.0 step below at

module _ (table : Table) (c : Construction) (sound : IsSoundTable table c) (known : List Var) where
  -- THE UNIVERSAL HALF
  pub chain_null : (placed : Placement) → MeetsSteps placed c → (left : ℕ) (q : Summands) (steps : List ChainStep) (left' : ℕ) (e : Summands)
      → AllVariables (HasVariable placed) q → LeadsTo table c known left q steps left' e
      → Same (at_placement placed e) zero_fraction → Same (at_placement placed q) zero_fraction
  chain_null placed met left q [] left' e defined h z = value_as placed q e (sym h.1) z
  chain_null placed met left q (moves move r ∷ steps) left' e defined h z =
      let kept = move_kept placed table c sound move left q r (any_met placed c met (place_of move)) defined h.0 in
      null_before_move placed table c sound move q r kept
      (chain_null placed met (left - move_charge (replacement table c move q) q) r steps left' e kept.defined h.1 z)
  chain_null placed met left q (cuts f r ∷ steps) left' e defined h z =
      null_before_cut placed known f q r h.0
      (chain_null placed met left r steps left' e (of-cut (HasVariable placed) known f q r h.0 defined) h.1 z)

  -- THE EXISTENCE HALF
  -- all that a chain names, its beginning names
  pub chain_named : (n left : ℕ) (q : Summands) (steps : List ChainStep) (left' : ℕ) (e : Summands) → AllVariables (IsNamed c n) q → LeadsTo table c known left q steps left' e
      → AllVariables (IsNamed c n) e
  chain_named n left q [] left' e named h = subst (AllVariables (IsNamed c n)) h.1 named
  chain_named n left q (moves move r ∷ steps) left' e named h =
      chain_named n (left - move_charge (replacement table c move q) q) r steps left' e (move_named table c sound n move left q r named h.0).names h.1
  chain_named n left q (cuts f r ∷ steps) left' e named h = chain_named n left r steps left' e (of-cut (IsNamed c n) known f q r h.0 named) h.1

  pub chain_null_on : (placed : Placement) (n : ℕ) → MeetsStepsBelow placed c n → ((v : Var) → Contains known v → IsApart (at_variable placed v))
      → (left : ℕ) (q : Summands) (steps : List ChainStep) (left' : ℕ) (e : Summands)
      → AllVariables (IsNamed c n) q → AllVariables (HasVariable placed) q → LeadsTo table c known left q steps left' e
      → Same (at_placement placed q) zero_fraction → Same (at_placement placed e) zero_fraction
  chain_null_on placed n met far left q [] left' e named defined h z = value_as placed e q h.1 z
  chain_null_on placed n met far left q (moves move r ∷ steps) left' e named defined h z =
      let next = move_named table c sound n move left q r named h.0 in
      let kept = move_kept placed table c sound move left q r (below_met placed c n met (place_of move) next.place) defined h.0 in
      chain_null_on placed n met far (left - move_charge (replacement table c move q) q) r steps left' e next.names kept.defined h.1
      (null_after_move placed table c sound move q r kept z)
  chain_null_on placed n met far left q (cuts f r ∷ steps) left' e named defined h z =
      chain_null_on placed n met far left r steps left' e (of-cut (IsNamed c n) known f q r h.0 named) (of-cut (HasVariable placed) known f q r h.0 defined) h.1
      (null_after_cut placed known f q r far h.0 z)
