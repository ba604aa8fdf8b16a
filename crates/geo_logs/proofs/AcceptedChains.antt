-- What an accepted chain says of its term.
use Rattle.std.proofs.Common.{◌≡◌, ℕ, ◌-◌, map, ℤ, List, [], sym}
use Rattle.fraction_poly.specs.MultipliedOut.{multiplied_out}
use Rattle.fraction_poly.proofs.PolynomialValues.{◌∘◌, flip, self}
use Rattle.ring_laws.specs.Fraction.{Same, IsNonzero}
use Rattle.geo_points.specs.Placements.{Placement}
use Rattle.geo_poly.specs.declared.variables.Var.{Var}
use Rattle.geo_terms.specs.Constructions.{Construction, MeetsSteps}
use Rattle.geo_terms.specs.Trees.{Tree}
use Rattle.geo_terms.specs.Values.{HasTreeValue, tree_value}
use Rattle.geo_logs.specs.Chains.{Chain, IsAcceptedChain}
use Rattle.geo_logs.specs.Starts.{start_charge, start_of}
use Rattle.geo_logs.specs.Moves.{Table}
use Rattle.geo_logs.specs.Placements.{HasValuesBelow, HoldsAsCondition, MeetsStepsBelow}
use Rattle.geo_terms.specs.TermBounds.{IsTermBelow}
use Rattle.geo_logs.specs.Samples.{sample_variables}
use Rattle.geo_logs.specs.Sound.{IsSoundTable, IsSoundTerm}
use Rattle.geo_logs.proofs.ChainPolynomials.{chain_polynomial, start_polynomial}
use Rattle.geo_logs.proofs.ChainValues.{chain_named, chain_null, chain_null_on}
use Rattle.geo_poly.proofs.EachVariable.{EachIn, each-contained}
use Rattle.geo_logs.proofs.Known.{IsFar}
use Rattle.geo_logs.proofs.MoveValues.{IsApart, apart, at_placement, nonzero, null_of_times, null_times, value_as, zero_fraction}
use Rattle.geo_logs.proofs.SampleValues.{IsNonzeroAt, end_apart}

module _ (placed : Placement) (c : Construction) (e : Tree) (sound : IsSoundTerm c e) (has_value : HasTreeValue placed e) where
  -- a term is 0 just where its start is
  pub term_null : Same (at_placement placed (start_of e)) zero_fraction → Same (tree_value placed e) zero_fraction
  term_null h =
      null_of_times (tree_value placed e) (at_placement placed (multiplied_out e).1) (sound.nonzero placed has_value) (sound.tells placed has_value ∘ h)

  pub start_null : Same (tree_value placed e) zero_fraction → Same (at_placement placed (start_of e)) zero_fraction
  start_null h = flip (sound.tells placed has_value) ∘ null_times (tree_value placed e) (at_placement placed (multiplied_out e).1) h

-- where a condition holds, its start is not 0
pub start_apart : (placed : Placement) (c : Construction) (e : Tree) → IsSoundTerm c e → HoldsAsCondition placed e → IsApart (at_placement placed (start_of e))
start_apart placed c e sound holds h =
    apart (tree_value placed e) holds.nonzero (term_null placed c e sound holds.has_value h)

module _ (table : Table) (c : Construction) (sound : IsSoundTable table c) (known : List Var) (left : ℕ) (e : Tree) (chain : Chain)
    (left' : ℕ) (accepted : IsAcceptedChain table c known left e chain left') (term : IsSoundTerm c e) where
  -- a chain that ends in 0: the term is 0 where it has a value
  pub ended_in_zero : chain.end ≡ [] → (placed : Placement) → MeetsSteps placed c → HasTreeValue placed e → Same (tree_value placed e) zero_fraction
  ended_in_zero z placed met has_value =
      term_null placed c e term has_value
      (chain_null table c sound known placed met (left - start_charge e) (start_of e) chain.steps left' chain.end (term.defined placed has_value) accepted.leads
      (value_as placed chain.end [] (sym z) self))

  -- a chain whose end is not 0 at a sample: the term is not 0 in a placement with its values
  pub ended_apart : (values : List (Var × ℤ)) → map (λ v. v.0) values ≡ sample_variables c → IsNonzeroAt values chain.end
      → (placed : Placement) (n : ℕ) → HasValuesBelow placed c n values → MeetsStepsBelow placed c n → EachIn (IsFar placed) known
      → IsTermBelow n c.params e → HasTreeValue placed e → IsNonzero (tree_value placed e)
  ended_apart values ordered some placed n has met far below has_value =
      nonzero (tree_value placed e)
      (λ h. end_apart placed c n values ordered has chain.end
      (chain_polynomial table c sound known (left - start_charge e) (start_of e) chain.steps left' chain.end (start_polynomial e accepted.started.room) accepted.leads) accepted.ended
      (chain_named table c sound known n (left - start_charge e) (start_of e) chain.steps left' chain.end (term.named n below) accepted.leads) some
      (chain_null_on table c sound known placed n met (λ v k. each-contained (IsFar placed) known v far k) (left - start_charge e) (start_of e) chain.steps left' chain.end
      (term.named n below) (term.defined placed has_value) accepted.leads (start_null placed c e term has_value h)))
