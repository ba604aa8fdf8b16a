-- The denominators of the rows of a step that is met are not 0, and its number is numerator over denominator.
use Rattle.std.proofs.Common.{ℕ, pos, arith}
use Rattle.std.proofs.lemmas.Int.{ints}
use Rattle.fraction_poly.specs.Laws.{polynomial_value}
use Rattle.fraction_poly.specs.MultipliedOut.{multiplied_out}
use Rattle.fraction_poly.specs.StepForms.{step_denominator}
use Rattle.fraction_poly.proofs.FormValues.{form_value, RatiosDefined}
use Rattle.fraction_poly.proofs.TermValues.{IsOver, multiplied_out-value, nonzero_times}
use Rattle.geo_points.proofs.Denominators.{crossing_nonzero, square_nonzero}
use Rattle.geo_points.specs.declared.ids.TermId.{TermId}
use Rattle.ring_laws.specs.Fraction.{IsNonzero, whole}
use Rattle.geo_points.specs.Placements.{Placement}
use Rattle.geo_terms.specs.declared.steps.Step.{Step}
use Rattle.geo_terms.specs.declared.steps.Step.TheVariants.{Point, Inter, Foot, Pratio, Tratio, Weights}
use Rattle.geo_terms.specs.Constructions.{IsStepMet}
use Rattle.geo_terms.specs.Stores.{Store, tree_of}
use Rattle.geo_terms.specs.Values.{HasTreeValue, tree_value}

pub nonzero_four : IsNonzero (whole (pos 4))
unfolding whole
nonzero_four e = absurd (omega (arith, ints, e))

pub nonzero_two : IsNonzero (whole (pos 2))
unfolding whole
nonzero_two e = absurd (omega (arith, ints, e))

nonzero_single : IsNonzero (whole (pos 1))
unfolding whole
nonzero_single e = absurd (omega (arith, ints, e))

module _ (placed : Placement) (nodes : Store) where
  -- the number at an index is its numerator over its denominator, where it has a value
  pub number_over : (r : TermId) → HasTreeValue placed (tree_of nodes r) → IsOver placed (tree_value placed (tree_of nodes r)) (multiplied_out (tree_of nodes r))
  number_over r h = multiplied_out-value placed (tree_of nodes r) h

  pub denominator_nonzero : (k : ℕ) (step : Step) → IsStepMet placed nodes k step → IsNonzero (form_value placed (step_denominator nodes step))
  denominator_nonzero k Point met = nonzero_single
  denominator_nonzero k (Inter u v p q) met = crossing_nonzero (placed.point u.0) (placed.point v.0) (placed.point p.0) (placed.point q.0) (placed.point k) met
  denominator_nonzero k (Foot p u v) met = square_nonzero (placed.point u.0) (placed.point v.0) met.apart
  denominator_nonzero k (Pratio w u v r) met = (number_over r met.0).nonzero
  denominator_nonzero k (Tratio u v r) met = nonzero_times (whole (pos 4)) (polynomial_value placed (multiplied_out (tree_of nodes r)).1) nonzero_four (number_over r met.0).nonzero
  denominator_nonzero k (Weights o u v r s) met =
      nonzero_times (polynomial_value placed (multiplied_out (tree_of nodes r)).1)
      (polynomial_value placed (multiplied_out (tree_of nodes s)).1) (number_over r met.0).nonzero (number_over s met.1).nonzero

  -- no denominator has a ratio
  pub denominator_defined : (step : Step) → RatiosDefined placed (step_denominator nodes step)
  denominator_defined Point = tt
  denominator_defined (Inter u v p q) = (tt, tt)
  denominator_defined (Foot p u v) = tt
  denominator_defined (Pratio w u v r) = tt
  denominator_defined (Tratio u v r) = (tt, tt)
  denominator_defined (Weights o u v r s) = (tt, tt)
