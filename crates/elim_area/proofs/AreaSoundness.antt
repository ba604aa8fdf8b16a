-- The rows of signed areas hold, and their denominators are light.
use Rattle.std.proofs.Common.{◌≡◌, ℕ, Bool, true, false, cond, eqb, Option, Some, None, slice_get, refl, subst, IfSome, arith}
use Rattle.std.specs.Option.{option_and_then, option_map}
use Rattle.std.proofs.lemmas.Bool.{eqb-true}
use Rattle.elim_area.specs.AreaTable.{area_numerator, area_table, points_after}
use Rattle.fraction_poly.specs.Forms.{Form}
use Rattle.fraction_poly.specs.Laws.{polynomial_value}
use Rattle.fraction_poly.specs.MultipliedOut.{multiplied_out}
use Rattle.fraction_poly.specs.StepForms.{step_charge, step_denominator, step_row}
use Rattle.fraction_poly.specs.TableRows.{AreLight, IsLight, IsPointMet, IsSound, row_numbers}
use Rattle.fraction_poly.proofs.FormValues.{Holds, form_value, holds_one, no_ratios, of_some, has_no_ratio}
use Rattle.fraction_poly.proofs.PolynomialValues.{◌∘◌, flip, self, products}
use Rattle.fraction_poly.proofs.StepValues.{denominator_defined, denominator_nonzero, number_over}
use Rattle.geo_points.proofs.AreaRows.{pratio-signed_area}
use Rattle.geo_points.proofs.LinearRows.{inter-signed_area, foot-signed_area, tratio-signed_area}
use Rattle.geo_points.proofs.Signs.{signed_area-turn}
use Rattle.geo_points.proofs.WeightedRows.{weights-signed_area}
use Rattle.geo_points.specs.declared.ids.PointId.{PointId}
use Rattle.ring_laws.specs.Fraction.{Same, times}
use Rattle.geo_points.specs.Placements.{Placement}
use Rattle.geo_points.specs.Points.{Point as Triple, signed_area}
use Rattle.geo_poly.specs.declared.variables.Var.TheVariants.{R, S, P, X, Y, T}
use Rattle.geo_terms.specs.declared.steps.Step.{Step}
use Rattle.geo_terms.specs.declared.steps.Step.TheVariants.{Point, Inter, Foot, Pratio, Tratio, Weights}
use Rattle.geo_terms.specs.Constructions.{Construction, IsStepMet}
use Rattle.geo_terms.specs.Stores.{Store, tree_of}
use Rattle.geo_terms.specs.Values.{tree_value}

-- SOUNDNESS
module _ (placed : Placement) (nodes : Store) (y : PointId) where
  abbrev at : ℕ → Triple
  at = placed.point

  -- the numerator of S_ABY has the value of the area times the denominator
  numerator_is : (step : Step) → IsStepMet placed nodes y.0 step → (a b : PointId)
      → IfSome (area_numerator nodes step a b)
      (λ num. (has_no_ratio num ≡ true)
      × Same (times (signed_area (at a.0) (at b.0) (at y.0)) (form_value placed (step_denominator nodes step))) (form_value placed num))
  numerator_is Point met a b = tt
  numerator_is (Inter u v p q) met a b = (refl, inter-signed_area (at a.0) (at b.0) (at u.0) (at v.0) (at p.0) (at q.0) (at y.0) met)
  numerator_is (Foot p u v) met a b = (refl, foot-signed_area (at a.0) (at b.0) (at p.0) (at u.0) (at v.0) (at y.0) met)
  numerator_is (Pratio w u v r) met a b =
      let e = tree_of nodes r in (
        refl,
        pratio-signed_area (at a.0) (at b.0) (at w.0) (at u.0) (at v.0) (at y.0) (tree_value placed e)
            (polynomial_value placed (multiplied_out e).0) (polynomial_value placed (multiplied_out e).1) met.1
            (number_over placed nodes r met.0).same,
      )
  numerator_is (Tratio u v r) met a b =
      let e = tree_of nodes r in (
        refl,
        tratio-signed_area (at a.0) (at b.0) (at u.0) (at v.0) (at y.0) (tree_value placed e)
            (polynomial_value placed (multiplied_out e).0) (polynomial_value placed (multiplied_out e).1) met.1
            (number_over placed nodes r met.0).same,
      )
  numerator_is (Weights o u v r s) met a b =
      let e = tree_of nodes r in
      let f = tree_of nodes s in (
        refl,
        weights-signed_area (at a.0) (at b.0) (at o.0) (at u.0) (at v.0) (at y.0) (tree_value placed e) (tree_value placed f)
            (polynomial_value placed (multiplied_out e).0) (polynomial_value placed (multiplied_out e).1)
            (polynomial_value placed (multiplied_out f).0) (polynomial_value placed (multiplied_out f).1) met.2
            (number_over placed nodes r met.0).same (number_over placed nodes s met.1).same,
      )

  -- the row of an area whose corners are a, b and y in a cyclic order
  row_holds : (i j k : PointId) (step : Step) → IsStepMet placed nodes y.0 step → (a b : PointId)
      → Same (signed_area (at i.0) (at j.0) (at k.0)) (signed_area (at a.0) (at b.0) (at y.0))
      → IfSome (option_map (step_row nodes step 1) (area_numerator nodes step a b)) (Holds placed (S i j k))
  row_holds i j k step met a b turned = go (area_numerator nodes step a b) (numerator_is step met a b)
    where
      go : (o : Option Form) → IfSome o
          (λ num. (has_no_ratio num ≡ true)
          × Same (times (signed_area (at a.0) (at b.0) (at y.0)) (form_value placed (step_denominator nodes step))) (form_value placed num))
          → IfSome (option_map (step_row nodes step 1) o) (Holds placed (S i j k))
      go None h = tt
      go (Some num) h =
          holds_one placed (S i j k) num (step_denominator nodes step) (step_charge nodes step) (no_ratios placed num h.0)
          (denominator_defined placed nodes step) (denominator_nonzero placed nodes y.0 step met)
          (products turned self ∘ h.1)

  -- by the corner that is y
  reading_holds : (i j k : PointId) (step : Step) → IsStepMet placed nodes y.0 step
      → IfSome (option_and_then (λ ab. option_map (step_row nodes step 1) (area_numerator nodes step ab.0 ab.1)) (points_after y i j k)) (Holds placed (S i j k))
  reading_holds i j k step met = go (eqb i.0 y.0) (eqb j.0 y.0) (eqb k.0 y.0) refl refl refl
    where
      go : (p q r : Bool) → eqb i.0 y.0 ≡ p → eqb j.0 y.0 ≡ q → eqb k.0 y.0 ≡ r
          → IfSome (option_and_then (λ (ab : PointId × PointId). option_map (step_row nodes step 1) (area_numerator nodes step ab.0 ab.1))
          (cond {A = Option (PointId × PointId)} p (Some (j, k)) (cond q (Some (k, i)) (cond r (Some (i, j)) None))))
          (Holds placed (S i j k))
      go true q r e f g =
          row_holds i j k step met j k
          (subst (λ n. Same (signed_area (at i.0) (at j.0) (at k.0)) (signed_area (at j.0) (at k.0) (at n))) (eqb-true i.0 y.0 e) (flip (signed_area-turn (at i.0) (at j.0) (at k.0))))
      go false true r e f g =
          row_holds i j k step met k i
          (subst (λ n. Same (signed_area (at i.0) (at j.0) (at k.0)) (signed_area (at k.0) (at i.0) (at n))) (eqb-true j.0 y.0 f) (signed_area-turn (at k.0) (at i.0) (at j.0)))
      go false false true e f g =
          row_holds i j k step met i j
          (subst (λ n. Same (signed_area (at i.0) (at j.0) (at k.0)) (signed_area (at i.0) (at j.0) (at n))) (eqb-true k.0 y.0 g) self)
      go false false false e f g = tt

area_row-holds : (c : Construction) (y i j k : PointId) (placed : Placement) → IsPointMet placed c y → IfSome (area_table c y (S i j k)) (Holds placed (S i j k))
area_row-holds c y i j k placed met = go (slice_get c.steps y.0) met
  where
    go : (o : Option Step) → ((step : Step) → o ≡ Some step → IsStepMet placed c.nodes y.0 step)
        → IfSome (option_and_then (λ step. option_and_then (λ ab. option_map (step_row c.nodes step 1) (area_numerator c.nodes step ab.0 ab.1)) (points_after y i j k)) o) (Holds placed (S i j k))
    go None met = tt
    go (Some step) met = reading_holds placed c.nodes y i j k step (met step refl)

pub area_rows_hold : IsSound area_table
area_rows_hold c y (S i j k) r is placed met has = of_some (area_table c y (S i j k)) r (Holds placed (S i j k)) is (area_row-holds c y i j k placed met)
area_rows_hold c y (R i j k l) r is placed met has = absurd (cc)
area_rows_hold c y (P i j k) r is placed met has = absurd (cc)
area_rows_hold c y (X i) r is placed met has = absurd (cc)
area_rows_hold c y (Y i) r is placed met has = absurd (cc)
area_rows_hold c y (T t) r is placed met has = absurd (cc)

-- DENOMINATORS
numerator_light : (nodes : Store) (step : Step) (a b : PointId) → IfSome (option_map (step_row nodes step 1) (area_numerator nodes step a b)) (λ r. AreLight (row_numbers r))
numerator_light nodes Point a b = tt
numerator_light nodes (Inter u v p q) a b = record { power = omega arith; weight = omega arith; degree = omega arith }
numerator_light nodes (Foot p u v) a b = record { power = omega arith; weight = omega arith; degree = omega arith }
numerator_light nodes (Pratio w u v r) a b = record { power = omega arith; weight = omega arith; degree = omega arith }
numerator_light nodes (Tratio u v r) a b = record { power = omega arith; weight = omega arith; degree = omega arith }
numerator_light nodes (Weights o u v r s) a b = record { power = omega arith; weight = omega arith; degree = omega arith }

area_row-light : (c : Construction) (y i j k : PointId) → IfSome (area_table c y (S i j k)) (λ r. AreLight (row_numbers r))
area_row-light c y i j k = go (slice_get c.steps y.0)
  where
    read : (step : Step) (o : Option (PointId × PointId))
        → IfSome (option_and_then (λ (ab : PointId × PointId). option_map (step_row c.nodes step 1) (area_numerator c.nodes step ab.0 ab.1)) o) (λ r. AreLight (row_numbers r))
    read step None = tt
    read step (Some ab) = numerator_light c.nodes step ab.0 ab.1

    go : (o : Option Step)
        → IfSome (option_and_then (λ step. option_and_then
        (λ ab. option_map (step_row c.nodes step 1) (area_numerator c.nodes step ab.0 ab.1)) (points_after y i j k)) o)
        (λ r. AreLight (row_numbers r))
    go None = tt
    go (Some step) = read step (points_after y i j k)

pub area_rows_light : IsLight area_table
area_rows_light c y (S i j k) r is = of_some (area_table c y (S i j k)) r (λ r. AreLight (row_numbers r)) is (area_row-light c y i j k)
area_rows_light c y (R i j k l) r is = absurd (cc)
area_rows_light c y (P i j k) r is = absurd (cc)
area_rows_light c y (X i) r is = absurd (cc)
area_rows_light c y (Y i) r is = absurd (cc)
area_rows_light c y (T t) r is = absurd (cc)
