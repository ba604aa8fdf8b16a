-- The rows of Pythagoras differences hold, and their denominators are light.
use Rattle.std.proofs.Common.{◌≡◌, ℕ, ◌+◌, ◌*◌, ◌≤◌, max, Bool, true, false, cond, eqb, Option, Some, None, slice_get, refl, subst, IfSome, arith}
use Rattle.std.proofs.Math.Nat.{mul-le-mul_left}
use Rattle.std.specs.Option.{option_and_then, option_map}
use Rattle.std.proofs.lemmas.Bool.{eqb-true}
use Rattle.elim_pyth.specs.declared.pyth_rows.Reading.{Reading}
use Rattle.elim_pyth.specs.declared.pyth_rows.Reading.TheVariants.{Linear, Quadratic}
use Rattle.elim_pyth.specs.DifferenceTable.{reading, linear_numerator, quadratic_numerator, quadratic_power, difference_row}
use Rattle.elim_pyth.specs.DifferenceTable.{difference_table, crossing_square, foot_square, along_square, turned_square, weights_square}
use Rattle.fraction_poly.specs.Forms.{Form, pythagoras, ◌⊞◌, ◌⊟◌, ◌⊠◌, piece_of}
use Rattle.fraction_poly.specs.Laws.{polynomial_value}
use Rattle.fraction_poly.specs.Measures.{numbers_of}
use Rattle.fraction_poly.specs.MultipliedOut.{multiplied_out}
use Rattle.fraction_poly.specs.StepForms.{numerator_at, denominator_at, origin_weight, step_charge, step_denominator, step_row}
use Rattle.fraction_poly.specs.TableRows.{TableRow, AreLight, IsLight, IsPointMet, IsSound, row_numbers}
use Rattle.fraction_poly.proofs.FormValues.{Holds, form_value, holds_one, holds_two, no_ratios, of_some, has_no_ratio}
use Rattle.fraction_poly.proofs.PolynomialValues.{◌∘◌, self, products}
use Rattle.fraction_poly.proofs.PieceBounds.{bounded_form}
use Rattle.fraction_poly.proofs.StepValues.{denominator_defined, denominator_nonzero, number_over}
use Rattle.fraction_poly.proofs.TermBounds.{positive}
use Rattle.geo_points.proofs.LinearRows.{inter-pythagoras_difference, foot-pythagoras_difference, pratio-pythagoras_difference, tratio-pythagoras_difference}
use Rattle.geo_points.proofs.QuadraticRows.{inter-quadratic, foot-quadratic, pratio-quadratic, tratio-quadratic}
use Rattle.geo_points.proofs.Signs.{pythagoras_difference-swap, pythagoras_difference-length}
use Rattle.geo_points.proofs.WeightedRows.{weights-pythagoras_difference, weights-quadratic}
use Rattle.geo_points.specs.declared.ids.PointId.{PointId}
use Rattle.ring_laws.specs.Fraction.{Fraction, Same, times}
use Rattle.geo_points.specs.Placements.{Placement}
use Rattle.geo_points.specs.Points.{Point as Triple, pythagoras_difference}
use Rattle.geo_poly.specs.declared.variables.Var.TheVariants.{R, S, P, X, Y, T}
use Rattle.geo_terms.specs.declared.steps.Step.{Step}
use Rattle.geo_terms.specs.declared.steps.Step.TheVariants.{Point, Inter, Foot, Pratio, Tratio, Weights}
use Rattle.geo_terms.specs.Constructions.{Construction, IsStepMet}
use Rattle.geo_terms.specs.Stores.{Store, tree_of}
use Rattle.geo_terms.specs.Values.{tree_value}

-- SOUNDNESS
module _ (placed : Placement) (nodes : Store) (y : PointId) where
  abbrev at : ℕ → Triple
  at = placed.point

  -- the numerator of P_ABY has the value of the difference times the denominator
  numerator_is : (step : Step) → IsStepMet placed nodes y.0 step → (a b : PointId)
      → IfSome (linear_numerator nodes step a b)
      (λ num. (has_no_ratio num ≡ true)
      × Same (times (pythagoras_difference (at a.0) (at b.0) (at y.0)) (form_value placed (step_denominator nodes step)))
      (form_value placed num))
  numerator_is Point met a b = tt
  numerator_is (Inter u v p q) met a b = (refl, inter-pythagoras_difference (at a.0) (at b.0) (at u.0) (at v.0) (at p.0) (at q.0) (at y.0) met)
  numerator_is (Foot p u v) met a b = (refl, foot-pythagoras_difference (at a.0) (at b.0) (at p.0) (at u.0) (at v.0) (at y.0) met)
  numerator_is (Pratio w u v r) met a b =
      let e = tree_of nodes r in (
        refl,
        pratio-pythagoras_difference (at a.0) (at b.0) (at w.0) (at u.0) (at v.0) (at y.0) (tree_value placed e)
            (polynomial_value placed (multiplied_out e).0) (polynomial_value placed (multiplied_out e).1) met.1
            (number_over placed nodes r met.0).same,
      )
  numerator_is (Tratio u v r) met a b =
      let e = tree_of nodes r in (
        refl,
        tratio-pythagoras_difference (at a.0) (at b.0) (at u.0) (at v.0) (at y.0) (tree_value placed e)
            (polynomial_value placed (multiplied_out e).0) (polynomial_value placed (multiplied_out e).1) met.1
            (number_over placed nodes r met.0).same,
      )
  numerator_is (Weights o u v r s) met a b =
      let e = tree_of nodes r in
      let f = tree_of nodes s in (
        refl,
        weights-pythagoras_difference (at a.0) (at b.0) (at o.0) (at u.0) (at v.0) (at y.0) (tree_value placed e) (tree_value placed f)
            (polynomial_value placed (multiplied_out e).0) (polynomial_value placed (multiplied_out e).1)
            (polynomial_value placed (multiplied_out f).0) (polynomial_value placed (multiplied_out f).1) met.2
            (number_over placed nodes r met.0).same (number_over placed nodes s met.1).same,
      )

  module _ (i j k : PointId) where
    abbrev difference : Fraction
    difference = pythagoras_difference (at i.0) (at j.0) (at k.0)

    linear_holds : (step : Step) → IsStepMet placed nodes y.0 step → (a b : PointId) → Same difference (pythagoras_difference (at a.0) (at b.0) (at y.0))
        → IfSome (option_map (step_row nodes step 1) (linear_numerator nodes step a b)) (Holds placed (P i j k))
    linear_holds step met a b turned = go (linear_numerator nodes step a b) (numerator_is step met a b)
      where
        go : (o : Option Form) → IfSome o
            (λ num. (has_no_ratio num ≡ true)
            × Same (times (pythagoras_difference (at a.0) (at b.0) (at y.0)) (form_value placed (step_denominator nodes step)))
            (form_value placed num))
            → IfSome (option_map (step_row nodes step 1) o) (Holds placed (P i j k))
        go None h = tt
        go (Some num) h =
            holds_one placed (P i j k) num (step_denominator nodes step) (step_charge nodes step) (no_ratios placed num h.0)
            (denominator_defined placed nodes step) (denominator_nonzero placed nodes y.0 step met)
            (products turned self ∘ h.1)

    quadratic_holds : (step : Step) → IsStepMet placed nodes y.0 step → (a b : PointId) → Same difference (pythagoras_difference (at a.0) (at y.0) (at b.0))
        → IfSome (option_map (step_row nodes step (quadratic_power step)) (quadratic_numerator nodes step a b)) (Holds placed (P i j k))
    quadratic_holds Point met a b turned = tt
    quadratic_holds (Inter u v p q) met a b turned =
        let step = Inter u v p q in
        let num = crossing_square u v p q a b in
        holds_two placed (P i j k) num (step_denominator nodes step) 0 (no_ratios placed num refl) (denominator_defined placed nodes step) (denominator_nonzero placed nodes y.0 step met)
        (products turned self ∘ inter-quadratic (at a.0) (at b.0) (at u.0) (at v.0) (at p.0) (at q.0) (at y.0) met)
    quadratic_holds (Foot p u v) met a b turned =
        let step = Foot p u v in
        let num = foot_square p u v a b in
        holds_one placed (P i j k) num (step_denominator nodes step) 0 (no_ratios placed num refl) (denominator_defined placed nodes step) (denominator_nonzero placed nodes y.0 step met)
        (products turned self ∘ foot-quadratic (at a.0) (at b.0) (at p.0) (at u.0) (at v.0) (at y.0) met)
    quadratic_holds (Pratio w u v r) met a b turned =
        let step = Pratio w u v r in
        let e = tree_of nodes r in
        let num = along_square w u v (numerator_at nodes r) (denominator_at nodes r) a b in
        holds_two placed (P i j k) num (step_denominator nodes step) (step_charge nodes step) (no_ratios placed num refl)
        (denominator_defined placed nodes step) (denominator_nonzero placed nodes y.0 step met)
        (products turned self
        ∘ pratio-quadratic (at a.0) (at b.0) (at w.0) (at u.0) (at v.0) (at y.0) (tree_value placed e)
        (polynomial_value placed (multiplied_out e).0) (polynomial_value placed (multiplied_out e).1) met.1
        (number_over placed nodes r met.0).same)
    quadratic_holds (Tratio u v r) met a b turned =
        let step = Tratio u v r in
        let e = tree_of nodes r in
        let num = turned_square u v (numerator_at nodes r) (denominator_at nodes r) a b in
        holds_two placed (P i j k) num (step_denominator nodes step) (step_charge nodes step) (no_ratios placed num refl)
        (denominator_defined placed nodes step) (denominator_nonzero placed nodes y.0 step met)
        (products turned self
        ∘ tratio-quadratic (at a.0) (at b.0) (at u.0) (at v.0) (at y.0) (tree_value placed e) (polynomial_value placed (multiplied_out e).0)
        (polynomial_value placed (multiplied_out e).1) met.1 (number_over placed nodes r met.0).same)
    quadratic_holds (Weights o u v r s) met a b turned =
        let step = Weights o u v r s in
        let e = tree_of nodes r in
        let f = tree_of nodes s in
        let num = weights_square o u v (numerator_at nodes r) (denominator_at nodes r) (numerator_at nodes s) (denominator_at nodes s) a b in
        holds_two placed (P i j k) num (step_denominator nodes step) (step_charge nodes step) (no_ratios placed num refl)
        (denominator_defined placed nodes step) (denominator_nonzero placed nodes y.0 step met)
        (products turned self
        ∘ weights-quadratic (at a.0) (at b.0) (at o.0) (at u.0) (at v.0) (at y.0) (tree_value placed e) (tree_value placed f)
        (polynomial_value placed (multiplied_out e).0) (polynomial_value placed (multiplied_out e).1)
        (polynomial_value placed (multiplied_out f).0) (polynomial_value placed (multiplied_out f).1) met.2
        (number_over placed nodes r met.0).same (number_over placed nodes s met.1).same)

    -- by the place of y
    reading_holds : (step : Step) → IsStepMet placed nodes y.0 step → IfSome (option_and_then (difference_row nodes step) (reading y i j k)) (Holds placed (P i j k))
    reading_holds step met = go (eqb j.0 y.0) (eqb i.0 y.0) (eqb k.0 y.0) refl refl refl
      where
        go : (q p r : Bool) → eqb j.0 y.0 ≡ q → eqb i.0 y.0 ≡ p → eqb k.0 y.0 ≡ r
            → IfSome (option_and_then (difference_row nodes step)
            (cond {A = Option Reading} q (Some (Quadratic i k))
            (cond p (Some (cond r (Quadratic j j) (Linear k j))) (cond r (Some (Linear i j)) None)))) (Holds placed (P i j k))
        go true p r e f g =
            quadratic_holds step met i k (subst (λ n. Same difference (pythagoras_difference (at i.0) (at n) (at k.0))) (eqb-true j.0 y.0 e) self)
        go false true true e f g =
            quadratic_holds step met j j
            (subst (λ n. Same difference (pythagoras_difference (at j.0) (at n) (at j.0))) (eqb-true i.0 y.0 f)
            (subst (λ n. Same (pythagoras_difference (at i.0) (at j.0) (at n)) (pythagoras_difference (at j.0) (at i.0) (at j.0)))
            (same_ends (eqb-true i.0 y.0 f) (eqb-true k.0 y.0 g)) (pythagoras_difference-length (at i.0) (at j.0))))
          where
            same_ends : {a b c : ℕ} → a ≡ b → c ≡ b → a ≡ c
            same_ends p q = cc
        go false true false e f g =
            linear_holds step met k j
            (subst (λ n. Same difference (pythagoras_difference (at k.0) (at j.0) (at n))) (eqb-true i.0 y.0 f) (pythagoras_difference-swap (at k.0) (at j.0) (at i.0)))
        go false false true e f g =
            linear_holds step met i j (subst (λ n. Same difference (pythagoras_difference (at i.0) (at j.0) (at n))) (eqb-true k.0 y.0 g) self)
        go false false false e f g = tt

difference_row-holds : (c : Construction) (y i j k : PointId) (placed : Placement) → IsPointMet placed c y → IfSome (difference_table c y (P i j k)) (Holds placed (P i j k))
difference_row-holds c y i j k placed met = go (slice_get c.steps y.0) met
  where
    go : (o : Option Step) → ((step : Step) → o ≡ Some step → IsStepMet placed c.nodes y.0 step)
        → IfSome (option_and_then (λ step. option_and_then (difference_row c.nodes step) (reading y i j k)) o) (Holds placed (P i j k))
    go None met = tt
    go (Some step) met = reading_holds placed c.nodes y i j k step (met step refl)

pub difference_rows_hold : IsSound difference_table
difference_rows_hold c y (P i j k) r is placed met has = of_some (difference_table c y (P i j k)) r (Holds placed (P i j k)) is (difference_row-holds c y i j k placed met)
difference_rows_hold c y (R i j k l) r is placed met has = absurd (cc)
difference_rows_hold c y (S i j k) r is placed met has = absurd (cc)
difference_rows_hold c y (X i) r is placed met has = absurd (cc)
difference_rows_hold c y (Y i) r is placed met has = absurd (cc)
difference_rows_hold c y (T t) r is placed met has = absurd (cc)

-- DENOMINATORS
linear_light : (nodes : Store) (step : Step) (a b : PointId) → IfSome (option_map (step_row nodes step 1) (linear_numerator nodes step a b)) (λ r. AreLight (row_numbers r))
linear_light nodes Point a b = tt
linear_light nodes (Inter u v p q) a b = record { power = omega arith; weight = omega arith; degree = omega arith }
linear_light nodes (Foot p u v) a b = record { power = omega arith; weight = omega arith; degree = omega arith }
linear_light nodes (Pratio w u v r) a b = record { power = omega arith; weight = omega arith; degree = omega arith }
linear_light nodes (Tratio u v r) a b = record { power = omega arith; weight = omega arith; degree = omega arith }
linear_light nodes (Weights o u v r s) a b = record { power = omega arith; weight = omega arith; degree = omega arith }

-- a factor is at most the product where the other one is at least 1
pub factor-le : (x y : ℕ) → 1 ≤ y → x ≤ x * y
factor-le x y h = omega (arith, mul-le-mul_left x h)

-- a denominator that is no larger than the numerator is light
light_row : (r : TableRow) → r.power ≤ 2 → (piece_of r.den).weight ≤ (piece_of r.num).weight → (piece_of r.den).degree ≤ (piece_of r.num).degree → AreLight (row_numbers r)
light_row r power weight degree = record { power = power; weight = omega (arith, weight); degree = omega (arith, degree) }

front_weight : (x y a b c : ℕ) → 1 ≤ y → x ≤ x * y + a + b + c
front_weight x y a b c h = omega (arith, factor-le x y h)

front_degree : (x y a b c : ℕ) → x ≤ max (max (max (x + y) a) b) c
front_degree x y a b c = omega arith

-- so is one whose product stands in front of three terms
light_front : (charge : ℕ) (den other x y z : Form) → AreLight (row_numbers (record { power = 2; num = den ⊠ other ⊟ x ⊟ y ⊟ z; den = den; charge = charge }))
light_front charge den other x y z =
    light_row (record { power = 2; num = den ⊠ other ⊟ x ⊟ y ⊟ z; den = den; charge = charge }) (omega arith)
    (front_weight (piece_of den).weight (piece_of other).weight (piece_of x).weight (piece_of y).weight (piece_of z).weight (bounded_form other).weight)
    (front_degree (piece_of den).degree (piece_of other).degree (piece_of x).degree (piece_of y).degree (piece_of z).degree)

quadratic_light : (nodes : Store) (step : Step) (a b : PointId) → IfSome (option_map (step_row nodes step (quadratic_power step)) (quadratic_numerator nodes step a b)) (λ r. AreLight (row_numbers r))
quadratic_light nodes Point a b = tt
quadratic_light nodes (Inter u v p q) a b = record { power = omega arith; weight = omega arith; degree = omega arith }
quadratic_light nodes (Foot p u v) a b = record { power = omega arith; weight = omega arith; degree = omega arith }
quadratic_light nodes (Pratio w u v r) a b =
    let d = (numbers_of (tree_of nodes r)).wd in
    let square = factor-le d d (positive (tree_of nodes r)).wd in
    record { power = omega arith; weight = omega (arith, square); degree = omega arith }
quadratic_light nodes (Tratio u v r) a b =
    let d = (numbers_of (tree_of nodes r)).wd in
    let square = factor-le d d (positive (tree_of nodes r)).wd in
    record { power = omega arith; weight = omega (arith, square); degree = omega arith }
quadratic_light nodes (Weights o u v r s) a b =
    let n = numerator_at nodes r in let d = denominator_at nodes r in
    let m = numerator_at nodes s in let e = denominator_at nodes s in
    let c = origin_weight n d m e in
    light_front (step_charge nodes (Weights o u v r s)) (d ⊠ e)
    (c ⊠ pythagoras a o b ⊞ n ⊠ e ⊠ pythagoras a u b ⊞ m ⊠ d ⊠ pythagoras a v b)
    (c ⊠ (n ⊠ e) ⊠ pythagoras o u o) (c ⊠ (m ⊠ d) ⊠ pythagoras o v o) (n ⊠ e ⊠ (m ⊠ d) ⊠ pythagoras u v u)

difference_row-light : (c : Construction) (y i j k : PointId) → IfSome (difference_table c y (P i j k)) (λ r. AreLight (row_numbers r))
difference_row-light c y i j k = go (slice_get c.steps y.0)
  where
    read : (step : Step) (o : Option Reading) → IfSome (option_and_then (difference_row c.nodes step) o) (λ r. AreLight (row_numbers r))
    read step None = tt
    read step (Some (Linear a b)) = linear_light c.nodes step a b
    read step (Some (Quadratic a b)) = quadratic_light c.nodes step a b

    go : (o : Option Step) → IfSome (option_and_then (λ step. option_and_then (difference_row c.nodes step) (reading y i j k)) o) (λ r. AreLight (row_numbers r))
    go None = tt
    go (Some step) = read step (reading y i j k)

pub difference_rows_light : IsLight difference_table
difference_rows_light c y (P i j k) r is = of_some (difference_table c y (P i j k)) r (λ r. AreLight (row_numbers r)) is (difference_row-light c y i j k)
difference_rows_light c y (R i j k l) r is = absurd (cc)
difference_rows_light c y (S i j k) r is = absurd (cc)
difference_rows_light c y (X i) r is = absurd (cc)
difference_rows_light c y (Y i) r is = absurd (cc)
difference_rows_light c y (T t) r is = absurd (cc)
