-- The variables of the rows of the lemma table.
use Rattle.std.specs.Prelude.{slice_get, if◌then◌else◌, IfSome}
use Rattle.std.specs.Option.{option_and_then, option_map}
use Rattle.std.proofs.Common.{◌≡◌, ℕ, ◌<◌, ◌&&◌, ◌||◌, Bool, true, false, cond, eqb, Option, Some, None, refl, sym, ap, ◌∙◌, subst}
use Rattle.std.proofs.lemmas.Bool.{eqb-true}
use Rattle.fraction_poly.specs.Forms.{Form, integer, area, pythagoras, ratio, ◌⊞◌, ◌⊟◌, ◌⊠◌}
use Rattle.fraction_poly.specs.StepForms.{along_numerator, crossing_numerator, denominator_at, foot_numerator, numerator_at, origin_weight, step_denominator, step_row, weights_numerator}
use Rattle.fraction_poly.specs.Measures.{numbers_of}
use Rattle.fraction_poly.specs.TableRows.{TableRow}
use Rattle.geo_points.specs.declared.ids.PointId.{PointId}
use Rattle.geo_points.specs.declared.ids.TermId.{TermId}
use Rattle.geo_poly.specs.declared.variables.Var.{Var}
use Rattle.geo_poly.specs.declared.variables.Var.TheVariants.{R, S, P, X, Y}
use Rattle.geo_poly.specs.Canonical.{is_point, sorted_area, sorted_difference}
use Rattle.geo_terms.specs.declared.steps.Step.{Step}
use Rattle.geo_terms.specs.declared.steps.Step.TheVariants.{Point, Inter, Foot, Pratio, Tratio, Weights}
use Rattle.geo_terms.specs.Stores.{Store, tree_of}
use Rattle.geo_terms.specs.Constructions.{Construction, IsStep}
use Rattle.geo_terms.specs.Trees.{Tree, IsStepNumber}
use Rattle.elim_area.specs.AreaTable.{area_numerator, area_table, points_after}
use Rattle.elim_pyth.specs.declared.pyth_rows.Reading.{Reading}
use Rattle.elim_pyth.specs.declared.pyth_rows.Reading.TheVariants.{Linear, Quadratic}
use Rattle.elim_pyth.specs.DifferenceTable.{along_square, crossing_square, difference_row, difference_table, foot_square, linear_numerator}
use Rattle.elim_pyth.specs.DifferenceTable.{reading, turned_square, quadratic_numerator, quadratic_power, weights_square}
use Rattle.area_coords.specs.FreeTable.{area_in_coordinates, difference_in_coordinates, free_table, is_free, is_free_step}
use Rattle.geo_logs.specs.Naming.{IsFree}
use Rattle.elim_ratio.specs.RatioTable.{along_row, crossing_row, end_at, first_line, foot_row, lemma_row, plain_row, pythagoras_row, ratio_table, same_line, second_line, shared_row, with_sign}
use Rattle.elim_apply.proofs.FormVariables.{OfForm}
use Rattle.geo_logs.proofs.TermVariables.{OfLeaves, sorted_ratio}

-- the row of P_AYB
abbrev pub quadratic_row : Store → Step → PointId → PointId → Option TableRow
quadratic_row nodes step a b = option_map (step_row nodes step (quadratic_power step)) (quadratic_numerator nodes step a b)

-- a property of variables that follows from one of their points: for areas and differences of such points, and for the numbers of steps
pub record Follows (c : Construction) (Good : PointId → Type 0) (Holds : Var → Type 0) : Type 0 where
  pub areas : (a b d : PointId) → Good a → Good b → Good d → Holds (sorted_area a b d)
  pub differences : (a b d : PointId) → Good a → Good b → Good d → Holds (sorted_difference a b d)
  pub numbers : (y : PointId) (e : Tree) → Good y → IsStepNumber y.0 c.params e → OfLeaves Holds e
  pub earlier : (y a : PointId) → Good y → a.0 < y.0 → Good a

-- and for the coordinates of free points
pub record FollowsFree (c : Construction) (Good : PointId → Type 0) (Holds : Var → Type 0) : Type 0 where
  pub abscissas : (a : PointId) → Good a → IsFree c a → Holds (X a)
  pub ordinates : (a : PointId) → Good a → IsFree c a → Holds (Y a)

module _ (c : Construction) (Good : PointId → Type 0) (Holds : Var → Type 0) (follows : Follows c Good Holds) where
  abbrev Fits : Form → Type 0
  Fits f = OfForm Holds f

  -- both sides of a row
  pub record FitsRow (r : TableRow) : Type 0 where
    pub num : OfForm Holds r.num
    pub den : OfForm Holds r.den

  -- POINT STEPS
  module _ (y : PointId) (good : Good y) where
    E : (a : PointId) → a.0 < y.0 → Good a
    E a lt = follows.earlier y a good lt

    N : (r : TermId) → IsStepNumber y.0 c.params (tree_of c.nodes r) → OfLeaves Holds (tree_of c.nodes r)
    N r h = follows.numbers y (tree_of c.nodes r) good h

    A : (a b d : PointId) → Good a → Good b → Good d → Holds (sorted_area a b d)
    A a b d = follows.areas a b d

    D : (a b d : PointId) → Good a → Good b → Good d → Holds (sorted_difference a b d)
    D a b d = follows.differences a b d

    den_fits : (step : Step) → IsStep c.nodes y.0 c.params step → Fits (step_denominator c.nodes step)
    den_fits Point h = tt
    den_fits (Inter u v p q) h = let U = E u h.0 in let V = E v h.1 in let P' = E p h.2 in let Q = E q h.3 in (A u p q U P' Q, A v p q V P' Q)
    den_fits (Foot p u v) h = let U = E u h.1 in let V = E v h.2 in D u v u U V U
    den_fits (Pratio w u v r) h = N r h.3.number
    den_fits (Tratio u v r) h = (tt, N r h.2.number)
    den_fits (Weights o u v r s) h = (N r h.3.number, N s h.4.number)

    crossing_fits : (u v p q : PointId) (G : PointId → Form) → Good u → Good v → Good p → Good q → ((x : PointId) → Good x → Fits (G x)) → Fits (crossing_numerator u v p q G)
    crossing_fits u v p q G U V P' Q g = ((A u p q U P' Q, g v V), (A v p q V P' Q, g u U))

    foot_fits : (p u v : PointId) (G : PointId → Form) → Good p → Good u → Good v → ((x : PointId) → Good x → Fits (G x)) → Fits (foot_numerator p u v G)
    foot_fits p u v G P' U V g = ((D p u v P' U V, g v V), (D p v u P' V U, g u U))

    along_fits : (w u v : PointId) (r : TermId) (G : PointId → Form) → OfLeaves Holds (tree_of c.nodes r) → Good w → Good u → Good v → ((x : PointId) → Good x → Fits (G x))
        → Fits (along_numerator w u v (numerator_at c.nodes r) (denominator_at c.nodes r) G)
    along_fits w u v r G n W U V g = (((n, g w W), (n, g v V)), (n, g u U))

    weights_fits : (o u v : PointId) (r s : TermId) (G : PointId → Form) → OfLeaves Holds (tree_of c.nodes r) → OfLeaves Holds (tree_of c.nodes s)
        → Good o → Good u → Good v → ((x : PointId) → Good x → Fits (G x))
        → Fits (weights_numerator o u v (numerator_at c.nodes r) (denominator_at c.nodes r) (numerator_at c.nodes s) (denominator_at c.nodes s) G)
    weights_fits o u v r s G n m O U V g = ((((((n, m), (n, m)), (m, n)), g o O), ((n, m), g u U)), ((m, n), g v V))

    area_fits : (step : Step) (a b : PointId) → IsStep c.nodes y.0 c.params step → Good a → Good b → IfSome (area_numerator c.nodes step a b) Fits
    area_fits Point a b h A' B = tt
    area_fits (Inter u v p q) a b h A' B = crossing_fits u v p q (area a b) (E u h.0) (E v h.1) (E p h.2) (E q h.3) (λ x X'. A a b x A' B X')
    area_fits (Foot p u v) a b h A' B = foot_fits p u v (area a b) (E p h.0) (E u h.1) (E v h.2) (λ x X'. A a b x A' B X')
    area_fits (Pratio w u v r) a b h A' B = along_fits w u v r (area a b) (N r h.3.number) (E w h.0) (E u h.1) (E v h.2) (λ x X'. A a b x A' B X')
    area_fits (Tratio u v r) a b h A' B =
        let U = E u h.0 in let V = E v h.1 in let n = N r h.2.number in
        (((tt, n), A a b u A' B U), (n, (D u a b U A' B, D v a b V A' B)))
    area_fits (Weights o u v r s) a b h A' B =
        weights_fits o u v r s (area a b) (N r h.3.number) (N s h.4.number) (E o h.0) (E u h.1) (E v h.2) (λ x X'. A a b x A' B X')

    linear_fits : (step : Step) (a b : PointId) → IsStep c.nodes y.0 c.params step → Good a → Good b → IfSome (linear_numerator c.nodes step a b) Fits
    linear_fits Point a b h A' B = tt
    linear_fits (Inter u v p q) a b h A' B = crossing_fits u v p q (pythagoras a b) (E u h.0) (E v h.1) (E p h.2) (E q h.3) (λ x X'. D a b x A' B X')
    linear_fits (Foot p u v) a b h A' B = foot_fits p u v (pythagoras a b) (E p h.0) (E u h.1) (E v h.2) (λ x X'. D a b x A' B X')
    linear_fits (Pratio w u v r) a b h A' B = along_fits w u v r (pythagoras a b) (N r h.3.number) (E w h.0) (E u h.1) (E v h.2) (λ x X'. D a b x A' B X')
    linear_fits (Tratio u v r) a b h A' B =
        let U = E u h.0 in let V = E v h.1 in let n = N r h.2.number in
        (((tt, n), D a b u A' B U), ((tt, n), (A u a b U A' B, A v a b V A' B)))
    linear_fits (Weights o u v r s) a b h A' B =
        weights_fits o u v r s (pythagoras a b) (N r h.3.number) (N s h.4.number) (E o h.0) (E u h.1) (E v h.2) (λ x X'. D a b x A' B X')

    -- a row of a step
    step_fits : (step : Step) (power : ℕ) (num : Form) → IsStep c.nodes y.0 c.params step → Fits num → FitsRow (step_row c.nodes step power num)
    step_fits step power num h f = record { num = f; den = den_fits step h }

    quadratic_fits : (step : Step) (a b : PointId) → IsStep c.nodes y.0 c.params step → Good a → Good b → IfSome (quadratic_row c.nodes step a b) FitsRow
    quadratic_fits Point a b h A' B = tt
    quadratic_fits (Inter u v p q) a b h A' B =
        let U = E u h.0 in let V = E v h.1 in let P' = E p h.2 in let Q = E q h.3 in
        step_fits (Inter u v p q) 2 (crossing_square u v p q a b) h
        ((((A u p q U P' Q, D a v b A' V B), (A v p q V P' Q, D a u b A' U B)), (A u p q U P' Q, A v p q V P' Q)), ((A u p q U P' Q, A v p q V P' Q), D u v u U V U))
    quadratic_fits (Foot p u v) a b h A' B =
        let P' = E p h.0 in let U = E u h.1 in let V = E v h.2 in
        step_fits (Foot p u v) 1 (foot_square p u v a b) h
        (((D p u v P' U V, D a v b A' V B), (D p v u P' V U, D a u b A' U B)), (D p u v P' U V, D p v u P' V U))
    quadratic_fits (Pratio w u v r) a b h A' B =
        let W = E w h.0 in let U = E u h.1 in let V = E v h.2 in let n = N r h.3.number in
        step_fits (Pratio w u v r) 2 (along_square w u v (numerator_at c.nodes r) (denominator_at c.nodes r) a b) h
        ((((n, n), D a w b A' W B), ((n, n), ((D a v b A' V B, D a u b A' U B), (tt, D w u v W U V)))), ((n, (n, n)), D u v u U V U))
    quadratic_fits (Tratio u v r) a b h A' B =
        let U = E u h.0 in let V = E v h.1 in let n = N r h.2.number in
        step_fits (Tratio u v r) 2 (turned_square u v (numerator_at c.nodes r) (denominator_at c.nodes r) a b) h
        (((((tt, n), n), D a u b A' U B), (((tt, n), n), D u v u U V U)), (((tt, n), n), (A a u v A' U V, A b u v B U V)))
    quadratic_fits (Weights o u v r s) a b h A' B =
        let O = E o h.0 in let U = E u h.1 in let V = E v h.2 in let n = N r h.3.number in let m = N s h.4.number in
        let first : Fits (origin_weight (numerator_at c.nodes r) (denominator_at c.nodes r) (numerator_at c.nodes s)
        (denominator_at c.nodes s)) = (((n, m), (n, m)), (m, n)) in
        step_fits (Weights o u v r s) 2 (weights_square o u v (numerator_at c.nodes r) (denominator_at c.nodes r) (numerator_at c.nodes s) (denominator_at c.nodes s) a b) h
        ((
          (
            (
              ((n, m), (((first, D a o b A' O B), ((n, m), D a u b A' U B)), ((m, n), D a v b A' V B))),
              ((first, (n, m)), D o u o O U O),
            ),
            ((first, (m, n)), D o v o O V O),
          ),
          (((n, m), (m, n)), D u v u U V U),
        ))

    mapped_fits : (step : Step) (o : Option Form) → IsStep c.nodes y.0 c.params step → IfSome o Fits → IfSome (option_map (step_row c.nodes step 1) o) FitsRow
    mapped_fits step None h f = tt
    mapped_fits step (Some num) h f = step_fits step 1 num h f

    area_step_fits : (step : Step) (i j k : PointId) → IsStep c.nodes y.0 c.params step → Good i → Good j → Good k
        → IfSome (option_and_then (λ ab. option_map (step_row c.nodes step 1) (area_numerator c.nodes step ab.0 ab.1)) (points_after y i j k)) FitsRow
    area_step_fits step i j k h I J K = go (eqb i.0 y.0) (eqb j.0 y.0) (eqb k.0 y.0)
      where
        pair : (a b : PointId) → Good a → Good b → IfSome (option_map (step_row c.nodes step 1) (area_numerator c.nodes step a b)) FitsRow
        pair a b A' B = mapped_fits step (area_numerator c.nodes step a b) h (area_fits step a b h A' B)

        go : (p q r : Bool)
            → IfSome (option_and_then (λ (ab : PointId × PointId). option_map (step_row c.nodes step 1)
            (area_numerator c.nodes step ab.0 ab.1))
            (cond {A = Option (PointId × PointId)} p (Some (j, k)) (cond q (Some (k, i)) (cond r (Some (i, j)) None)))) FitsRow
        go true q r = pair j k J K
        go false true r = pair k i K I
        go false false true = pair i j I J
        go false false false = tt

    -- the points of a reading
    abbrev AreGood : Reading → Type 0
    AreGood (Linear a b) = Good a × Good b
    AreGood (Quadratic a b) = Good a × Good b

    read_fits : (step : Step) (read : Reading) → IsStep c.nodes y.0 c.params step → AreGood read
        → IfSome (difference_row c.nodes step read) FitsRow
    read_fits step (Linear a b) h g = mapped_fits step (linear_numerator c.nodes step a b) h (linear_fits step a b h g.0 g.1)
    read_fits step (Quadratic a b) h g = quadratic_fits step a b h g.0 g.1

    difference_step_fits : (step : Step) (i j k : PointId) → IsStep c.nodes y.0 c.params step → Good i → Good j → Good k
        → IfSome (option_and_then (difference_row c.nodes step) (reading y i j k)) FitsRow
    difference_step_fits step i j k h I J K = go (eqb j.0 y.0) (eqb i.0 y.0) (eqb k.0 y.0)
      where
        one : (read : Reading) → AreGood read → IfSome (difference_row c.nodes step read) FitsRow
        one read g = read_fits step read h g

        go : (q p r : Bool)
            → IfSome (option_and_then (difference_row c.nodes step)
            (cond {A = Option Reading} q (Some (Quadratic i k))
            (cond p (Some (cond r (Quadratic j j) (Linear k j))) (cond r (Some (Linear i j)) None)))) FitsRow
        go true p r = one (Quadratic i k) (I, K)
        go false true true = one (Quadratic j j) (J, J)
        go false true false = one (Linear k j) (K, J)
        go false false true = one (Linear i j) (I, J)
        go false false false = tt

  -- the step at a place is one of the construction
  abbrev pub AreSteps : Type 0
  AreSteps = (k : ℕ) (step : Step) → slice_get c.steps k ≡ Some step → IsStep c.nodes k c.params step

  pub area_table_fits : AreSteps → (y i j k : PointId) → Good y → Good i → Good j → Good k → IfSome (area_table c y (S i j k)) FitsRow
  area_table_fits steps y i j k good I J K = go (slice_get c.steps y.0) (steps y.0)
    where
      go : (o : Option Step) → ((step : Step) → o ≡ Some step → IsStep c.nodes y.0 c.params step)
          → IfSome (option_and_then (λ step. option_and_then (λ ab. option_map (step_row c.nodes step 1) (area_numerator c.nodes step ab.0 ab.1)) (points_after y i j k)) o) FitsRow
      go None at = tt
      go (Some step) at = area_step_fits y good step i j k (at step refl) I J K

  pub difference_table_fits : AreSteps → (y i j k : PointId) → Good y → Good i → Good j → Good k → IfSome (difference_table c y (P i j k)) FitsRow
  difference_table_fits steps y i j k good I J K = go (slice_get c.steps y.0) (steps y.0)
    where
      go : (o : Option Step) → ((step : Step) → o ≡ Some step → IsStep c.nodes y.0 c.params step)
          → IfSome (option_and_then (λ step. option_and_then (difference_row c.nodes step) (reading y i j k)) o) FitsRow
      go None at = tt
      go (Some step) at = difference_step_fits y good step i j k (at step refl) I J K

  -- FREE POINTS
  free_point : (a : PointId) → is_free c a ≡ true → IsFree c a
  free_point a e = go (slice_get c.steps a.0) e
    where
      go : (o : Option Step) → is_free_step o ≡ true → o ≡ Some Point
      go None e = absurd (let q : ◌≡◌ {A = Bool} false true = e in cc)
      go (Some Point) e = refl
      go (Some (Inter u v p q)) e = absurd (let q : ◌≡◌ {A = Bool} false true = e in cc)
      go (Some (Foot p u v)) e = absurd (let q : ◌≡◌ {A = Bool} false true = e in cc)
      go (Some (Pratio w u v r)) e = absurd (let q : ◌≡◌ {A = Bool} false true = e in cc)
      go (Some (Tratio u v r)) e = absurd (let q : ◌≡◌ {A = Bool} false true = e in cc)
      go (Some (Weights o u v r s)) e = absurd (let q : ◌≡◌ {A = Bool} false true = e in cc)

  module _ (free : FollowsFree c Good Holds) (i j k : PointId) (I : Good i) (J : Good j) (K : Good k) where
    three_fit : (row : TableRow) → (IsFree c i → IsFree c j → IsFree c k → FitsRow row) → IfSome (if is_free c i && is_free c j && is_free c k then Some row else None) FitsRow
    three_fit row fit = go (is_free c i) (is_free c j) (is_free c k) refl refl refl
      where
        go : (p q r : Bool) → is_free c i ≡ p → is_free c j ≡ q → is_free c k ≡ r → IfSome (cond {A = Option TableRow} (p && q && r) (Some row) None) FitsRow
        go true true true e f g = fit (free_point i e) (free_point j f) (free_point k g)
        go true true false e f g = tt
        go true false r e f g = tt
        go false q r e f g = tt

    pub free_area_fits : (y : PointId) → IfSome (free_table c y (S i j k)) FitsRow
    free_area_fits y =
        three_fit (record { power = 1; num = area_in_coordinates i j k; den = integer 2; charge = 0 })
        (λ fi fj fk.
        let xi = free.abscissas i I fi in let yi = free.ordinates i I fi in
        let xj = free.abscissas j J fj in let yj = free.ordinates j J fj in
        let xk = free.abscissas k K fk in let yk = free.ordinates k K fk in
        record { num = ((((((xi, yj), (xi, yk)), (yi, xj)), (yi, xk)), (xj, yk)), (yj, xk)); den = tt })

    pub free_difference_fits : (y : PointId) → IfSome (free_table c y (P i j k)) FitsRow
    free_difference_fits y =
        three_fit (record { power = 0; num = difference_in_coordinates i j k; den = integer 2; charge = 0 })
        (λ fi fj fk.
        let xi = free.abscissas i I fi in let yi = free.ordinates i I fi in
        let xj = free.abscissas j J fj in let yj = free.ordinates j J fj in
        let xk = free.abscissas k K fk in let yk = free.ordinates k K fk in
        record { num = (tt, ((((((((xi, xk), (xi, xj)), (xj, xk)), (xj, xj)), (yi, yk)), (yi, yj)), (yj, yk)), (yj, yj))); den = tt })

  -- RATIOS
  sign_fits : (p q : Bool) (f : Form) → Fits f → Fits (with_sign p q f)
  sign_fits true true f h = h
  sign_fits true false f h = h
  sign_fits false true f h = h
  sign_fits false false f h = h

  pub pythagoras_row_fits : (a b d e : PointId) → Good a → Good b → Good d → Good e → FitsRow (pythagoras_row a b d e)
  pythagoras_row_fits a b d e A' B D' E' = record { num = (follows.differences b d e B D' E', follows.differences a d e A' D' E'); den = follows.differences d e d D' E' D' }

  plain_fits : (num den : Form) → Fits num → Fits den → FitsRow (plain_row num den)
  plain_fits num den h g = record { num = h; den = g }

  crossing_row_fits : (u v p q a : PointId) (turned : Bool) (d e : PointId) → Good u → Good v → Good p → Good q → Good a → IfSome (crossing_row u v p q a turned d e) FitsRow
  crossing_row_fits u v p q a turned d e U V P' Q A' = go (same_line u v d e)
    where
      go : (o : Option Bool) → IfSome (option_map (λ other. plain_row (with_sign turned other (area a p q)) (area u p q ⊟ area v p q)) o) FitsRow
      go None = tt
      go (Some other) =
          plain_fits (with_sign turned other (area a p q)) (area u p q ⊟ area v p q)
          (sign_fits turned other (area a p q) (follows.areas a p q A' P' Q)) (follows.areas u p q U P' Q, follows.areas v p q V P' Q)

  shared_row_fits : (y u v p q a : PointId) (turned : Bool) (d e : PointId) → Good p → Good q → Good a → Good d → Good e → IfSome (shared_row y u v p q a turned d e) FitsRow
  shared_row_fits y u v p q a turned d e P' Q A' D' E' = go (eqb e.0 y.0) (eqb d.0 y.0)
    where
      one : (b : PointId) (other t : Bool) → Good b → IfSome (cond {A = Option TableRow} t (Some (plain_row (with_sign turned other (area a p q)) (area b p q))) None) FitsRow
      one b other true B = plain_fits (with_sign turned other (area a p q)) (area b p q) (sign_fits turned other (area a p q) (follows.areas a p q A' P' Q)) (follows.areas b p q B P' Q)
      one b other false B = tt

      go : (r s : Bool)
          → IfSome (option_and_then (λ (end : PointId × Bool). if is_point end.0 u || is_point end.0 v then Some
          (plain_row (with_sign turned end.1 (area a p q)) (area end.0 p q)) else None)
          (cond {A = Option (PointId × Bool)} r (Some (d, false)) (cond s (Some (e, true)) None))) FitsRow
      go true s = one d false (is_point d u || is_point d v) D'
      go false true = one e true (is_point e u || is_point e v) E'
      go false false = tt

  foot_row_fits : (step : Step) (a : PointId) (turned : Bool) (d e y : PointId) → Good y → IsStep c.nodes y.0 c.params step → Good a → IfSome (foot_row step a turned d e) FitsRow
  foot_row_fits Point a turned d e y good h A' = tt
  foot_row_fits (Inter u v p q) a turned d e y good h A' = tt
  foot_row_fits (Pratio w u v r) a turned d e y good h A' = tt
  foot_row_fits (Tratio u v r) a turned d e y good h A' = tt
  foot_row_fits (Weights o u v r s) a turned d e y good h A' = tt
  foot_row_fits (Foot p u v) a turned d e y good h A' =
      let P' = follows.earlier y p good h.0 in let U = follows.earlier y u good h.1 in let V = follows.earlier y v good h.2 in
      go (same_line u v d e) (follows.differences p u v P' U V, follows.differences a u v A' U V) (follows.differences u v u U V U)
    where
      go : (o : Option Bool) → Fits (pythagoras p u v ⊟ pythagoras a u v) → Fits (pythagoras u v u)
          → IfSome (option_map (λ other. plain_row (with_sign turned other (pythagoras p u v ⊟ pythagoras a u v)) (pythagoras u v u)) o) FitsRow
      go None n g = tt
      go (Some other) n g = plain_fits (with_sign turned other (pythagoras p u v ⊟ pythagoras a u v)) (pythagoras u v u) (sign_fits turned other (pythagoras p u v ⊟ pythagoras a u v) n) g

  along_row_fits : (step : Step) (a : PointId) (turned : Bool) (d e y : PointId) → Good y → IsStep c.nodes y.0 c.params step
      → ((w u v : PointId) (r : TermId) → step ≡ Pratio w u v r → IfSome (same_line u v d e) (λ other. Holds (sorted_ratio Holds a w u v)))
      → IfSome (along_row c.nodes step a turned d e) FitsRow
  along_row_fits Point a turned d e y good h chained = tt
  along_row_fits (Inter u v p q) a turned d e y good h chained = tt
  along_row_fits (Foot p u v) a turned d e y good h chained = tt
  along_row_fits (Tratio u v r) a turned d e y good h chained = tt
  along_row_fits (Weights o u v r s) a turned d e y good h chained = tt
  along_row_fits (Pratio w u v r) a turned d e y good h chained = go (same_line u v d e) (chained w u v r refl) (follows.numbers y (tree_of c.nodes r) good h.3.number)
    where
      go : (o : Option Bool) → IfSome o (λ other. Holds (sorted_ratio Holds a w u v)) → OfLeaves Holds (tree_of c.nodes r)
          → IfSome (option_map (λ other. record {
            power = 1;
            num = with_sign turned other (denominator_at c.nodes r ⊠ ratio a w u v ⊞ numerator_at c.nodes r);
            den = denominator_at c.nodes r;
            charge = (numbers_of (tree_of c.nodes r)).charge;
          }) o) FitsRow
      go None k n = tt
      go (Some other) k n = record { num = sign_fits turned other (denominator_at c.nodes r ⊠ ratio a w u v ⊞ numerator_at c.nodes r) ((n, k), n); den = n }

  -- the row of AY / de by a lemma that looks at the step of Y
  module _ (y : PointId) (step : Step) (a : PointId) (turned : Bool) (d e : PointId) (good : Good y) (h : IsStep c.nodes y.0 c.params step) (A' : Good a) (D' : Good d) (E' : Good e)
      (chained : (w u v : PointId) (r : TermId) → step ≡ Pratio w u v r → IfSome (same_line u v d e) (λ other. Holds (sorted_ratio Holds a w u v))) where
    first_crossing : (s : Step) → IsStep c.nodes y.0 c.params s → IfSome (first_line s (λ u v p q. crossing_row u v p q a turned d e)) FitsRow
    first_crossing Point k = tt
    first_crossing (Foot p u v) k = tt
    first_crossing (Pratio w u v r) k = tt
    first_crossing (Tratio u v r) k = tt
    first_crossing (Weights o u v r s) k = tt
    first_crossing (Inter u v p q) k =
        crossing_row_fits u v p q a turned d e (follows.earlier y u good k.0) (follows.earlier y v good k.1) (follows.earlier y p good k.2) (follows.earlier y q good k.3) A'

    second_crossing : (s : Step) → IsStep c.nodes y.0 c.params s → IfSome (second_line s (λ u v p q. crossing_row u v p q a turned d e)) FitsRow
    second_crossing Point k = tt
    second_crossing (Foot p u v) k = tt
    second_crossing (Pratio w u v r) k = tt
    second_crossing (Tratio u v r) k = tt
    second_crossing (Weights o u v r s) k = tt
    second_crossing (Inter u v p q) k =
        crossing_row_fits p q u v a turned d e (follows.earlier y p good k.2) (follows.earlier y q good k.3) (follows.earlier y u good k.0) (follows.earlier y v good k.1) A'

    first_shared : (s : Step) → IsStep c.nodes y.0 c.params s → IfSome (first_line s (λ u v p q. shared_row y u v p q a turned d e)) FitsRow
    first_shared Point k = tt
    first_shared (Foot p u v) k = tt
    first_shared (Pratio w u v r) k = tt
    first_shared (Tratio u v r) k = tt
    first_shared (Weights o u v r s) k = tt
    first_shared (Inter u v p q) k = shared_row_fits y u v p q a turned d e (follows.earlier y p good k.2) (follows.earlier y q good k.3) A' D' E'

    second_shared : (s : Step) → IsStep c.nodes y.0 c.params s → IfSome (second_line s (λ u v p q. shared_row y u v p q a turned d e)) FitsRow
    second_shared Point k = tt
    second_shared (Foot p u v) k = tt
    second_shared (Pratio w u v r) k = tt
    second_shared (Tratio u v r) k = tt
    second_shared (Weights o u v r s) k = tt
    second_shared (Inter u v p q) k = shared_row_fits y p q u v a turned d e (follows.earlier y u good k.0) (follows.earlier y v good k.1) A' D' E'

    lemma_row_fits : (lemma : ℕ) → IfSome (lemma_row lemma c.nodes y step a turned d e) FitsRow
    lemma_row_fits lemma = go (eqb lemma 11) (eqb lemma 12) (eqb lemma 21) (eqb lemma 22) (eqb lemma 3) (eqb lemma 4)
      where
        go : (i j k l m n : Bool)
            → IfSome (cond {A = Option TableRow} i (first_line step (λ u v p q. crossing_row u v p q a turned d e)) (cond j (second_line step (λ u v p q. crossing_row u v p q a turned d e))
            (cond k (first_line step (λ u v p q. shared_row y u v p q a turned d e)) (cond l (second_line step (λ u v p q. shared_row y u v p q a turned d e))
            (cond m (along_row c.nodes step a turned d e) (cond n (foot_row step a turned d e) None)))))) FitsRow
        go true j k l m n = first_crossing step h
        go false true k l m n = second_crossing step h
        go false false true l m n = first_shared step h
        go false false false true m n = second_shared step h
        go false false false false true n = along_row_fits step a turned d e y good h chained
        go false false false false false true = foot_row_fits step a turned d e y good h A'
        go false false false false false false = tt

  pub same_point : (y a : PointId) → eqb a.0 y.0 ≡ true → Good a → Good y
  same_point y a e g = let point : ℕ → PointId = λ k. record { 0 = k } in subst (λ n. Good (point n)) (eqb-true a.0 y.0 e) g

  -- the row of a ratio, where the ratio that lemma 3 brings in has the property
  pub ratio_table_fits : AreSteps → (lemma : ℕ) (y i j d e : PointId) → Good i → Good j → Good d → Good e
      → ((a : PointId) (turned : Bool) → end_at y i j ≡ Some (a, turned) → (w u v : PointId) (r : TermId) → slice_get c.steps y.0 ≡ Some (Pratio w u v r)
      → IfSome (same_line u v d e) (λ other. Holds (sorted_ratio Holds a w u v)))
      → IfSome (ratio_table lemma c y (R i j d e)) FitsRow
  ratio_table_fits steps lemma y i j d e I J D' E' chained = go (eqb lemma 0)
    where
      ended : (a : PointId) (turned : Bool) → Good y → Good a → end_at y i j ≡ Some (a, turned) → (o : Option Step) → slice_get c.steps y.0 ≡ o
          → IfSome (option_and_then (λ step. lemma_row lemma c.nodes y step a turned d e) o) FitsRow
      ended a turned good A' at None s = tt
      ended a turned good A' at (Some step) s =
          lemma_row_fits y step a turned d e good (steps y.0 step s) A' D' E'
          (λ w u v r is. chained a turned at w u v r (s ∙ ap (λ (x : Step). Some x) is)) lemma

      by_end : (o : Option (PointId × Bool)) → end_at y i j ≡ o → Good y × (elim o as (λ x. Type 0) [ None ↦ Unit {0} | Some f ↦ Good f.0 ]) → (s : Option Step) → slice_get c.steps y.0 ≡ s
          → IfSome (option_and_then (λ step. option_and_then (λ (end : PointId × Bool). lemma_row lemma c.nodes y step end.0 end.1 d e) o) s) FitsRow
      by_end None at g None s = tt
      by_end None at g (Some step) s = tt
      by_end (Some f) at g None s = tt
      by_end (Some f) at g (Some step) s = ended f.0 f.1 g.0 g.1 at (Some step) s

      no_end : (s : Option Step) → IfSome (option_and_then (λ step. option_and_then (λ (end : PointId × Bool). lemma_row lemma c.nodes y step end.0 end.1 d e) None) s) FitsRow
      no_end None = tt
      no_end (Some step) = tt

      looked : (p q : Bool) → eqb j.0 y.0 ≡ p → eqb i.0 y.0 ≡ q
          → IfSome (option_and_then (λ step. option_and_then (λ (end : PointId × Bool). lemma_row lemma c.nodes y step end.0 end.1 d e) (end_at y i j)) (slice_get c.steps y.0)) FitsRow
      looked true q mj mi =
          let at : end_at y i j ≡ Some (i, false) = ap (λ (b : Bool). cond {A = Option (PointId × Bool)} b (Some (i, false)) (cond (eqb i.0 y.0) (Some (j, true)) None)) mj in
          subst (λ (o : Option (PointId × Bool)). IfSome
          (option_and_then (λ step. option_and_then (λ (end : PointId × Bool). lemma_row lemma c.nodes y step end.0 end.1 d e) o)
          (slice_get c.steps y.0)) FitsRow)
          (sym at) (by_end (Some (i, false)) at (same_point y j mj J, I) (slice_get c.steps y.0) refl)
      looked false true mj mi =
          let at : end_at y i j ≡ Some (j, true) =
          ap (λ (b : Bool). cond {A = Option (PointId × Bool)} b (Some (i, false)) (cond (eqb i.0 y.0) (Some (j, true)) None)) mj
          ∙ ap (λ (b : Bool). cond {A = Option (PointId × Bool)} b (Some (j, true)) None) mi in
          subst (λ (o : Option (PointId × Bool)). IfSome
          (option_and_then (λ step. option_and_then (λ (end : PointId × Bool). lemma_row lemma c.nodes y step end.0 end.1 d e) o)
          (slice_get c.steps y.0)) FitsRow)
          (sym at) (by_end (Some (j, true)) at (same_point y i mi I, J) (slice_get c.steps y.0) refl)
      looked false false mj mi =
          let at : end_at y i j ≡ None =
          ap (λ (b : Bool). cond {A = Option (PointId × Bool)} b (Some (i, false)) (cond (eqb i.0 y.0) (Some (j, true)) None)) mj
          ∙ ap (λ (b : Bool). cond {A = Option (PointId × Bool)} b (Some (j, true)) None) mi in
          subst (λ (o : Option (PointId × Bool)). IfSome
          (option_and_then (λ step. option_and_then (λ (end : PointId × Bool). lemma_row lemma c.nodes y step end.0 end.1 d e) o)
          (slice_get c.steps y.0)) FitsRow)
          (sym at) (no_end (slice_get c.steps y.0))

      go : (z : Bool)
          → IfSome (cond {A = Option TableRow} z (Some (pythagoras_row i j d e))
          (option_and_then (λ step. option_and_then (λ (end : PointId × Bool). lemma_row lemma c.nodes y step end.0 end.1 d e)
          (end_at y i j)) (slice_get c.steps y.0))) FitsRow
      go true = pythagoras_row_fits i j d e I J D' E'
      go false = looked (eqb j.0 y.0) (eqb i.0 y.0) refl refl
