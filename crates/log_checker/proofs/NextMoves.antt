-- A polynomial with a quantity of points has a next move, which replaces something.
use Rattle.std.proofs.Common.{◌≡◌, ◌≢◌, ℕ, zero, suc, ◌<◌, ◌≤◌, ◌||◌, ◌&&◌, ◌⊎◌, inl, inr, ⊎_elim, IsTrue, Bool, true, false, cond}
use Rattle.std.proofs.Common.{Contains, Option, Some, None, List, [], ◌∷◌, length, refl, sym, ◌∙◌, subst, arith, eq-eqb}
use Rattle.std.specs.Prelude.{slice_get, find, if◌then◌else◌, Any}
use Rattle.std.specs.List.{cons_option, filter_map}
use Rattle.std.specs.Option.{is_some, option_and_then, option_map}
use Rattle.std.specs.Ordering.{is_eq}
use Rattle.std.specs.declared.cmp.Ordering.{Ordering}
use Rattle.std.specs.declared.cmp.Ordering.TheVariants.{Less, Equal, Greater}
use Rattle.std.proofs.Math.Nat.{eq-or-lt_of_le}
use Rattle.geo_points.specs.declared.ids.PointId.{PointId}
use Rattle.geo_poly.specs.declared.rows.Row.{Row}
use Rattle.geo_poly.specs.declared.variables.Var.{Var}
use Rattle.geo_poly.specs.declared.variables.Var.TheVariants.{R, S, P, X as Abscissa, Y as Ordinate, T as Number}
use Rattle.geo_poly.specs.Polynomials.{Summands}
use Rattle.geo_poly.specs.Variables.{var_cmp}
use Rattle.geo_poly.proofs.Orders.{var_order}
use Rattle.geo_terms.specs.declared.steps.Step.{Step}
use Rattle.geo_terms.specs.declared.steps.Step.TheVariants.{Point as FreeStep, Inter, Foot, Pratio, Tratio, Weights}
use Rattle.geo_terms.specs.Constructions.{Construction}
use Rattle.geo_logs.specs.declared.moves.Move.{Move}
use Rattle.geo_logs.specs.declared.moves.Move.TheVariants.{Ratio, Point, Coords}
use Rattle.geo_logs.specs.Chains.{IsEnd}
use Rattle.geo_logs.specs.Defined.{HasFreePointsAlone, IsConstructed, IsHighest, IsNextMove, Occurs, has_point, is_point, named_point}
use Rattle.area_coords.specs.FreeTable.{area_in_coordinates, difference_in_coordinates, free_table, is_free, is_free_step}
use Rattle.fraction_poly.specs.Forms.{integer}
use Rattle.elim_area.specs.AreaTable.{area_numerator, area_table, points_after}
use Rattle.elim_pyth.specs.DifferenceTable.{difference_row, difference_table, reading}
use Rattle.elim_pyth.specs.declared.pyth_rows.Reading.{Reading}
use Rattle.elim_pyth.specs.declared.pyth_rows.Reading.TheVariants.{Linear, Quadratic}
use Rattle.elim_ratio.specs.RatioTable.{first_lemma, ratio_table}
use Rattle.elim_apply.specs.FirstLemmas.{lemmas}
use Rattle.elim_apply.proofs.FirstRows.{first_lemma_has_row}
use Rattle.fraction_poly.specs.StepForms.{step_row}
use Rattle.elim_apply.specs.LemmaTable.{lemma_table}
use Rattle.elim_apply.proofs.FoundRows.{Row_of, coords_row, first_row, named_row, point_row, pt, rows_some, zero_row}
use Rattle.geo_logs.proofs.NamedPoints.{occurring_points}
use Rattle.geo_logs.specs.Moves.{replacement}
use Rattle.geo_logs.specs.Naming.{IsNamed}
use Rattle.geo_poly.specs.PolynomialVariables.{AllVariables, IsPlain, IsQuantity, IsRatio, variables_of}
use Rattle.geo_poly.proofs.EachVariable.{all_variables, each-contained, each-variables}
use Rattle.log_checker.proofs.NextStops.{any_or_none}
use Rattle.log_checker.proofs.Places.{below}

-- SEARCHES
-- the first of some variables in their order, or none
module _ (Fits : Var → Type 0) (test : (v : Var) → Fits v ⊎ (Fits v → ⊥)) where
  pub record IsFirst (vs : List Var) (v : Var) : Type 0 where
    pub stands : Contains vs v
    pub fits : Fits v
    pub first : (w : Var) → Contains vs w → Fits w → var_cmp w v ≢ Less

  abbrev FirstOrNone : List Var → Type 0
  FirstOrNone vs = ((v : Var) × IsFirst vs v) ⊎ ((w : Var) → Contains vs w → Fits w → ⊥)

  not_less : (v : Var) → var_cmp v v ≢ Less
  not_less v e = let s = var_order.self v in let q : Less ≡ Equal = sym e ∙ s in cc

  kept : (x : Var) (vs : List Var) (v : Var) → IsFirst vs v → (Fits x → var_cmp x v ≢ Less) → IsFirst (x ∷ vs) v
  kept x vs v h n = record {
    stands = (suc h.stands.0, (let l = h.stands.1 in omega (arith, l)), h.stands.2);
    fits = h.fits;
    first = go;
  }
    where
      go : (w : Var) → Contains (x ∷ vs) w → Fits w → var_cmp w v ≢ Less
      go w (zero, lt, e) f = subst (λ u. var_cmp u v ≢ Less) e (n (subst Fits (sym e) f))
      go w (suc k, lt, e) f = h.first w (k, omega (arith, lt), e) f

  taken : (x : Var) (vs : List Var) → Fits x → ((w : Var) → Contains vs w → Fits w → var_cmp w x ≢ Less) → IsFirst (x ∷ vs) x
  taken x vs f n = record { stands = (0, omega arith, refl); fits = f; first = go }
    where
      go : (w : Var) → Contains (x ∷ vs) w → Fits w → var_cmp w x ≢ Less
      go w (zero, lt, e) g = subst (λ u. var_cmp u x ≢ Less) e (not_less x)
      go w (suc k, lt, e) g = n w (k, omega (arith, lt), e) g

  no_first : (x : Var) (vs : List Var) → (Fits x → ⊥) → ((w : Var) → Contains vs w → Fits w → ⊥) → (w : Var) → Contains (x ∷ vs) w → Fits w → ⊥
  no_first x vs n none w (zero, lt, e) f = n (subst Fits (sym e) f)
  no_first x vs n none w (suc k, lt, e) f = none w (k, omega (arith, lt), e) f

  pub first_or_none : (vs : List Var) → FirstOrNone vs
  first_or_none [] = inr (λ w c f. let l = c.1 in omega (arith, l))
  first_or_none (x ∷ vs) =
      ⊎_elim
      (λ (h : (v : Var) × IsFirst vs v).
      ⊎_elim (λ (f : Fits x). chosen (var_cmp x h.0) h.0 f h.1 refl) (λ (n : Fits x → ⊥). let found : FirstOrNone (x ∷ vs) = inl (h.0, kept x vs h.0 h.1 (λ f. absurd (n f))) in found) (test x))
      (λ (none : (w : Var) → Contains vs w → Fits w → ⊥).
      ⊎_elim (λ (f : Fits x). let found : FirstOrNone (x ∷ vs) = inl (x, taken x vs f (λ w c g. absurd (none w c g))) in found)
      (λ (n : Fits x → ⊥). let found : FirstOrNone (x ∷ vs) = inr (no_first x vs n none) in found) (test x)) (first_or_none vs)
    where
      chosen : (o : Ordering) → (v : Var) → Fits x → IsFirst vs v → var_cmp x v ≡ o → FirstOrNone (x ∷ vs)
      chosen Less v f h e = inl (x, taken x vs f (λ w c g l. h.first w c g (var_order.trans w x v l e)))
      chosen Equal v f h e = inl (v, kept x vs v h (λ g l. let q : Equal ≡ Less = sym e ∙ l in cc))
      chosen Greater v f h e = inl (v, kept x vs v h (λ g l. let q : Greater ≡ Less = sym e ∙ l in cc))

true_or_not : (b : Bool) → IsTrue b ⊎ (IsTrue b → ⊥)
true_or_not true = inl refl
true_or_not false = inr (λ e. let q : false ≡ true = e in cc)

ratio_or_not : (v : Var) → IsRatio v ⊎ (IsRatio v → ⊥)
ratio_or_not (R a b c d) = inl tt
ratio_or_not (S a b c) = inr (λ h. h)
ratio_or_not (P a b c) = inr (λ h. h)
ratio_or_not (Abscissa a) = inr (λ h. h)
ratio_or_not (Ordinate a) = inr (λ h. h)
ratio_or_not (Number t) = inr (λ h. h)

quantity_or_plain : (v : Var) → IsQuantity v ⊎ IsPlain v
quantity_or_plain (R a b c d) = inl tt
quantity_or_plain (S a b c) = inl tt
quantity_or_plain (P a b c) = inl tt
quantity_or_plain (Abscissa a) = inr tt
quantity_or_plain (Ordinate a) = inr tt
quantity_or_plain (Number t) = inr tt

no_plain : (v : Var) → IsPlain v → IsQuantity v → ⊥
no_plain (R a b c d) h g = h
no_plain (S a b c) h g = h
no_plain (P a b c) h g = h
no_plain (Abscissa a) h g = g
no_plain (Ordinate a) h g = g
no_plain (Number t) h g = g

module _ (c : Construction) where
  -- CONSTRUCTED POINTS
  constructed_or_not : (y : PointId) → IsConstructed c y ⊎ (IsConstructed c y → ⊥)
  constructed_or_not y = go (slice_get c.steps y.0) refl
    where
      none : (o : Option Step) → slice_get c.steps y.0 ≡ o → ((s : Step) → o ≡ Some s → s ≢ FreeStep → ⊥) → IsConstructed c y → ⊥
      none o e n h = n h.step (sym e ∙ h.made) h.not_free

      go : (o : Option Step) → slice_get c.steps y.0 ≡ o → IsConstructed c y ⊎ (IsConstructed c y → ⊥)
      go None e = inr (none None e (λ s q d. let r : ◌≡◌ {A = Option Step} None (Some s) = q in cc))
      go (Some FreeStep) e = inr (none (Some FreeStep) e (λ s q d. let r : ◌≡◌ {A = Option Step} (Some FreeStep) (Some s) = q in d (let t : s ≡ FreeStep = cc in t)))
      go (Some (Inter u v p q)) e = inl (record { step = Inter u v p q; made = e; not_free = λ n. cc })
      go (Some (Foot p u v)) e = inl (record { step = Foot p u v; made = e; not_free = λ n. cc })
      go (Some (Pratio w u v r)) e = inl (record { step = Pratio w u v r; made = e; not_free = λ n. cc })
      go (Some (Tratio u v r)) e = inl (record { step = Tratio u v r; made = e; not_free = λ n. cc })
      go (Some (Weights o u v r s)) e = inl (record { step = Weights o u v r s; made = e; not_free = λ n. cc })

  module _ (q : Summands) where
    occurs_or_not : (y : PointId) → Occurs y q ⊎ (Occurs y q → ⊥)
    occurs_or_not y = any_or_none (λ v. IsTrue (has_point y v)) (λ v. true_or_not (has_point y v)) (variables_of q)

    -- the highest constructed point below n in the quantities of q
    pub record IsHighestBelow (n : ℕ) (y : PointId) : Type 0 where
      pub constructed : IsConstructed c y
      pub occurs : Occurs y q
      pub highest : (z : PointId) → IsConstructed c z → Occurs z q → z.0 < n → z.0 ≤ y.0

    abbrev HighestOrNone : ℕ → Type 0
    HighestOrNone n = ((y : PointId) × IsHighestBelow n y) ⊎ ((z : PointId) → IsConstructed c z → Occurs z q → z.0 < n → ⊥)

    highest_below : (n : ℕ) → HighestOrNone n
    highest_below zero = inr (λ z a b lt. omega (arith, lt))
    highest_below (suc n) =
        ⊎_elim
        (λ (a : IsConstructed c (pt n)).
        ⊎_elim (λ (b : Occurs (pt n) q). let here : HighestOrNone (suc n) = inl (pt n, record { constructed = a; occurs = b; highest = λ z d e lt. omega (arith, lt) }) in here)
        (λ (b : Occurs (pt n) q → ⊥). less (λ z d e same. b (subst (λ k. Occurs (pt k) q) same e)) (highest_below n)) (occurs_or_not (pt n)))
        (λ (a : IsConstructed c (pt n) → ⊥). less (λ z d e same. a (subst (λ k. IsConstructed c (pt k)) same d)) (highest_below n)) (constructed_or_not (pt n))
      where
        less : ((z : PointId) → IsConstructed c z → Occurs z q → z.0 ≡ n → ⊥) → HighestOrNone n → HighestOrNone (suc n)
        less no_n (inl (y, h)) =
            inl (
              y,
              record {
                constructed = h.constructed;
                occurs = h.occurs;
                highest = λ z d e lt. ⊎_elim (λ (same : z.0 ≡ n). absurd (no_n z d e same)) (λ (under : z.0 < n). h.highest z d e under) (eq-or-lt_of_le (omega (arith, lt)));
              },
            )
        less no_n (inr none) = inr (λ z d e lt. ⊎_elim (λ (same : z.0 ≡ n). no_n z d e same) (λ (under : z.0 < n). none z d e under) (eq-or-lt_of_le (omega (arith, lt))))

    constructed_below : (z : PointId) → IsConstructed c z → z.0 < length c.steps
    constructed_below z h = below c.steps z.0 h.step h.made

    -- THE NEXT MOVE
    pub record HasMove : Type 0 where
      pub move : Move
      pub next : IsNextMove lemma_table c q move
      pub replaces : (replacement lemma_table c move q).rows ≢ []

    abbrev FitsAt : PointId → Var → Type 0
    FitsAt y v = IsRatio v × IsTrue (has_point y v)

    fits_at : (y : PointId) (v : Var) → FitsAt y v ⊎ (FitsAt y v → ⊥)
    fits_at y v =
        ⊎_elim (λ (r : IsRatio v). ⊎_elim (λ (h : IsTrue (has_point y v)). inl (r, h)) (λ (n : IsTrue (has_point y v) → ⊥). inr (λ f. n f.1)) (true_or_not (has_point y v)))
        (λ (n : IsRatio v → ⊥). inr (λ f. n f.0)) (ratio_or_not v)

    at_point : (y : PointId) → IsHighest c y q → HasMove
    at_point y high = ⊎_elim ratio_move (point_move high.occurs) (first_or_none (FitsAt y) (fits_at y) (variables_of q))
      where
        ratio_move : (v : Var) × IsFirst (FitsAt y) (fits_at y) (variables_of q) v → HasMove
        ratio_move (v, f) =
            let l = first_lemma c y v in
            record {
              move = Ratio v l (named_point l y);
              next = inl (y, high, record { stands = f.stands; ratio = f.fits.0; fits = f.fits.1; first = λ w d r h. f.first w d (r, h) }, refl, refl);
              replaces = rows_some (Row_of c (Ratio v l (named_point l y))) (variables_of q) v f.stands (named_row c v l y f.fits.0 (first_row c y v f.fits.0));
            }

        point_move : Occurs y q → ((w : Var) → Contains (variables_of q) w → FitsAt y w → ⊥) → HasMove
        point_move (k, v, lt, at, h) none =
            record {
              move = Point y;
              next = (high, λ w d r t. none w d (r, t));
              replaces = rows_some (Row_of c (Point y)) (variables_of q) v (k, lt, at) (point_row c y high.constructed v h (λ r. none v (k, lt, at) (r, h)));
            }

    -- WITHOUT CONSTRUCTED POINTS
    module _ (free : HasFreePointsAlone c q) (named : AllVariables (IsNamed c (length c.steps)) q) where
      quantity_test : (v : Var) → IsQuantity v ⊎ (IsQuantity v → ⊥)
      quantity_test v = ⊎_elim (λ (h : IsQuantity v). inl h) (λ (h : IsPlain v). inr (no_plain v h)) (quantity_or_plain v)

      without : IsEnd q ⊎ HasMove
      without = ⊎_elim ratio_move others (first_or_none IsRatio ratio_or_not (variables_of q))
        where
          ratio_move : (v : Var) × IsFirst IsRatio ratio_or_not (variables_of q) v → IsEnd q ⊎ HasMove
          ratio_move (v, f) =
              inr (record {
                move = Ratio v 0 (pt 0);
                next = inr (free, record { stands = f.stands; ratio = f.fits; fits = tt; first = λ w d r h. f.first w d r }, refl, refl);
                replaces = rows_some (Row_of c (Ratio v 0 (pt 0))) (variables_of q) v f.stands (zero_row c v (pt 0) f.fits);
              })

          others : ((w : Var) → Contains (variables_of q) w → IsRatio w → ⊥) → IsEnd q ⊎ HasMove
          others none = ⊎_elim coords over (any_or_none IsQuantity quantity_test (variables_of q))
            where
              coords : Any IsQuantity (variables_of q) → IsEnd q ⊎ HasMove
              coords (k, v, lt, at, h) =
                  inr (record {
                    move = Coords;
                    next = (free, none, (k, v, lt, at, h));
                    replaces = rows_some (Row_of c Coords) (variables_of q) v (k, lt, at) (coords_row c q free (occurring_points c (length c.steps) q named) v (k, lt, at) h (none v (k, lt, at)));
                  })

              over : (Any IsQuantity (variables_of q) → ⊥) → IsEnd q ⊎ HasMove
              over no_any =
                  inl (all_variables IsPlain q (λ v st. ⊎_elim (λ (h : IsQuantity v). absurd (no_any (st.0, v, st.1, st.2, h))) (λ (h : IsPlain v). h) (quantity_or_plain v)))

    pub end_or_move : AllVariables (IsNamed c (length c.steps)) q → IsEnd q ⊎ HasMove
    end_or_move named =
        ⊎_elim
        (λ (h : (y : PointId) × IsHighestBelow (length c.steps) y).
        let high : IsHighest c h.0 q = record { constructed = h.1.constructed; occurs = h.1.occurs; highest = λ z d e. h.1.highest z d e (constructed_below z d) } in
        let result : IsEnd q ⊎ HasMove = inr (at_point h.0 high) in result)
        (λ (none : (z : PointId) → IsConstructed c z → Occurs z q → z.0 < length c.steps → ⊥). without (λ z d e. none z d e (constructed_below z d)) named) (highest_below (length c.steps))
