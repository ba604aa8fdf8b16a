-- What a move finds to replace: a ratio has a row, and so has each quantity with a constructed point, and each of free points.
use Rattle.std.proofs.Common.{◌≡◌, ◌≢◌, ℕ, zero, suc, ◌<◌, ◌||◌, ◌&&◌, inl, inr, IsTrue, Bool, true, false, cond, Contains, Option, Some, None, List, [], ◌∷◌, length, refl, sym, subst, arith, eq-eqb}
use Rattle.std.specs.Prelude.{slice_get, find, if◌then◌else◌}
use Rattle.std.specs.List.{cons_option, filter_map}
use Rattle.std.specs.Option.{is_some, option_and_then, option_map}
use Rattle.std.specs.Ordering.{is_eq}
use Rattle.std.specs.declared.cmp.Ordering.{Ordering}
use Rattle.std.specs.declared.cmp.Ordering.TheVariants.{Less, Equal, Greater}
use Rattle.geo_points.specs.declared.ids.PointId.{PointId}
use Rattle.geo_poly.specs.declared.rows.Row.{Row}
use Rattle.geo_poly.specs.declared.variables.Var.{Var}
use Rattle.geo_poly.specs.declared.variables.Var.TheVariants.{R, S, P, X as Abscissa, Y as Ordinate, T as Number}
use Rattle.geo_poly.specs.Polynomials.{Summands}
use Rattle.geo_poly.specs.Variables.{var_cmp}
use Rattle.geo_poly.proofs.Orders.{var_order}
use Rattle.geo_terms.specs.declared.steps.Step.{Step}
use Rattle.geo_terms.specs.declared.steps.Step.TheVariants.{Point as FreeStep, Inter, Foot, Pratio, Tratio, Weights}
use Rattle.geo_terms.specs.Constructions.{Construction}
use Rattle.geo_logs.specs.declared.moves.Move.{Move}
use Rattle.geo_logs.specs.declared.moves.Move.TheVariants.{Ratio, Point, Coords}
use Rattle.geo_logs.specs.Defined.{HasFreePointsAlone, IsConstructed, IsNextMove, Occurs, has_point, is_point, named_point}
use Rattle.area_coords.specs.FreeTable.{area_in_coordinates, difference_in_coordinates, free_table, is_free, is_free_step}
use Rattle.fraction_poly.specs.Forms.{integer}
use Rattle.elim_area.specs.AreaTable.{area_numerator, area_table, points_after}
use Rattle.elim_pyth.specs.DifferenceTable.{difference_row, difference_table, reading}
use Rattle.elim_pyth.specs.declared.pyth_rows.Reading.{Reading}
use Rattle.elim_pyth.specs.declared.pyth_rows.Reading.TheVariants.{Linear, Quadratic}
use Rattle.elim_ratio.specs.RatioTable.{first_lemma, ratio_table}
use Rattle.elim_apply.specs.FirstLemmas.{lemmas}
use Rattle.elim_apply.proofs.FirstRows.{first_lemma_has_row}
use Rattle.fraction_poly.specs.StepForms.{step_row}
use Rattle.fraction_poly.specs.TableRows.{HasPointsBelow, TableRow, made_row}
use Rattle.elim_apply.specs.LemmaTable.{lemma_table}
use Rattle.geo_logs.specs.Moves.{place_of, replacement}
use Rattle.geo_logs.specs.Naming.{IsPlaceBelow}
use Rattle.geo_poly.specs.PolynomialVariables.{AllVariables, IsQuantity, IsRatio, variables_of}
use Rattle.geo_poly.proofs.EachVariable.{each-contained, each-variables}

-- ROWS
pub rows_some : (row : Var → Option Row) (vs : List Var) (v : Var) → Contains vs v → IsTrue (is_some (row v)) → filter_map row vs ≢ []
rows_some row [] v (k, lt, e) h = absurd (omega (arith, lt))
rows_some row (w ∷ vs) v (zero, lt, e) h = go (row w) (subst (λ u. IsTrue (is_some (row u))) (sym e) h)
  where
    go : (o : Option Row) → IsTrue (is_some o) → cons_option o (filter_map row vs) ≢ []
    go None t n = let q : false ≡ true = t in cc
    go (Some r) t n = let q : ◌≡◌ {A = List Row} (r ∷ filter_map row vs) [] = n in cc
rows_some row (w ∷ vs) v (suc k, lt, e) h = go (row w) (rows_some row vs v (k, omega (arith, lt), e) h)
  where
    go : (o : Option Row) → filter_map row vs ≢ [] → cons_option o (filter_map row vs) ≢ []
    go None n = n
    go (Some r) n = λ m. let q : ◌≡◌ {A = List Row} (r ∷ filter_map row vs) [] = m in cc

pub mapped_some : {A B : Type 0} (f : A → B) (o : Option A) → IsTrue (is_some o) → IsTrue (is_some (option_map f o))
mapped_some f None h = h
mapped_some f (Some a) h = refl

-- what a search finds fits
pub found_fits : (p : ℕ → Bool) (xs : List ℕ) (x : ℕ) → find p xs ≡ Some x → IsTrue (p x)
found_fits p [] x e = let q : ◌≡◌ {A = Option ℕ} None (Some x) = e in absurd (cc)
found_fits p (z ∷ xs) x e = go (p z) refl (found_fits p xs x) e
  where
    go : (b : Bool) → p z ≡ b → (find p xs ≡ Some x → IsTrue (p x)) → cond b (Some z) (find p xs) ≡ Some x → IsTrue (p x)
    go true t rest e = let q : ◌≡◌ {A = Option ℕ} (Some z) (Some x) = e in let r : z ≡ x = cc in subst (λ u. IsTrue (p u)) r t
    go false t rest e = rest e

-- the points of a quantity stand in it
pub first_of : (a b d : PointId) → IsTrue (is_point a a || is_point b a || is_point d a)
first_of a b d = go (is_point a a) (is_point b a) (is_point d a) (eq-eqb a.0 a.0 refl)
  where
    go : (i j k : Bool) → IsTrue i → IsTrue (i || j || k)
    go true j k h = refl
    go false j k h = let q : false ≡ true = h in absurd (cc)

pub second_of : (a b d : PointId) → IsTrue (is_point a b || is_point b b || is_point d b)
second_of a b d = go (is_point a b) (is_point b b) (is_point d b) (eq-eqb b.0 b.0 refl)
  where
    go : (i j k : Bool) → IsTrue j → IsTrue (i || j || k)
    go true true k h = refl
    go false true k h = refl
    go i false k h = let q : false ≡ true = h in absurd (cc)

pub third_of : (a b d : PointId) → IsTrue (is_point a d || is_point b d || is_point d d)
third_of a b d = go (is_point a d) (is_point b d) (is_point d d) (eq-eqb d.0 d.0 refl)
  where
    go : (i j k : Bool) → IsTrue k → IsTrue (i || j || k)
    go true true true h = refl
    go true false true h = refl
    go false true true h = refl
    go false false true h = refl
    go i j false h = let q : false ≡ true = h in absurd (cc)

pub past_end : {A : Type 0} (xs : List A) (i : ℕ) → i < length xs → slice_get xs i ≡ None → ⊥
past_end [] i lt e = omega (arith, lt)
past_end {A} (x ∷ xs) zero lt e = let q : ◌≡◌ {A = Option A} (Some x) None = e in cc
past_end (x ∷ xs) (suc i) lt e = past_end xs i (omega (arith, lt)) e

abbrev pub pt : ℕ → PointId
pt k = record { 0 = k }

module _ (c : Construction) where
  abbrev pub Row_of : Move → Var → Option Row
  Row_of m v = lemma_table.row c m v

  -- lemma 0 has a row for each ratio, at any point
  pub zero_row : (v : Var) (at : PointId) → IsRatio v → IsTrue (is_some (Row_of (Ratio v 0 at) v))
  zero_row (R a b d e) at h = go (var_cmp (R a b d e) (R a b d e)) (var_order.self (R a b d e))
    where
      go : (o : Ordering) → o ≡ Equal → IsTrue (is_some (option_map (λ r. (made_row (R a b d e) r).0) (if is_eq o then ratio_table 0 c at (R a b d e) else None)))
      go Equal e = refl
      go Less e = let q : Less ≡ Equal = e in absurd (cc)
      go Greater e = let q : Greater ≡ Equal = e in absurd (cc)
  zero_row (S a b d) at h = absurd h
  zero_row (P a b d) at h = absurd h
  zero_row (Abscissa a) at h = absurd h
  zero_row (Ordinate a) at h = absurd h
  zero_row (Number t) at h = absurd h

  -- and so has the first lemma
  pub first_row : (y : PointId) (v : Var) → IsRatio v → IsTrue (is_some (Row_of (Ratio v (first_lemma c y v) y) v))
  first_row y v h = found_fits (λ lemma. is_some (Row_of (Ratio v lemma y) v)) lemmas (first_lemma c y v) (first_lemma_has_row c y v h)

  pub named_row : (v : Var) (lemma : ℕ) (y : PointId) → IsRatio v → IsTrue (is_some (Row_of (Ratio v lemma y) v)) → IsTrue (is_some (Row_of (Ratio v lemma (named_point lemma y)) v))
  named_row v zero y r h = zero_row v (pt 0) r
  named_row v (suc k) y r h = h

  -- a step that is not free has rows for areas and differences
  pub points_some : (y a b d : PointId) → IsTrue (has_point y (S a b d)) → IsTrue (is_some (points_after y a b d))
  points_some y a b d h = go (is_point a y) (is_point b y) (is_point d y) h
    where
      go : (i j k : Bool) → IsTrue (i || j || k) → IsTrue (is_some {T = PointId × PointId} (if i then Some (b, d) else (if j then Some (d, a) else (if k then Some (a, b) else None))))
      go true j k h = refl
      go false true k h = refl
      go false false true h = refl
      go false false false h = h

  pub reading_some : (y a b d : PointId) → IsTrue (has_point y (P a b d)) → IsTrue (is_some (reading y a b d))
  reading_some y a b d h = go (is_point a y) (is_point b y) (is_point d y) h
    where
      go : (i j k : Bool) → IsTrue (i || j || k)
          → IsTrue (is_some {T = Reading} (if j then Some (Quadratic a d) else (if i then Some (if k then Quadratic b b else Linear d b) else (if k then Some (Linear a b) else None))))
      go i true k h = refl
      go true false k h = refl
      go false false true h = refl
      go false false false h = h

  pub area_some : (step : Step) → step ≢ FreeStep → (o : Option (PointId × PointId)) → IsTrue (is_some o)
      → IsTrue (is_some (option_and_then (λ ab. option_map (step_row c.nodes step 1) (area_numerator c.nodes step ab.0 ab.1)) o))
  area_some step n None h = h
  area_some FreeStep n (Some ab) h = absurd (n refl)
  area_some (Inter u v p q) n (Some ab) h = refl
  area_some (Foot p u v) n (Some ab) h = refl
  area_some (Pratio w u v r) n (Some ab) h = refl
  area_some (Tratio u v r) n (Some ab) h = refl
  area_some (Weights o u v r s) n (Some ab) h = refl

  pub difference_some : (step : Step) → step ≢ FreeStep → (o : Option Reading) → IsTrue (is_some o) → IsTrue (is_some (option_and_then (difference_row c.nodes step) o))
  difference_some step n None h = h
  difference_some FreeStep n (Some r) h = absurd (n refl)
  difference_some (Inter u v p q) n (Some (Linear a b)) h = refl
  difference_some (Foot p u v) n (Some (Linear a b)) h = refl
  difference_some (Pratio w u v r) n (Some (Linear a b)) h = refl
  difference_some (Tratio u v r) n (Some (Linear a b)) h = refl
  difference_some (Weights o u v r s) n (Some (Linear a b)) h = refl
  difference_some (Inter u v p q) n (Some (Quadratic a b)) h = refl
  difference_some (Foot p u v) n (Some (Quadratic a b)) h = refl
  difference_some (Pratio w u v r) n (Some (Quadratic a b)) h = refl
  difference_some (Tratio u v r) n (Some (Quadratic a b)) h = refl
  difference_some (Weights o u v r s) n (Some (Quadratic a b)) h = refl

  pub point_row : (y : PointId) → IsConstructed c y → (v : Var) → IsTrue (has_point y v) → (IsRatio v → ⊥) → IsTrue (is_some (Row_of (Point y) v))
  point_row y made (R a b d e) h n = absurd (n tt)
  point_row y made (S a b d) h n =
      mapped_some (λ r. (made_row (S a b d) r).0) (area_table c y (S a b d))
      (subst (λ o. IsTrue (is_some (option_and_then
      (λ step. option_and_then (λ ab. option_map (step_row c.nodes step 1) (area_numerator c.nodes step ab.0 ab.1))
      (points_after y a b d)) o))) (sym made.made)
      (area_some made.step made.not_free (points_after y a b d) (points_some y a b d h)))
  point_row y made (P a b d) h n =
      mapped_some (λ r. (made_row (P a b d) r).0) (difference_table c y (P a b d))
      (subst (λ o. IsTrue (is_some (option_and_then (λ step. option_and_then (difference_row c.nodes step) (reading y a b d)) o))) (sym made.made)
      (difference_some made.step made.not_free (reading y a b d) (reading_some y a b d h)))
  point_row y made (Abscissa a) h n = let q : false ≡ true = h in absurd (cc)
  point_row y made (Ordinate a) h n = let q : false ≡ true = h in absurd (cc)
  point_row y made (Number t) h n = let q : false ≡ true = h in absurd (cc)

  -- free points alone, each of them one of the construction
  module _ (q : Summands) (free : HasFreePointsAlone c q) (below : (v : Var) → Contains (variables_of q) v → HasPointsBelow (length c.steps) v) where
    pub free_here : (a : PointId) → a.0 < length c.steps → Occurs a q → IsTrue (is_free c a)
    free_here a lt occurs = go (slice_get c.steps a.0) refl
      where
        go : (o : Option Step) → slice_get c.steps a.0 ≡ o → IsTrue (is_free_step o)
        go None e = absurd (past_end c.steps a.0 lt e)
        go (Some FreeStep) e = refl
        go (Some (Inter u v p q)) e = absurd (free a (record { step = Inter u v p q; made = e; not_free = λ n. cc }) occurs)
        go (Some (Foot p u v)) e = absurd (free a (record { step = Foot p u v; made = e; not_free = λ n. cc }) occurs)
        go (Some (Pratio w u v r)) e = absurd (free a (record { step = Pratio w u v r; made = e; not_free = λ n. cc }) occurs)
        go (Some (Tratio u v r)) e = absurd (free a (record { step = Tratio u v r; made = e; not_free = λ n. cc }) occurs)
        go (Some (Weights o u v r s)) e = absurd (free a (record { step = Weights o u v r s; made = e; not_free = λ n. cc }) occurs)

    pub area_free : (a b d : PointId) → Contains (variables_of q) (S a b d) → IsTrue (is_some (free_table c (pt 0) (S a b d)))
    area_free a b d st =
        let n = below (S a b d) st in
        go (is_free c a) (is_free c b) (is_free c d) (free_here a n.0 (st.0, S a b d, st.1, st.2, first_of a b d))
        (free_here b n.1 (st.0, S a b d, st.1, st.2, second_of a b d)) (free_here d n.2 (st.0, S a b d, st.1, st.2, third_of a b d))
      where
        go : (i j k : Bool) → IsTrue i → IsTrue j → IsTrue k
            → IsTrue (is_some {T = TableRow} (if i && j && k then Some (record { power = 1; num = area_in_coordinates a b d; den = integer 2; charge = 0 }) else None))
        go true true true x y z = refl
        go false j k x y z = let q : false ≡ true = x in absurd (cc)
        go true false k x y z = let q : false ≡ true = y in absurd (cc)
        go true true false x y z = let q : false ≡ true = z in absurd (cc)

    pub difference_free : (a b d : PointId) → Contains (variables_of q) (P a b d) → IsTrue (is_some (free_table c (pt 0) (P a b d)))
    difference_free a b d st =
        let n = below (P a b d) st in
        go (is_free c a) (is_free c b) (is_free c d) (free_here a n.0 (st.0, P a b d, st.1, st.2, first_of a b d))
        (free_here b n.1 (st.0, P a b d, st.1, st.2, second_of a b d)) (free_here d n.2 (st.0, P a b d, st.1, st.2, third_of a b d))
      where
        go : (i j k : Bool) → IsTrue i → IsTrue j → IsTrue k
            → IsTrue (is_some {T = TableRow} (if i && j && k then Some (record { power = 0; num = difference_in_coordinates a b d; den = integer 2; charge = 0 }) else None))
        go true true true x y z = refl
        go false j k x y z = let q : false ≡ true = x in absurd (cc)
        go true false k x y z = let q : false ≡ true = y in absurd (cc)
        go true true false x y z = let q : false ≡ true = z in absurd (cc)

    pub coords_row : (v : Var) → Contains (variables_of q) v → IsQuantity v → (IsRatio v → ⊥) → IsTrue (is_some (Row_of Coords v))
    coords_row (R a b d e) st h n = absurd (n tt)
    coords_row (S a b d) st h n = mapped_some (λ r. (made_row (S a b d) r).0) (free_table c (pt 0) (S a b d)) (area_free a b d st)
    coords_row (P a b d) st h n = mapped_some (λ r. (made_row (P a b d) r).0) (free_table c (pt 0) (P a b d)) (difference_free a b d st)
    coords_row (Abscissa a) st h n = absurd h
    coords_row (Ordinate a) st h n = absurd h
    coords_row (Number t) st h n = absurd h
