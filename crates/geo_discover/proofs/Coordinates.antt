-- The move to coordinates: it replaces each quantity, and leaves coordinates and parameters alone.
use Rattle.std.proofs.Common.{◌≡◌, ◌≢◌, ℕ, zero, suc, ◌<◌, ◌&&◌, ◌⊎◌, inl, inr, IsTrue, Bool, true, false, cond, Contains, Option}
use Rattle.std.proofs.Common.{Some, None, List, [], ◌∷◌, length, refl, sym, ◌∙◌, ap, subst, arith}
use Rattle.std.specs.Prelude.{slice_get}
use Rattle.std.specs.List.{cons_option, filter_map}
use Rattle.std.specs.Option.{is_some, option_map}
use Rattle.std.specs.Ordering.{is_eq}
use Rattle.std.specs.declared.cmp.Ordering.{Ordering}
use Rattle.std.specs.declared.cmp.Ordering.TheVariants.{Less, Equal, Greater}
use Rattle.area_coords.specs.FreeTable.{area_in_coordinates, difference_in_coordinates, free_table, is_free, is_free_step}
use Rattle.fraction_poly.specs.Forms.{integer, piece_of}
use Rattle.fraction_poly.specs.TableRows.{TableRow, made_row}
use Rattle.geo_points.specs.declared.ids.PointId.{PointId}
use Rattle.geo_poly.specs.declared.rows.Row.{Row}
use Rattle.geo_poly.specs.declared.variables.Var.{Var}
use Rattle.geo_poly.specs.declared.variables.Var.TheVariants.{R, S, P, X as Abscissa, Y as Ordinate, T as Number}
use Rattle.geo_poly.specs.KeptVariables.{AllNumerators}
use Rattle.geo_poly.specs.Polynomials.{Summands}
use Rattle.geo_poly.specs.PolynomialVariables.{AllVariables, IsPlain, IsQuantity, variables_of}
use Rattle.geo_poly.specs.Replace.{row_of}
use Rattle.geo_poly.specs.Variables.{var_cmp}
use Rattle.geo_poly.proofs.EachVariable.{all_variables}
use Rattle.geo_poly.proofs.KeptVariables.{kept_property}
use Rattle.geo_poly.proofs.Orders.{var_order}
use Rattle.geo_terms.specs.declared.steps.Step.{Step}
use Rattle.geo_terms.specs.Constructions.{Construction}
use Rattle.elim_apply.specs.LemmaTable.{lemma_table}
use Rattle.elim_apply.proofs.FoundRows.{Row_of, coords_row, pt}
use Rattle.geo_logs.proofs.NamedPoints.{occurring_points}
use Rattle.elim_apply.proofs.FormVariables.{OfForm, of-form}
use Rattle.geo_logs.specs.declared.moves.Move.TheVariants.{Coords}
use Rattle.geo_logs.specs.Defined.{IsNextMove}
use Rattle.geo_logs.specs.Moves.{IsMoved, replacement}
use Rattle.geo_logs.specs.Naming.{IsNamed}

module _ (c : Construction) where
  abbrev row_at : Var → Option Row
  row_at v = Row_of c Coords v

  -- ROWS
  -- the row of a variable of some list stands among their rows
  row_found : (vs : List Var) (v : Var) (r : Row) → Contains vs v → row_at v ≡ Some r → r.var ≡ v → row_of (filter_map row_at vs) v ≢ None
  row_found [] v r (k, lt, e) h own = absurd (omega (arith, lt))
  row_found (w ∷ vs) v r (zero, lt, e) h own =
      subst (λ (o : Option Row). row_of (cons_option o (filter_map row_at vs)) v ≢ None) (sym (ap row_at e ∙ h))
      (here (var_cmp r.var v) (subst (λ (u : Var). var_cmp r.var u ≡ Equal) own (var_order.self r.var)))
    where
      here : (o : Ordering) → o ≡ Equal → cond (is_eq o) (Some r) (row_of (filter_map row_at vs) v) ≢ None
      here Equal s n = let q : ◌≡◌ {A = Option Row} (Some r) None = n in cc
      here Less s n = let q : Less ≡ Equal = s in cc
      here Greater s n = let q : Greater ≡ Equal = s in cc
  row_found (w ∷ vs) v r (suc k, lt, e) h own = go (row_at w) (row_found vs v r (k, omega (arith, lt), e) h own)
    where
      go : (o : Option Row) → row_of (filter_map row_at vs) v ≢ None → row_of (cons_option o (filter_map row_at vs)) v ≢ None
      go None n = n
      go (Some s) n = here (is_eq (var_cmp s.var v))
        where
          here : (b : Bool) → cond b (Some s) (row_of (filter_map row_at vs) v) ≢ None
          here true m = let q : ◌≡◌ {A = Option Row} (Some s) None = m in cc
          here false m = n m

  made_var : (v : Var) (o : Option TableRow) → IsTrue (is_some (option_map (λ t. (made_row v t).0) o)) → (r : Row) × (option_map (λ t. (made_row v t).0) o ≡ Some r) × (r.var ≡ v)
  made_var v None h = let q : false ≡ true = h in absurd (cc)
  made_var v (Some t) h = ((made_row v t).0, refl, refl)

  -- what a row writes
  free_plain : (a b d : PointId) (o : Bool) (row : TableRow) → OfForm IsPlain row.num → (v : Var) (r : Row) → option_map (λ t. (made_row v t).0) (cond o (Some row) None) ≡ Some r
      → AllVariables IsPlain r.num.poly
  free_plain a b d true row h v r e =
      let same : ◌≡◌ {A = Row} (made_row v row).0 r = let q : ◌≡◌ {A = Option Row} (Some (made_row v row).0) (Some r) = e in cc in
      subst (λ (x : Row). AllVariables IsPlain x.num.poly) same (of-form IsPlain row.num h)
  free_plain a b d false row h v r e = absurd (let q : ◌≡◌ {A = Option Row} None (Some r) = e in cc)

  row_plain : (v : Var) (r : Row) → row_at v ≡ Some r → AllVariables IsPlain r.num.poly
  row_plain (S a b d) r e =
      free_plain a b d (is_free c a && is_free c b && is_free c d) (record { power = 1; num = area_in_coordinates a b d; den = integer 2; charge = 0 })
      ((((((tt, tt), (tt, tt)), (tt, tt)), (tt, tt)), (tt, tt)), (tt, tt)) (S a b d) r e
  row_plain (P a b d) r e =
      free_plain a b d (is_free c a && is_free c b && is_free c d) (record { power = 0; num = difference_in_coordinates a b d; den = integer 2; charge = 0 })
      (tt, ((((((((tt, tt), (tt, tt)), (tt, tt)), (tt, tt)), (tt, tt)), (tt, tt)), (tt, tt)), (tt, tt))) (P a b d) r e
  row_plain (R a b d e) r h = absurd (let q : ◌≡◌ {A = Option Row} None (Some r) = h in cc)
  row_plain (Abscissa a) r h = absurd (let q : ◌≡◌ {A = Option Row} None (Some r) = h in cc)
  row_plain (Ordinate a) r h = absurd (let q : ◌≡◌ {A = Option Row} None (Some r) = h in cc)
  row_plain (Number t) r h = absurd (let q : ◌≡◌ {A = Option Row} None (Some r) = h in cc)

  rows_plain : (vs : List Var) → AllNumerators IsPlain (filter_map row_at vs)
  rows_plain [] = tt
  rows_plain (v ∷ vs) = go (row_at v) refl (rows_plain vs)
    where
      go : (o : Option Row) → row_at v ≡ o → AllNumerators IsPlain (filter_map row_at vs) → AllNumerators IsPlain (cons_option o (filter_map row_at vs))
      go None e rest = rest
      go (Some r) e rest = (row_plain v r e, rest)

  -- only areas and differences of free points have rows
  first_free : (i j k : Bool) (row : TableRow) (v : Var) (r : Row) → option_map (λ t. (made_row v t).0) (cond (i && j && k) (Some row) None) ≡ Some r → IsTrue i
  first_free true j k row v r e = refl
  first_free false j k row v r e = absurd (let q : ◌≡◌ {A = Option Row} None (Some r) = e in cc)

  free_stands : (steps : List Step) (a : ℕ) → IsTrue (is_free_step (slice_get steps a)) → 0 < length steps
  free_stands [] a h = let q : false ≡ true = h in absurd (cc)
  free_stands (s ∷ steps) a h = omega arith

  pub row_named : (n : ℕ) (v : Var) (r : Row) → row_at v ≡ Some r → IsNamed c n v → (0 < n) × (0 < length c.steps)
  row_named n (S a b d) r e named =
      let free = first_free (is_free c a) (is_free c b) (is_free c d) (record { power = 1; num = area_in_coordinates a b d; den = integer 2; charge = 0 }) (S a b d) r e in
      (omega (arith, named.0), free_stands c.steps a.0 free)
  row_named n (P a b d) r e named =
      let free = first_free (is_free c a) (is_free c b) (is_free c d) (record { power = 0; num = difference_in_coordinates a b d; den = integer 2; charge = 0 }) (P a b d) r e in
      (omega (arith, named.0), free_stands c.steps a.0 free)
  row_named n (R a b d f) r e named = absurd (let q : ◌≡◌ {A = Option Row} None (Some r) = e in cc)
  row_named n (Abscissa a) r e named = absurd (let q : ◌≡◌ {A = Option Row} None (Some r) = e in cc)
  row_named n (Ordinate a) r e named = absurd (let q : ◌≡◌ {A = Option Row} None (Some r) = e in cc)
  row_named n (Number t) r e named = absurd (let q : ◌≡◌ {A = Option Row} None (Some r) = e in cc)

  -- WHAT IS LEFT
  quantity_or_plain : (v : Var) → IsQuantity v ⊎ IsPlain v
  quantity_or_plain (R a b d e) = inl tt
  quantity_or_plain (S a b d) = inl tt
  quantity_or_plain (P a b d) = inl tt
  quantity_or_plain (Abscissa a) = inr tt
  quantity_or_plain (Ordinate a) = inr tt
  quantity_or_plain (Number t) = inr tt

  module _ (left : ℕ) (q m : Summands) (next : IsNextMove lemma_table c q Coords) (named : AllVariables (IsNamed c (length c.steps)) q)
      (moved : IsMoved (replacement lemma_table c Coords q) left q m) where
    stays : (v : Var) → Contains (variables_of q) v → row_of (filter_map row_at (variables_of q)) v ≡ None → IsPlain v
    stays v st none = go (quantity_or_plain v)
      where
        row_is : (w : Var) → Contains (variables_of q) w → IsQuantity w → (r : Row) × (row_at w ≡ Some r) × (r.var ≡ w)
        row_is (R a b d e) s h = absurd (next.1 (R a b d e) s tt)
        row_is (S a b d) s h = made_var (S a b d) (free_table c (pt 0) (S a b d)) (coords_row c q next.0 (occurring_points c (length c.steps) q named) (S a b d) s tt (λ n. n))
        row_is (P a b d) s h = made_var (P a b d) (free_table c (pt 0) (P a b d)) (coords_row c q next.0 (occurring_points c (length c.steps) q named) (P a b d) s tt (λ n. n))
        row_is (Abscissa a) s h = absurd h
        row_is (Ordinate a) s h = absurd h
        row_is (Number t) s h = absurd h

        go : IsQuantity v ⊎ IsPlain v → IsPlain v
        go (inr plain) = plain
        go (inl h) = let found = row_is v st h in absurd (row_found (variables_of q) v found.0 st found.1 found.2 none)

    -- coordinates and parameters alone
    pub coordinates_plain : AllVariables IsPlain m
    coordinates_plain =
        let rows : List Row = filter_map row_at (variables_of q) in
        subst (AllVariables IsPlain) (sym moved.result)
        ((kept_property IsPlain).replacement rows (piece_of (integer 2)).poly q (rows_plain (variables_of q)) (of-form IsPlain (integer 2) tt)
        (all_variables (λ v. row_of rows v ≡ None → IsPlain v) q stays))
