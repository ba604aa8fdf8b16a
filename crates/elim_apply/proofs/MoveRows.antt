-- The rows of a move: their variables, their steps, and that the lemma table is sound as moves use it.
use Rattle.std.specs.Prelude.{slice_get, IfSome}
use Rattle.std.specs.Option.{option_and_then, option_map}
use Rattle.std.proofs.Common.{◌≡◌, ℕ, zero, suc, ◌<◌, Bool, true, false, cond, eqb, Option, Some, None, refl, sym, ap, ◌∙◌, subst, arith}
use Rattle.std.proofs.lemmas.Bool.{eqb-true}
use Rattle.ring_laws.specs.Powers.{power}
use Rattle.fraction_poly.specs.Forms.{Form, piece_of}
use Rattle.fraction_poly.specs.Laws.{polynomial_value}
use Rattle.fraction_poly.specs.StepForms.{step_row}
use Rattle.fraction_poly.specs.TableRows.{HasVariable, RowHolds, TableRow, made_row}
use Rattle.fraction_poly.proofs.PieceBounds.{bounded_form}
use Rattle.geo_points.specs.declared.ids.PointId.{PointId}
use Rattle.geo_points.specs.declared.ids.TermId.{TermId}
use Rattle.ring_laws.specs.Fraction.{IsNonzero, Same, times}
use Rattle.geo_points.specs.Placements.{Placement}
use Rattle.ring_laws.proofs.Fractions.{fractions}
use Rattle.geo_poly.specs.declared.rows.Row.{Row}
use Rattle.geo_poly.specs.declared.variables.Var.{Var}
use Rattle.geo_poly.specs.declared.variables.Var.TheVariants.{R, S, P, X, Y, T}
use Rattle.geo_poly.specs.Values.{variable_value}
use Rattle.geo_terms.specs.declared.steps.Step.{Step}
use Rattle.geo_terms.specs.declared.steps.Step.TheVariants.{Pratio}
use Rattle.geo_terms.specs.Constructions.{Construction, IsConstruction}
use Rattle.area_coords.proofs.FreeSoundness.{free_rows_hold}
use Rattle.elim_area.proofs.AreaSoundness.{area_rows_hold}
use Rattle.elim_pyth.proofs.DifferenceSoundness.{difference_rows_hold}
use Rattle.elim_ratio.proofs.RatioSoundness.{pythagoras_rows_hold, ratio_rows_hold}
use Rattle.geo_logs.specs.declared.moves.Move.{Move}
use Rattle.geo_logs.specs.declared.moves.Move.TheVariants.{Ratio, Point, Coords}
use Rattle.elim_area.specs.AreaTable.{area_numerator, area_table, points_after}
use Rattle.elim_pyth.specs.declared.pyth_rows.Reading.{Reading}
use Rattle.elim_pyth.specs.declared.pyth_rows.Reading.TheVariants.{Linear, Quadratic}
use Rattle.elim_pyth.specs.DifferenceTable.{difference_row, difference_table, reading}
use Rattle.area_coords.specs.FreeTable.{free_table}
use Rattle.elim_apply.specs.LemmaTable.{LemmaTableIsSound, lemma_table, move_denominator, row_of_move}
use Rattle.geo_logs.specs.Moves.{place_of, place_of_lemma}
use Rattle.geo_logs.specs.Naming.{IsNamed, IsPlaceBelow, IsPlaceMet}
use Rattle.elim_ratio.specs.RatioTable.{end_at, lemma_row, pythagoras_row, ratio_table, same_line}
use Rattle.geo_logs.specs.Sound.{IsBoundedRow, IsSoundTable, NamesNoLater, TellsValue}
use Rattle.geo_poly.specs.PolynomialVariables.{AllVariables}
use Rattle.elim_apply.proofs.FormVariables.{of-form}
use Rattle.elim_apply.proofs.LemmaTableSound.{both_some, by_own, chained, each_some, move_den, names_follow, names_free, some_of, values_follow, values_free}
use Rattle.elim_apply.proofs.RowVariables.{AreSteps, FitsRow, Follows, FollowsFree, area_table_fits, difference_table_fits, free_area_fits, free_difference_fits, pythagoras_row_fits, ratio_table_fits, same_point}
use Rattle.geo_logs.proofs.TermVariables.{ratio_named, sorted_ratio}

module _ (c : Construction) (Good : PointId → Type 0) (Holds : Var → Type 0) (follows : Follows c Good Holds) (steps : AreSteps c Good Holds follows) where
  abbrev Fit : TableRow → Type 0
  Fit t = FitsRow c Good Holds follows t

  -- the points of a quantity
  abbrev pub AreGood : Var → Type 0
  AreGood (R a b d e) = Good a × Good b × Good d × Good e
  AreGood (S a b d) = Good a × Good b × Good d
  AreGood (P a b d) = Good a × Good b × Good d
  AreGood _ = Unit {0}

  -- the point that is looked at, where one is
  abbrev pub IsGoodPlace : Option PointId → Type 0
  IsGoodPlace None = Unit {0}
  IsGoodPlace (Some y) = Good y

  same : (y a : PointId) → eqb a.0 y.0 ≡ true → Good a → Good y
  same y a e g = same_point c Good Holds follows y a e g

  abbrev Both : Option PointId → TableRow → Type 0
  Both place t = IsGoodPlace place × Fit t

  with_place : (o : Option TableRow) (y : PointId) → Good y → IfSome o Fit → IfSome o (Both (Some y))
  with_place o y g h = each_some o Fit (Both (Some y)) (λ t f. (g, f)) h

  -- AREAS
  none_after : (o : Option Step) (F : Step → PointId × PointId → Option TableRow) (Q : TableRow → Type 0) → IfSome (option_and_then (λ step. option_and_then (F step) None) o) Q
  none_after None F Q = tt
  none_after (Some step) F Q = tt

  area_rows : (y i j k : PointId) → Good i → Good j → Good k → IfSome (area_table c y (S i j k)) (Both (Some y))
  area_rows y i j k I J K = go (eqb i.0 y.0) (eqb j.0 y.0) (eqb k.0 y.0) refl refl refl
    where
      found : Good y → IfSome (area_table c y (S i j k)) (Both (Some y))
      found g = with_place (area_table c y (S i j k)) y g (area_table_fits c Good Holds follows steps y i j k g I J K)

      go : (p q r : Bool) → eqb i.0 y.0 ≡ p → eqb j.0 y.0 ≡ q → eqb k.0 y.0 ≡ r → IfSome (area_table c y (S i j k)) (Both (Some y))
      go true q r mi mj mk = found (same y i mi I)
      go false true r mi mj mk = found (same y j mj J)
      go false false true mi mj mk = found (same y k mk K)
      go false false false mi mj mk =
          let none : points_after y i j k ≡ None =
          ap (λ (b : Bool). cond {A = Option (PointId × PointId)} b (Some (j, k)) (cond (eqb j.0 y.0) (Some (k, i)) (cond (eqb k.0 y.0) (Some (i, j)) None))) mi
          ∙ ap (λ (b : Bool). cond {A = Option (PointId × PointId)} b (Some (k, i)) (cond (eqb k.0 y.0) (Some (i, j)) None)) mj
          ∙ ap (λ (b : Bool). cond {A = Option (PointId × PointId)} b (Some (i, j)) None) mk in
          let F : Step → PointId × PointId → Option TableRow = λ step ab. option_map (step_row c.nodes step 1) (area_numerator c.nodes step ab.0 ab.1) in
          subst (λ (o : Option (PointId × PointId)). IfSome (option_and_then (λ step. option_and_then (F step) o) (slice_get c.steps y.0)) (Both (Some y))) (sym none)
          (none_after (slice_get c.steps y.0) F (Both (Some y)))

  -- DIFFERENCES
  none_read : (o : Option Step) (F : Step → Reading → Option TableRow) (Q : TableRow → Type 0) → IfSome (option_and_then (λ step. option_and_then (F step) None) o) Q
  none_read None F Q = tt
  none_read (Some step) F Q = tt

  difference_rows : (y i j k : PointId) → Good i → Good j → Good k → IfSome (difference_table c y (P i j k)) (Both (Some y))
  difference_rows y i j k I J K = go (eqb j.0 y.0) (eqb i.0 y.0) (eqb k.0 y.0) refl refl refl
    where
      found : Good y → IfSome (difference_table c y (P i j k)) (Both (Some y))
      found g = with_place (difference_table c y (P i j k)) y g (difference_table_fits c Good Holds follows steps y i j k g I J K)

      go : (q p r : Bool) → eqb j.0 y.0 ≡ q → eqb i.0 y.0 ≡ p → eqb k.0 y.0 ≡ r → IfSome (difference_table c y (P i j k)) (Both (Some y))
      go true p r mj mi mk = found (same y j mj J)
      go false true r mj mi mk = found (same y i mi I)
      go false false true mj mi mk = found (same y k mk K)
      go false false false mj mi mk =
          let none : reading y i j k ≡ None =
          ap (λ (b : Bool). cond {A = Option Reading} b (Some (Quadratic i k))
          (cond (eqb i.0 y.0) (Some (cond (eqb k.0 y.0) (Quadratic j j) (Linear k j))) (cond (eqb k.0 y.0) (Some (Linear i j)) None)))
          mj
          ∙ ap (λ (b : Bool). cond {A = Option Reading} b (Some (cond (eqb k.0 y.0) (Quadratic j j) (Linear k j))) (cond (eqb k.0 y.0) (Some (Linear i j)) None)) mi
          ∙ ap (λ (b : Bool). cond {A = Option Reading} b (Some (Linear i j)) None) mk in
          subst (λ (o : Option Reading). IfSome (option_and_then (λ step. option_and_then (difference_row c.nodes step) o) (slice_get c.steps y.0)) (Both (Some y))) (sym none)
          (none_read (slice_get c.steps y.0) (difference_row c.nodes) (Both (Some y)))

  -- RATIOS
  none_end : (o : Option Step) (F : Step → PointId × Bool → Option TableRow) (Q : TableRow → Type 0) → IfSome (option_and_then (λ step. option_and_then (F step) None) o) Q
  none_end None F Q = tt
  none_end (Some step) F Q = tt

  always : (o : Option TableRow) (Q : TableRow → Type 0) → ((t : TableRow) → Q t) → IfSome o Q
  always None Q h = tt
  always (Some t) Q h = h t

  -- a lemma other than 0 looks at one of the first two points
  ratio_place : (lemma : ℕ) (y i j d e : PointId) → Good i → Good j → IfSome (ratio_table lemma c y (R i j d e)) (λ t. IsGoodPlace (place_of_lemma lemma y))
  ratio_place zero y i j d e I J = tt
  ratio_place (suc lemma) y i j d e I J = go (eqb j.0 y.0) (eqb i.0 y.0) refl refl
    where
      rest : end_at y i j ≡ None → (z : Bool) → eqb (suc lemma) 0 ≡ z
          → IfSome (cond {A = Option TableRow} z (Some (pythagoras_row i j d e))
          (option_and_then (λ step. option_and_then (λ (end : PointId × Bool). lemma_row (suc lemma) c.nodes y step end.0 end.1 d e)
          (end_at y i j)) (slice_get c.steps y.0))) (λ t. Good y)
      rest at true z = absurd (let zero : suc lemma ≡ 0 = eqb-true (suc lemma) 0 z in omega (arith, zero))
      rest at false z =
          subst (λ (o : Option (PointId × Bool)). IfSome
          (option_and_then (λ step. option_and_then (λ (end : PointId × Bool). lemma_row (suc lemma) c.nodes y step end.0 end.1 d e) o)
          (slice_get c.steps y.0)) (λ t. Good y)) (sym at)
          (none_end (slice_get c.steps y.0) (λ step end. lemma_row (suc lemma) c.nodes y step end.0 end.1 d e) (λ t. Good y))

      go : (p q : Bool) → eqb j.0 y.0 ≡ p → eqb i.0 y.0 ≡ q → IfSome (ratio_table (suc lemma) c y (R i j d e)) (λ t. Good y)
      go true q mj mi = always (ratio_table (suc lemma) c y (R i j d e)) (λ t. Good y) (λ t. same y j mj J)
      go false true mj mi = always (ratio_table (suc lemma) c y (R i j d e)) (λ t. Good y) (λ t. same y i mi I)
      go false false mj mi =
          let at : end_at y i j ≡ None =
          ap (λ (b : Bool). cond {A = Option (PointId × Bool)} b (Some (i, false)) (cond (eqb i.0 y.0) (Some (j, true)) None)) mj
          ∙ ap (λ (b : Bool). cond {A = Option (PointId × Bool)} b (Some (j, true)) None) mi in
          rest at (eqb (suc lemma) 0) refl

  -- where lemma 3 brings in a ratio, the ratio has the property
  abbrev pub Chained : PointId → Var → Type 0
  Chained y (R i j d e) =
      (a : PointId) (turned : Bool) → end_at y i j ≡ Some (a, turned) → (w u v : PointId) (r : TermId) → slice_get c.steps y.0 ≡ Some (Pratio w u v r)
      → IfSome (same_line u v d e) (λ other. Holds (sorted_ratio Holds a w u v))
  Chained y _ = Unit {0}

  -- by lemmas that look at a step
  abbrev pub ChainedFor : ℕ → PointId → Var → Type 0
  ChainedFor zero y v = Unit {0}
  ChainedFor (suc lemma) y v = Chained y v

  -- and for a move that replaces a ratio
  abbrev pub ChainedBy : Move → Var → Type 0
  ChainedBy (Ratio w lemma at) v = ChainedFor lemma at v
  ChainedBy _ v = Unit {0}

  ratio_rows : (lemma : ℕ) (y : PointId) (v : Var) → AreGood v → ChainedFor lemma y v → IfSome (ratio_table lemma c y v) (Both (place_of_lemma lemma y))
  ratio_rows zero y (R i j d e) g chain = (tt, pythagoras_row_fits c Good Holds follows i j d e g.0 g.1 g.2 g.3)
  ratio_rows (suc lemma) y (R i j d e) g chain =
      both_some (ratio_table (suc lemma) c y (R i j d e)) (λ t. Good y) Fit (ratio_place (suc lemma) y i j d e g.0 g.1)
      (ratio_table_fits c Good Holds follows steps (suc lemma) y i j d e g.0 g.1 g.2 g.3 chain)
  ratio_rows lemma y (S i j k) g chain = tt
  ratio_rows lemma y (P i j k) g chain = tt
  ratio_rows lemma y (X i) g chain = tt
  ratio_rows lemma y (Y i) g chain = tt
  ratio_rows lemma y (T t) g chain = tt

  free_rows : FollowsFree c Good Holds → (v : Var) → AreGood v → IfSome (free_table c (record { 0 = 0 }) v) (Both None)
  free_rows free (R i j k l) g = tt
  free_rows free (S i j k) g = each_some (free_table c (record { 0 = 0 }) (S i j k)) Fit (Both None) (λ t f. (tt, f)) (free_area_fits c Good Holds follows free i j k g.0 g.1 g.2 (record { 0 = 0 }))
  free_rows free (P i j k) g = each_some (free_table c (record { 0 = 0 }) (P i j k)) Fit (Both None) (λ t f. (tt, f)) (free_difference_fits c Good Holds follows free i j k g.0 g.1 g.2 (record { 0 = 0 }))
  free_rows free (X i) g = tt
  free_rows free (Y i) g = tt
  free_rows free (T t) g = tt

  -- coordinates come in by the move to them alone
  pub move_rows : (move : Move) → (move ≡ Coords → FollowsFree c Good Holds) → (v : Var) → AreGood v → ChainedBy move v → IfSome (row_of_move c move v) (Both (place_of move))
  move_rows (Ratio w lemma at) free v g chain = by_own c w v lemma at (Both (place_of_lemma lemma at)) (λ own. ratio_rows lemma at v g chain)
  move_rows (Point y) free (S i j k) g chain = area_rows y i j k g.0 g.1 g.2
  move_rows (Point y) free (P i j k) g chain = difference_rows y i j k g.0 g.1 g.2
  move_rows (Point y) free (R i j k l) g chain = tt
  move_rows (Point y) free (X i) g chain = tt
  move_rows (Point y) free (Y i) g chain = tt
  move_rows (Point y) free (T t) g chain = tt
  move_rows Coords free v g chain = free_rows (free refl) v g

-- THE POINTS OF A READ PAIR
same_end : (i a : PointId) (s t : Bool) → ◌≡◌ {A = Option (PointId × Bool)} (Some (i, s)) (Some (a, t)) → i ≡ a
same_end i a s t e = let pair : ◌≡◌ {A = PointId × Bool} (i, s) (a, t) = cc in ap (λ (x : PointId × Bool). x.0) pair

-- both ends of a pair that is read at y are below n, where its points are
end_below : (n : ℕ) (y i j a : PointId) (turned : Bool) → i.0 < n → j.0 < n → end_at y i j ≡ Some (a, turned) → (a.0 < n) × (y.0 < n)
end_below n y i j a turned I J at = go (eqb j.0 y.0) (eqb i.0 y.0) refl refl at
  where
    go : (p q : Bool) → eqb j.0 y.0 ≡ p → eqb i.0 y.0 ≡ q
        → ◌≡◌ {A = Option (PointId × Bool)} (cond {A = Option (PointId × Bool)} p (Some (i, false)) (cond q (Some (j, true)) None)) (Some (a, turned)) → (a.0 < n) × (y.0 < n)
    go true q mj mi k =
        let number : i.0 ≡ a.0 = ap (λ (x : PointId). x.0) (same_end i a false turned k) in
        let here : j.0 ≡ y.0 = eqb-true j.0 y.0 mj in
        (omega (arith, number, I), omega (arith, here, J))
    go false true mj mi k =
        let number : j.0 ≡ a.0 = ap (λ (x : PointId). x.0) (same_end j a true turned k) in
        let here : i.0 ≡ y.0 = eqb-true i.0 y.0 mi in
        (omega (arith, number, J), omega (arith, here, I))
    go false false mj mi k = absurd (let z : ◌≡◌ {A = Option (PointId × Bool)} None (Some (a, turned)) = k in cc)

always_bool : (o : Option Bool) (Q : Type 0) → Q → IfSome o (λ other. Q)
always_bool None Q h = tt
always_bool (Some other) Q h = h

-- THE LEMMA TABLE AS MOVES USE IT
-- the row of a table that a move's row is
record IsMadeOf (o : Option TableRow) (v : Var) (r : Row) : Type 0 where
  row : TableRow
  stands : o ≡ Some row
  made : (made_row v row).0 ≡ r

made_of : (o : Option TableRow) (v : Var) (r : Row) → option_map (λ t. (made_row v t).0) o ≡ Some r → IsMadeOf o v r
made_of None v r e = absurd (let q : ◌≡◌ {A = Option Row} None (Some r) = e in cc)
made_of (Some t) v r e = record { row = t; stands = refl; made = let q : ◌≡◌ {A = Option Row} (Some (made_row v t).0) (Some r) = e in cc }

has_variable : (placed : Placement) (v : Var) → HasVariable placed v → HasVariable placed v
has_variable placed (R a b d e) h = h
has_variable placed (S a b d) h = tt
has_variable placed (P a b d) h = tt
has_variable placed (X a) h = tt
has_variable placed (Y a) h = tt
has_variable placed (T t) h = tt

module _ (c : Construction) (placed : Placement) where
  abbrev RowIsTold : Var → TableRow → Type 0
  RowIsTold v t = RowHolds placed (made_row v t).0 (made_row v t).1

  ratio_told : (lemma : ℕ) (at : PointId) (v : Var) (t : TableRow) → IsPlaceMet placed c (place_of_lemma lemma at) → HasVariable placed v → ratio_table lemma c at v ≡ Some t → RowIsTold v t
  ratio_told zero at v t met has e = pythagoras_rows_hold c at v t e placed (has_variable placed v has)
  ratio_told (suc lemma) at v t met has e = ratio_rows_hold (suc lemma) c at v t e placed met (has_variable placed v has)

  -- a property of a row that an option's rows have
  each_row : (o : Option TableRow) (Q : TableRow → Type 0) → ((t : TableRow) → o ≡ Some t → Q t) → IfSome o Q
  each_row None Q h = tt
  each_row (Some t) Q h = h t refl

  row_told : (move : Move) (v : Var) → IsPlaceMet placed c (place_of move) → HasVariable placed v → IfSome (row_of_move c move v) (RowIsTold v)
  row_told (Ratio w lemma at) v met has =
      by_own c w v lemma at (RowIsTold v) (λ own. each_row (ratio_table lemma c at v) (RowIsTold v) (λ t e. ratio_told lemma at v t met has e))
  row_told (Point y) (S i j k) met has = each_row (area_table c y (S i j k)) (RowIsTold (S i j k)) (λ t e. area_rows_hold c y (S i j k) t e placed met tt)
  row_told (Point y) (P i j k) met has = each_row (difference_table c y (P i j k)) (RowIsTold (P i j k)) (λ t e. difference_rows_hold c y (P i j k) t e placed met tt)
  row_told (Point y) (R i j k l) met has = tt
  row_told (Point y) (X i) met has = tt
  row_told (Point y) (Y i) met has = tt
  row_told (Point y) (T t) met has = tt
  row_told Coords v met has = each_row (free_table c (record { 0 = 0 }) v) (RowIsTold v) (λ t e. free_rows_hold c (record { 0 = 0 }) v t e placed (has_variable placed v has))

module _ (c : Construction) (valid : IsConstruction c) where
  -- the points of a named variable
  named_points : (n : ℕ) (v : Var) → IsNamed c n v → AreGood c (λ a. a.0 < n) (IsNamed c n) (names_follow c n) valid.steps v
  named_points n (R a b d e) h = h
  named_points n (S a b d) h = h
  named_points n (P a b d) h = h
  named_points n (X a) h = tt
  named_points n (Y a) h = tt
  named_points n (T t) h = tt

  all_points : (placed : Placement) (v : Var) → AreGood c (λ a. Unit {0}) (HasVariable placed) (values_follow c placed) valid.steps v
  all_points placed (R a b d e) = (tt, tt, tt, tt)
  all_points placed (S a b d) = (tt, tt, tt)
  all_points placed (P a b d) = (tt, tt, tt)
  all_points placed (X a) = tt
  all_points placed (Y a) = tt
  all_points placed (T t) = tt

  chain_named_at : (n : ℕ) (y : PointId) (v : Var) → IsNamed c n v → Chained c (λ a. a.0 < n) (IsNamed c n) (names_follow c n) valid.steps y v
  chain_named_at n y (R i j d e) h = λ a turned at w u v r is.
      let ends = end_below n y i j a turned h.0 h.1 at in
      let below = valid.steps y.0 (Pratio w u v r) is in
      let W : w.0 < n = omega (arith, below.0, ends.1) in
      let U : u.0 < n = omega (arith, below.1, ends.1) in
      let V : v.0 < n = omega (arith, below.2, ends.1) in
      always_bool (same_line u v d e) (IsNamed c n (sorted_ratio (IsNamed c n) a w u v)) (ratio_named c n a w u v ends.0 W U V)
  chain_named_at n y (S a b d) h = tt
  chain_named_at n y (P a b d) h = tt
  chain_named_at n y (X a) h = tt
  chain_named_at n y (Y a) h = tt
  chain_named_at n y (T t) h = tt

  chain_named : (n : ℕ) (move : Move) (v : Var) → IsNamed c n v → ChainedBy c (λ a. a.0 < n) (IsNamed c n) (names_follow c n) valid.steps move v
  chain_named n (Ratio w lemma at) v h = by_lemma lemma
    where
      by_lemma : (l : ℕ) → ChainedFor c (λ a. a.0 < n) (IsNamed c n) (names_follow c n) valid.steps l at v
      by_lemma zero = tt
      by_lemma (suc l) = chain_named_at n at v h
  chain_named n (Point y) v h = tt
  chain_named n Coords v h = tt

  named_place : (n : ℕ) (place : Option PointId) → IsGoodPlace c (λ a. a.0 < n) (IsNamed c n) (names_follow c n) valid.steps place → IsPlaceBelow n place
  named_place n None h = tt
  named_place n (Some y) h = h

  -- a row names no later points
  names_no_later : (n : ℕ) (move : Move) (v : Var) (t : TableRow) → row_of_move c move v ≡ Some t → IsNamed c n v → NamesNoLater lemma_table c n move (made_row v t).0
  names_no_later n move v t e named =
      let Q : TableRow → Type 0 = λ t. IsGoodPlace c (λ a. a.0 < n) (IsNamed c n) (names_follow c n) valid.steps (place_of move) × FitsRow c (λ a. a.0 < n) (IsNamed c n) (names_follow c n) t in
      let fits = some_of (row_of_move c move v) t Q e (move_rows c (λ a. a.0 < n) (IsNamed c n) (names_follow c n) valid.steps move (λ e. names_free c n) v (named_points n v named) (chain_named n move v named)) in
      let den : t.den ≡ move_denominator c move = some_of (row_of_move c move v) t (λ t. t.den ≡ move_denominator c move) e (move_den c move v) in
      record {
        place = named_place n (place_of move) fits.0;
        numerator = of-form (IsNamed c n) t.num fits.1.num;
        denominator = subst (λ (f : Form). AllVariables (IsNamed c n) (piece_of f).poly) den (of-form (IsNamed c n) t.den fits.1.den);
      }

  -- the ratio that lemma 3 brings in is defined
  chain_valued_at : (placed : Placement) (lemma : ℕ) (y : PointId) (v : Var) → IsPlaceMet placed c (place_of_lemma lemma y) → HasVariable placed v
      → ChainedFor c (λ a. Unit {0}) (HasVariable placed) (values_follow c placed) valid.steps lemma y v
  chain_valued_at placed zero y v met has = tt
  chain_valued_at placed (suc lemma) y (R i j d e) met has = chained c placed y i j d e has met
  chain_valued_at placed (suc lemma) y (S a b d) met has = tt
  chain_valued_at placed (suc lemma) y (P a b d) met has = tt
  chain_valued_at placed (suc lemma) y (X a) met has = tt
  chain_valued_at placed (suc lemma) y (Y a) met has = tt
  chain_valued_at placed (suc lemma) y (T t) met has = tt

  chain_valued : (placed : Placement) (move : Move) (v : Var) → IsPlaceMet placed c (place_of move) → HasVariable placed v
      → ChainedBy c (λ a. Unit {0}) (HasVariable placed) (values_follow c placed) valid.steps move v
  chain_valued placed (Ratio w lemma at) v met has = chain_valued_at placed lemma at v met has
  chain_valued placed (Point y) v met has = tt
  chain_valued placed Coords v met has = tt

  -- a row tells the value of its variable
  row_tells : (placed : Placement) (move : Move) (v : Var) (t : TableRow) → row_of_move c move v ≡ Some t → IsPlaceMet placed c (place_of move) → HasVariable placed v
      → TellsValue placed lemma_table c move v (made_row v t).0
  row_tells placed move v t e met has =
      let Q : TableRow → Type 0 =
      λ t. IsGoodPlace c (λ a. Unit {0}) (HasVariable placed) (values_follow c placed) valid.steps (place_of move) × FitsRow c (λ a. Unit {0}) (HasVariable placed) (values_follow c placed) t in
      let fits = some_of (row_of_move c move v) t Q e
      (move_rows c (λ a. Unit {0}) (HasVariable placed) (values_follow c placed) valid.steps move (λ e. values_free c placed) v (all_points placed v) (chain_valued placed move v met has)) in
      let den : t.den ≡ move_denominator c move = some_of (row_of_move c move v) t (λ t. t.den ≡ move_denominator c move) e (move_den c move v) in
      let told : RowHolds placed (made_row v t).0 (made_row v t).1 = some_of (row_of_move c move v) t (λ t. RowHolds placed (made_row v t).0 (made_row v t).1) e (row_told c placed move v met has) in
      record {
        nonzero = subst (λ (f : Form). IsNonzero (polynomial_value placed (piece_of f).poly)) den told.nonzero;
        tells = subst (λ (f : Form). Same
            (times (variable_value placed.point placed.number v) (power fractions (polynomial_value placed (piece_of f).poly) t.power))
            (polynomial_value placed (piece_of t.num).poly)) den told.equation;
        numerator = of-form (HasVariable placed) t.num fits.1.num;
        denominator = subst (λ (f : Form). AllVariables (HasVariable placed) (piece_of f).poly) den (of-form (HasVariable placed) t.den fits.1.den);
      }

  bounded_row : (move : Move) (v : Var) (t : TableRow) → IsBoundedRow lemma_table c move (made_row v t).0
  bounded_row move v t = record { numerator = bounded_form t.num; denominator = bounded_form (move_denominator c move) }

  -- all of it together
  sound_rows : IsSoundTable lemma_table c
  sound_rows = record {
    own = λ move v r e. let m = made_of (row_of_move c move v) v r e in ap (λ (x : Row). x.var) (sym m.made);
    sound = λ placed move v r e met has.
        let m = made_of (row_of_move c move v) v r e in
        subst (TellsValue placed lemma_table c move v) m.made (row_tells placed move v m.row m.stands met has);
    bounded = λ move v r e.
        let m = made_of (row_of_move c move v) v r e in
        subst (IsBoundedRow lemma_table c move) m.made (bounded_row move v m.row);
    named = λ n move v r e named.
        let m = made_of (row_of_move c move v) v r e in
        subst (NamesNoLater lemma_table c n move) m.made (names_no_later n move v m.row m.stands named);
  }

-- THE LEMMA TABLE IS SOUND
pub lemma_table_sound : LemmaTableIsSound
lemma_table_sound c valid = sound_rows c valid
