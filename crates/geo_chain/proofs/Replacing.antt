-- The next move replaces something, and its polynomial names the points of the steps alone.
use Rattle.std.proofs.Common.{◌≡◌, ◌≢◌, ℕ, zero, suc, ◌<◌, inl, inr, IsTrue, Contains, Option, Some, None, List, [], ◌∷◌, length, sym, subst, arith}
use Rattle.std.specs.Prelude.{slice_get}
use Rattle.std.specs.Option.{is_some}
use Rattle.geo_points.specs.declared.ids.PointId.{PointId}
use Rattle.geo_poly.specs.declared.variables.Var.{Var}
use Rattle.geo_poly.specs.Polynomials.{Summands}
use Rattle.geo_terms.specs.declared.steps.Step.{Step}
use Rattle.geo_terms.specs.Constructions.{Construction}
use Rattle.geo_logs.specs.declared.moves.Move.{Move}
use Rattle.geo_logs.specs.declared.moves.Move.TheVariants.{Ratio, Point, Coords}
use Rattle.geo_logs.specs.Defined.{IsNextMove}
use Rattle.fraction_poly.specs.TableRows.{HasPointsBelow}
use Rattle.elim_apply.specs.LemmaTable.{lemma_table}
use Rattle.geo_logs.specs.Moves.{place_of, replacement}
use Rattle.geo_logs.specs.Naming.{IsPlaceBelow}
use Rattle.geo_poly.specs.PolynomialVariables.{AllVariables, variables_of}
use Rattle.geo_poly.proofs.EachVariable.{each-contained, each-variables}
use Rattle.elim_apply.proofs.FoundRows.{Row_of, coords_row, first_row, named_row, point_row, rows_some, zero_row}

module _ (c : Construction) where
  named_at : (q : Summands) → AllVariables (HasPointsBelow (length c.steps)) q → (v : Var) → Contains (variables_of q) v → HasPointsBelow (length c.steps) v
  named_at q named v stands = each-contained (HasPointsBelow (length c.steps)) (variables_of q) v (each-variables (HasPointsBelow (length c.steps)) q named) stands

  below : (xs : List Step) (i : ℕ) (s : Step) → slice_get xs i ≡ Some s → i < length xs
  below [] i s e = absurd (let q : ◌≡◌ {A = Option Step} None (Some s) = e in cc)
  below (x ∷ xs) zero s e = omega arith
  below (x ∷ xs) (suc i) s e = let h : i < length xs = below xs i s e in omega (arith, h)

  -- the step at which the next move looks is one of the construction
  pub place_below : (q : Summands) (move : Move) → IsNextMove lemma_table c q move → IsPlaceBelow (length c.steps) (place_of move)
  place_below q (Ratio v zero at) h = tt
  place_below q (Ratio v (suc k) at) (inl (y, high, first, lemma, named)) =
      subst (λ (p : PointId). p.0 < length c.steps) (sym named) (below c.steps y.0 high.constructed.step high.constructed.made)
  place_below q (Ratio v (suc k) at) (inr (free, first, lemma, named)) = absurd (omega (arith, lemma))
  place_below q (Point y) h = below c.steps y.0 h.0.constructed.step h.0.constructed.made
  place_below q Coords h = tt

  -- the next move replaces something
  pub replaces : (q : Summands) (move : Move) → AllVariables (HasPointsBelow (length c.steps)) q → IsNextMove lemma_table c q move → (replacement lemma_table c move q).rows ≢ []
  replaces q (Ratio v l at) points (inl (y, high, first, lemma, named)) =
      let found : IsTrue (is_some (Row_of c (Ratio v l y) v)) = subst (λ k. IsTrue (is_some (Row_of c (Ratio v k y) v))) (sym lemma) (first_row c y v first.ratio) in
      rows_some (Row_of c (Ratio v l at)) (variables_of q) v first.stands
      (subst (λ p. IsTrue (is_some (Row_of c (Ratio v l p) v))) (sym named) (named_row c v l y first.ratio found))
  replaces q (Ratio v l at) points (inr (free, first, lemma, named)) =
      rows_some (Row_of c (Ratio v l at)) (variables_of q) v first.stands
      (subst (λ k. IsTrue (is_some (Row_of c (Ratio v k at) v))) (sym lemma) (zero_row c v at first.ratio))
  replaces q (Point y) points (high, none) =
      let o = high.occurs in
      rows_some (Row_of c (Point y)) (variables_of q) o.1 (o.0, o.2, o.3) (point_row c y high.constructed o.1 o.4 (λ r. none o.1 (o.0, o.2, o.3) r o.4))
  replaces q Coords points (free, none, (k, v, lt, at, h)) =
      rows_some (Row_of c Coords) (variables_of q) v (k, lt, at) (coords_row c q free (named_at q points) v (k, lt, at) h (none v (k, lt, at)))
