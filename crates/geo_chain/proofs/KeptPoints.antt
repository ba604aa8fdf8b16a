-- A step of a chain names no new points.
use Rattle.std.proofs.Common.{◌≡◌, ℕ, IfSome, Bool, true, false, cond, Option, Some, None, List, sym, subst}
use Rattle.std.specs.List.{filter_map}
use Rattle.std.specs.Option.{option_map}
use Rattle.std.specs.Ordering.{is_eq}
use Rattle.geo_poly.specs.declared.rows.Row.{Row}
use Rattle.geo_poly.specs.declared.variables.Var.{Var}
use Rattle.geo_poly.specs.declared.variables.Var.TheVariants.{R, S, P, X as Abscissa, Y as Ordinate, T as Number}
use Rattle.geo_poly.specs.Polynomials.{Summands}
use Rattle.geo_poly.specs.Variables.{var_cmp}
use Rattle.geo_poly.specs.PolynomialVariables.{AllVariables, variables_of}
use Rattle.geo_poly.proofs.EachVariable.{EachIn, OfNumerators, each-variables, of-replaced_by, of-rows, some_row}
use Rattle.geo_terms.specs.Constructions.{Construction, IsConstruction}
use Rattle.fraction_poly.specs.TableRows.{HasPointsBelow, TableRow, made_row}
use Rattle.geo_chain.specs.NextLines.{HasLinePointsBelow}
use Rattle.proof_log.specs.declared.log.Line.{Line}
use Rattle.proof_log.specs.Steps.{polynomial_on}
use Rattle.geo_logs.specs.declared.moves.Move.{Move}
use Rattle.geo_logs.specs.declared.moves.Move.TheVariants.{Ratio, Point, Coords}
use Rattle.elim_apply.specs.LemmaTable.{lemma_table}
use Rattle.geo_logs.specs.Moves.{IsMoved, replacement}
use Rattle.geo_logs.specs.Sound.{NamesNoLater}
use Rattle.geo_logs.proofs.NamedPoints.{named_points}
use Rattle.elim_apply.proofs.MoveRows.{lemma_table_sound}

no_some : (r : Row) → ◌≡◌ {A = Option Row} None (Some r) → ⊥
no_some r e = let q : ◌≡◌ {A = Option Row} None (Some r) = e in cc

either_none : (b : Bool) (f : TableRow → Row) (r : Row) → option_map f (cond b None None) ≡ Some r → ⊥
either_none true f r e = no_some r e
either_none false f r e = no_some r e

module _ (c : Construction) (valid : IsConstruction c) where
  row_named : (n : ℕ) (move : Move) (v : Var) (r : Row) → lemma_table.row c move v ≡ Some r → HasPointsBelow n v → NamesNoLater lemma_table c n move r
  row_named n move (R a b d e) r is h = (lemma_table_sound c valid).named n move (R a b d e) r is h
  row_named n move (S a b d) r is h = (lemma_table_sound c valid).named n move (S a b d) r is h
  row_named n move (P a b d) r is h = (lemma_table_sound c valid).named n move (P a b d) r is h
  row_named n (Ratio w l at) (Abscissa a) r is h = absurd (either_none (is_eq (var_cmp w (Abscissa a))) (λ t. (made_row (Abscissa a) t).0) r is)
  row_named n (Ratio w l at) (Ordinate a) r is h = absurd (either_none (is_eq (var_cmp w (Ordinate a))) (λ t. (made_row (Ordinate a) t).0) r is)
  row_named n (Ratio w l at) (Number t) r is h = absurd (either_none (is_eq (var_cmp w (Number t))) (λ u. (made_row (Number t) u).0) r is)
  row_named n (Point y) (Abscissa a) r is h = absurd (no_some r is)
  row_named n (Point y) (Ordinate a) r is h = absurd (no_some r is)
  row_named n (Point y) (Number t) r is h = absurd (no_some r is)
  row_named n Coords (Abscissa a) r is h = absurd (no_some r is)
  row_named n Coords (Ordinate a) r is h = absurd (no_some r is)
  row_named n Coords (Number t) r is h = absurd (no_some r is)

  -- the polynomial after a move has points below n alone, if that before has
  pub points_kept : (n : ℕ) (move : Move) (left : ℕ) (q r : Summands) → AllVariables (HasPointsBelow n) q → IsMoved (replacement lemma_table c move q) left q r
      → AllVariables (HasPointsBelow n) r
  points_kept n move left q r points moved =
      let rows : List Row = filter_map (lemma_table.row c move) (variables_of q) in
      let each : EachIn (HasPointsBelow n) (variables_of q) = each-variables (HasPointsBelow n) q points in
      let one = some_row (HasPointsBelow n) (lemma_table.row c move) (variables_of q) each moved.replaces in
      let told : NamesNoLater lemma_table c n move one.1 = row_named n move one.0 one.1 one.2 one.3 in
      let numerators : OfNumerators (HasPointsBelow n) rows =
      of-rows (HasPointsBelow n) (lemma_table.row c move) (variables_of q) (λ v r e h. named_points c n r.num.poly (row_named n move v r e h).numerator) each in
      subst (AllVariables (HasPointsBelow n)) (sym moved.result)
      (of-replaced_by (HasPointsBelow n) rows (lemma_table.denominator c move).poly q numerators (named_points c n (lemma_table.denominator c move).poly told.denominator) points)

-- the polynomial on a line
pub line_points : (n : ℕ) (l : Line) (q : Summands) → polynomial_on l ≡ Some q → HasLinePointsBelow n l → AllVariables (HasPointsBelow n) q
line_points n l q e h = subst (λ (o : Option Summands). IfSome o (AllVariables (HasPointsBelow n))) e h
