-- The rows of a move whose line is within its limits.
use Rattle.std.proofs.Common.{◌≡◌, ℕ, ◌^◌, ◌<◌, ◌≤◌, Option, Some, None, List, [], ◌∷◌, sym, ap, arith}
use Rattle.std.specs.Prelude.{IfSome}
use Rattle.std.specs.List.{filter_map}
use Rattle.std.specs.Option.{option_map}
use Rattle.fraction_poly.specs.TableRows.{TableRow, made_row}
use Rattle.geo_poly.specs.declared.rows.Row.{Row}
use Rattle.geo_poly.specs.declared.variables.Var.{Var}
use Rattle.geo_poly.specs.Polynomials.{Summands, IsPolynomial}
use Rattle.geo_poly.specs.PolynomialVariables.{variables_of}
use Rattle.geo_poly.specs.Replace.{replaced_degree, replaced_weight, row_of}
use Rattle.geo_poly.proofs.EachVariable.{EachIn, each-variables}
use Rattle.geo_terms.specs.Constructions.{Construction}
use Rattle.geo_logs.specs.declared.moves.Move.{Move}
use Rattle.elim_apply.specs.LemmaTable.{lemma_table, row_of_move}
use Rattle.elim_apply.proofs.LineBounds.{RowWithin, Within, line_within, rows_each}
use Rattle.elim_apply.proofs.NumberedRows.{HasFittingRow, NumeratorFits, denominator_bounded, rows_bounded}

module _ (c : Construction) (move : Move) where
  abbrev row : Var → Option Row
  row v = lemma_table.row c move v

  -- a row is one of its variable
  own : (v : Var) (r : Row) → row v ≡ Some r → r.var ≡ v
  own v r = go (row_of_move c move v)
    where
      go : (o : Option TableRow) → option_map (λ t. (made_row v t).0) o ≡ Some r → r.var ≡ v
      go None e = absurd (let q : ◌≡◌ {A = Option Row} None (Some r) = e in cc)
      go (Some t) e = let same : (made_row v t).0 ≡ r = cc in ap (λ (x : Row). x.var) (sym same)

  module _ (q : Summands) (valid : IsPolynomial q) where
    abbrev rows : List Row
    rows = filter_map row (variables_of q)

    some_fits : (most top : ℕ) (o : Option Row) → most < 2 ^ 127 → top ≤ 65535 → IfSome o (λ r. RowWithin rows (rows_bounded c move (variables_of q)) most top r) → IfSome o (NumeratorFits c move)
    some_fits most top None h g w = tt
    some_fits most top (Some r) h g w = record { weight = omega (arith, h, w.weight); degree = omega (arith, g, w.degree) }

    each_fits : (most top : ℕ) → most < 2 ^ 127 → top ≤ 65535 → (vs : List Var) → EachIn (Within rows (rows_bounded c move (variables_of q)) most top) vs
        → EachIn (λ v. IfSome (row_of rows v) (NumeratorFits c move)) vs
    each_fits most top h g [] w = tt
    each_fits most top h g (v ∷ vs) w = (some_fits most top (row_of rows v) h g w.0, each_fits most top h g vs w.1)

    -- each row of the line is within the bounds of a polynomial
    pub fitting : replaced_weight rows (lemma_table.denominator c move) q < 2 ^ 127 → replaced_degree rows (lemma_table.denominator c move) q ≤ 65535 → EachIn (HasFittingRow c move) (variables_of q)
    fitting weight degree =
        let bounded = rows_bounded c move (variables_of q) in
        let most = replaced_weight rows (lemma_table.denominator c move) q in
        let top = replaced_degree rows (lemma_table.denominator c move) q in
        rows_each row own (NumeratorFits c move) (variables_of q)
        (each_fits most top weight degree (variables_of q)
        (each-variables (Within rows bounded most top) q
        (line_within rows bounded (lemma_table.denominator c move) (denominator_bounded c move) q valid)))
