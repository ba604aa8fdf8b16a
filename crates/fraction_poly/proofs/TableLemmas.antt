-- What the laws of a table say of a row that an implementation of the table has made.
use Rattle.std.proofs.Common.{◌≡◌, ◌≤◌, ◌<◌, ◌^◌, Option, Some, None, refl, sym, subst, ap, IfSome, IsSomeAnd, arith}
use Rattle.std.specs.Option.{option_map}
use Rattle.fraction_poly.specs.declared.table.RowNumbers.{RowNumbers}
use Rattle.fraction_poly.specs.Forms.{piece_of}
use Rattle.fraction_poly.specs.Measures.{capped_number}
use Rattle.fraction_poly.specs.TableRows.{AreLight, HasVariable, IsLight, IsPointMet, IsSound, IsSoundAnywhere, RowFits, RowHolds, RowTable, TableRow, made_row, row_numbers}
use Rattle.fraction_poly.proofs.PieceBounds.{bounded_form}
use Rattle.geo_points.specs.declared.ids.PointId.{PointId}
use Rattle.geo_points.specs.Placements.{Placement}
use Rattle.geo_poly.specs.declared.rows.Piece.{Piece}
use Rattle.geo_poly.specs.declared.rows.Row.{Row}
use Rattle.geo_poly.specs.declared.variables.Var.{Var}
use Rattle.geo_poly.specs.Replace.{IsBounded}
use Rattle.geo_terms.specs.Constructions.{Construction}

-- what holds of each row that a table has, holds of the row where there is one
pub each_row : (o : Option TableRow) (Q : TableRow → Type 0) → ((t : TableRow) → o ≡ Some t → Q t) → IfSome o Q
each_row None Q h = tt
each_row (Some t) Q h = h t refl

module _ (table : RowTable) (c : Construction) (y : PointId) (v : Var) where
  pub light_at : IsLight table → IfSome (table c y v) (λ t. AreLight (row_numbers t))
  light_at light = each_row (table c y v) (λ t. AreLight (row_numbers t)) (λ t e. light c y v t e)

  pub sound_at : IsSound table → (placed : Placement) → IsPointMet placed c y → HasVariable placed v → IfSome (table c y v) (λ t. RowHolds placed (made_row v t).0 (made_row v t).1)
  sound_at sound placed met has = each_row (table c y v) (λ t. RowHolds placed (made_row v t).0 (made_row v t).1) (λ t e. sound c y v t e placed met has)

  pub sound_anywhere_at : IsSoundAnywhere table → (placed : Placement) → HasVariable placed v → IfSome (table c y v) (λ t. RowHolds placed (made_row v t).0 (made_row v t).1)
  sound_anywhere_at sound placed has = each_row (table c y v) (λ t. RowHolds placed (made_row v t).0 (made_row v t).1) (λ t e. sound c y v t e placed has)

-- what is needed of a row that was made
pub of_made : (v : Var) (P : Row × Piece → Type 0) (o : Option TableRow) → IfSome o (λ t. P (made_row v t)) → (r : Row × Piece)
    → IsSomeAnd o RowFits → IfSome o (λ t. r ≡ made_row v t) → P r
of_made v P None h r fits is = absurd fits
of_made v P (Some t) h r fits is = subst P (sym is) h

pub bounded_row : (v : Var) (o : Option TableRow) → IfSome o (λ t. AreLight (row_numbers t)) → (r : Row × Piece) → IsSomeAnd o RowFits → IfSome o (λ t. r ≡ made_row v t)
    → IsBounded r.0.num × IsBounded r.1 × (r.0.power ≤ 2)
bounded_row v o light = of_made v (λ r. IsBounded r.0.num × IsBounded r.1 × (r.0.power ≤ 2)) o (go o light)
  where
    go : (o : Option TableRow) → IfSome o (λ t. AreLight (row_numbers t))
        → IfSome o (λ t. IsBounded (made_row v t).0.num × IsBounded (made_row v t).1 × ((made_row v t).0.power ≤ 2))
    go None h = tt
    go (Some t) h = (bounded_form t.num, bounded_form t.den, h.power)

-- numbers within the bounds are those of a row that fits
pub fits_of_numbers : (o : Option TableRow) (n : RowNumbers) → Some n ≡ option_map row_numbers o → n.wa < 2 ^ 127 → n.ga ≤ 65535 → AreLight n → IsSomeAnd o RowFits
fits_of_numbers None n is weight degree light = absurd (cc)
fits_of_numbers (Some t) n is weight degree light =
    let same : n ≡ row_numbers t = cc in
    let wa : n.wa ≡ capped_number (piece_of t.num).weight = ap (λ (m : RowNumbers). m.wa) same in
    let ga : n.ga ≡ capped_number (piece_of t.num).degree = ap (λ (m : RowNumbers). m.ga) same in
    let wb : n.wb ≡ capped_number (piece_of t.den).weight = ap (λ (m : RowNumbers). m.wb) same in
    let gb : n.gb ≡ capped_number (piece_of t.den).degree = ap (λ (m : RowNumbers). m.gb) same in
    record {
      num = record { weight = omega (arith, wa, weight); degree = omega (arith, ga, degree) };
      den = record { weight = omega (arith, wb, light.weight, weight); degree = omega (arith, gb, light.degree, degree) };
    }
