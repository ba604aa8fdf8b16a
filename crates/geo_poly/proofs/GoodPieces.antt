-- The pieces of a replacement keep their bounds.
use Rattle.std.proofs.Common.{ℕ, zero, suc, List, [], ◌∷◌}
use Rattle.geo_poly.specs.declared.rows.Piece.{Piece}
use Rattle.geo_poly.specs.declared.rows.Row.{Row}
use Rattle.geo_poly.specs.declared.settings.Setting.{Setting}
use Rattle.geo_poly.specs.declared.variables.Var.{Var}
use Rattle.geo_poly.specs.Inner.Factored.{numerator_at, piece_of, pieces_of}
use Rattle.geo_poly.specs.Inner.Settings.{AreStoredUnder, IsSetUnder}
use Rattle.geo_poly.specs.Keys.{Keys}
use Rattle.geo_poly.specs.Replace.{AllBounded}
use Rattle.geo_poly.specs.Shared.{Indices}
use Rattle.geo_poly.proofs.FactoredTerms.{AllGood, IsGood}

good_numerator : (vars : List Var) (keys : Keys) (rows : List Row) (lists : List Indices) (den : Piece) → IsGood den → AllBounded rows
    → AreStoredUnder vars keys rows lists → (i : ℕ) → IsGood (numerator_at rows den i)
good_numerator vars keys [] lists den good bounded stored i = good
good_numerator vars keys (r ∷ rows) [] den good bounded stored i = absurd stored
good_numerator vars keys (r ∷ rows) (l ∷ lists) den good bounded stored zero = record { bounded = bounded.0; polynomial = stored.0.polynomial }
good_numerator vars keys (r ∷ rows) (l ∷ lists) den good bounded stored (suc i) = good_numerator vars keys rows lists den good bounded.1 stored.1 i

module _ (setting : Setting) (keys : Keys) (set : IsSetUnder setting keys) where
  good_den : IsGood setting.den.piece.now
  good_den = record { bounded = set.den_bounded; polynomial = set.den_stored.polynomial }

  pub good_piece : (k : ℕ) → IsGood (piece_of setting.rows.now setting.den.piece.now k)
  good_piece zero = good_den
  good_piece (suc i) =
      good_numerator setting.vars.now keys setting.rows.now setting.nums.now setting.den.piece.now good_den set.rows_bounded set.rows_stored i

  pub good_pieces : (ks : List ℕ) → AllGood (pieces_of setting.rows.now setting.den.piece.now ks)
  good_pieces [] = tt
  good_pieces (k ∷ ks) = (good_piece k, good_pieces ks)
