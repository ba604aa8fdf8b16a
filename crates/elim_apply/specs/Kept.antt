-- The rows of moves that are kept.
use Rattle.std.specs.Prelude.{◌≡◌, Some, All, IfSome, IsSomeAnd, length}
use Rattle.fraction_poly.specs.Inner.Drafts.{HasItsNumbers, row_of_draft}
use Rattle.fraction_poly.specs.Inner.Known.{IsKnownOf}
use Rattle.fraction_poly.specs.TableRows.{HasPointsBelow, RowFits, row_numbers}
use Rattle.geo_poly.specs.declared.rows.Row.{Row}
use Rattle.geo_poly.specs.declared.variables.Var.{Var}
use Rattle.geo_terms.specs.Constructions.{Construction}
use Rattle.geo_logs.specs.declared.moves.Move.{Move}
use Rattle.elim_apply.specs.declared.kept_row.KeptRow.{KeptRow}
use Rattle.elim_apply.specs.declared.kept_rows.KnownRows.{KnownRows}
use Rattle.elim_apply.specs.LemmaTable.{lemma_table, row_of_move}

-- the row is the one that the move has for its variable
abbrev pub IsRowOf : Construction → Move → Row → Type 0
IsRowOf c move r = lemma_table.row c move r.var ≡ Some r

-- the kept row is the one that its move has for its variable
pub record IsKept (c : Construction) (kept : KeptRow) : Type 0 where
  pub row : row_of_move c kept.mv kept.var ≡ Some (row_of_draft c.nodes kept.draft)
  pub stored : HasItsNumbers c.nodes kept.draft
  pub numbers : kept.numbers ≡ row_numbers (row_of_draft c.nodes kept.draft)
  pub made : IfSome kept.made (λ r. lemma_table.row c kept.mv kept.var ≡ Some r)
  pub den : IfSome kept.den (λ f. f ≡ lemma_table.denominator c kept.mv)

-- what is known of a construction is true
pub record AreKnownRows (c : Construction) (known : KnownRows) : Type 0 where
  pub numbers : IsKnownOf c.nodes known.numbers
  pub rows : All (IsKept c) known.rows.items

-- the move has a row for the variable, and it may be multiplied out
abbrev pub CanBeMade : Construction → Move → Var → Type 0
CanBeMade c move v = HasPointsBelow (length c.steps) v × IsSomeAnd (row_of_move c move v) RowFits
