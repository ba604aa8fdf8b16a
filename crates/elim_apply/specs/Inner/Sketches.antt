-- The rows of a move by their numbers alone, before anything is multiplied out.
use Rattle.std.specs.Prelude.{◌≡◌, Option, List, [], map}
use Rattle.std.specs.List.Sorted.{IsStrictlySortedBy}
use Rattle.std.specs.Option.{option_map}
use Rattle.fraction_poly.specs.declared.table.RowNumbers.{RowNumbers}
use Rattle.fraction_poly.specs.TableRows.{row_numbers}
use Rattle.geo_poly.specs.declared.rows.Piece.{Piece}
use Rattle.geo_poly.specs.declared.rows.Row.{Row}
use Rattle.geo_poly.specs.Replace.{row_of}
use Rattle.geo_poly.specs.Variables.{var_cmp}
use Rattle.geo_poly.specs.declared.variables.Var.{Var}
use Rattle.geo_terms.specs.Constructions.{Construction}
use Rattle.geo_logs.specs.declared.moves.Move.{Move}
use Rattle.geo_logs.specs.declared.moves.Replacement.{Replacement}
use Rattle.elim_apply.specs.declared.numbered.NumberedRow.{NumberedRow}
use Rattle.elim_apply.specs.LemmaTable.{row_of_move}

-- a variable with the numbers of the row that the move has for it
abbrev pub numbered_row : Construction → Move → Var → Option NumberedRow
numbered_row c move v = option_map (λ t. record { var = v; numbers = row_numbers t }) (row_of_move c move v)

-- a row of these numbers; its polynomial is not known yet, and 0 stands for it
abbrev pub sketched : NumberedRow → Row
sketched n = record {
  var = n.var;
  power = n.numbers.power;
  num = record { poly = []; weight = n.numbers.wa; count = n.numbers.ka; degree = n.numbers.ga };
}

-- the same of the denominator
abbrev pub sketched_denominator : RowNumbers → Piece
sketched_denominator n = record { poly = []; weight = n.wb; count = n.kb; degree = n.gb }

-- rows of these numbers
abbrev pub sketches : List NumberedRow → List Row
sketches rows = map sketched rows

-- what a move replaces, by these numbers
abbrev pub sketch : List NumberedRow → RowNumbers → Replacement
sketch rows den = record { rows = sketches rows; den = sketched_denominator den; charge = den.charge }

-- the rows that the variables have, each where it has one
abbrev pub AreKnown : List Row → List Var → List (Option NumberedRow) → Type 0
AreKnown rows vars known = map (option_map sketched) known ≡ map (row_of rows) vars

-- the rows are in the order of their variables
abbrev pub AreRising : List NumberedRow → Type 0
AreRising rows = IsStrictlySortedBy var_cmp (map (λ r. r.var) rows)
