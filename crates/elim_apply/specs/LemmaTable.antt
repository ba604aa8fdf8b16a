-- The lemma table as moves use it.
use Rattle.std.specs.Prelude.{ℕ, Option, Some, None, slice_get, if◌then◌else◌}
use Rattle.std.specs.Option.{option_map}
use Rattle.std.specs.Ordering.{is_eq}
use Rattle.fraction_poly.specs.Forms.{Form, integer, piece_of}
use Rattle.fraction_poly.specs.StepForms.{step_charge, step_denominator}
use Rattle.fraction_poly.specs.TableRows.{TableRow, made_row}
use Rattle.geo_poly.specs.declared.variables.Var.{Var}
use Rattle.geo_poly.specs.declared.variables.Var.TheVariants.{S, P}
use Rattle.geo_poly.specs.Variables.{var_cmp}
use Rattle.geo_terms.specs.declared.steps.Step.{Step}
use Rattle.geo_terms.specs.Constructions.{Construction, IsConstruction}
use Rattle.geo_logs.specs.declared.moves.Move.{Move}
use Rattle.geo_logs.specs.declared.moves.Move.TheVariants.{Ratio, Point, Coords}
use Rattle.elim_area.specs.AreaTable.{area_table}
use Rattle.elim_pyth.specs.DifferenceTable.{difference_table}
use Rattle.area_coords.specs.FreeTable.{free_table}
use Rattle.geo_logs.specs.Moves.{Table}
use Rattle.elim_ratio.specs.RatioTable.{first_lemma, ratio_table}
use Rattle.geo_logs.specs.Sound.{IsSoundTable}

-- the row of a variable that a move replaces
abbrev pub row_of_move : Construction → Move → Var → Option TableRow
row_of_move c (Ratio w lemma at) v = if is_eq (var_cmp w v) then ratio_table lemma c at v else None
row_of_move c (Point y) (S a b d) = area_table c y (S a b d)
row_of_move c (Point y) (P a b d) = difference_table c y (P a b d)
row_of_move c (Point y) _ = None
row_of_move c Coords v = free_table c (record { 0 = 0 }) v

-- the denominator of a row, and 1 where there is none
abbrev pub row_denominator : Option TableRow → Form
row_denominator None = integer 1
row_denominator (Some r) = r.den

-- the denominator of a point's rows, and 1 where no step makes the point
abbrev pub point_denominator : Construction → Option Step → Form
point_denominator c None = integer 1
point_denominator c (Some step) = step_denominator c.nodes step

-- the denominator of a move
abbrev pub move_denominator : Construction → Move → Form
move_denominator c (Ratio w lemma at) = row_denominator (ratio_table lemma c at w)
move_denominator c (Point y) = point_denominator c (slice_get c.steps y.0)
move_denominator c Coords = integer 2

-- the charge of a row
abbrev pub row_charge : Option TableRow → ℕ
row_charge None = 0
row_charge (Some r) = r.charge

-- the charge of a point's step
abbrev pub point_charge : Construction → Option Step → ℕ
point_charge c None = 0
point_charge c (Some step) = step_charge c.nodes step

-- the charge of the number of a move's step
abbrev pub number_charge : Construction → Move → ℕ
number_charge c (Ratio w lemma at) = row_charge (ratio_table lemma c at w)
number_charge c (Point y) = point_charge c (slice_get c.steps y.0)
number_charge c Coords = 0

-- the lemma table
abbrev pub lemma_table : Table
lemma_table = record {
  row = λ c move v. option_map (λ r. (made_row v r).0) (row_of_move c move v);
  denominator = λ c move. piece_of (move_denominator c move);
  charge = number_charge;
  first_lemma = first_lemma;
}

-- THE ROWS ARE SOUND
-- the lemma table of a construction is sound as moves use it
abbrev pub LemmaTableIsSound : Type 0
LemmaTableIsSound = (c : Construction) → IsConstruction c → IsSoundTable lemma_table c
