-- All rows of a move have the move's denominator and its charge.
use Rattle.std.specs.Prelude.{slice_get, IfSome}
use Rattle.std.specs.Option.{option_and_then, option_map}
use Rattle.std.proofs.Common.{◌≡◌, ◌&&◌, Bool, true, false, cond, Option, Some, None, refl, sym, subst}
use Rattle.fraction_poly.specs.Forms.{Form, integer}
use Rattle.fraction_poly.specs.StepForms.{step_charge, step_row}
use Rattle.fraction_poly.specs.TableRows.{TableRow}
use Rattle.geo_points.specs.declared.ids.PointId.{PointId}
use Rattle.geo_poly.specs.declared.variables.Var.{Var}
use Rattle.geo_poly.specs.declared.variables.Var.TheVariants.{R, S, P, X, Y, T}
use Rattle.geo_terms.specs.declared.steps.Step.{Step}
use Rattle.geo_terms.specs.declared.steps.Step.TheVariants.{Pratio, Point as FreeStep, Inter, Foot, Tratio, Weights}
use Rattle.geo_terms.specs.Constructions.{Construction}
use Rattle.area_coords.specs.FreeTable.{area_in_coordinates, difference_in_coordinates, free_table, is_free}
use Rattle.elim_area.specs.AreaTable.{area_numerator, area_table, points_after}
use Rattle.elim_pyth.specs.declared.pyth_rows.Reading.{Reading}
use Rattle.elim_pyth.specs.declared.pyth_rows.Reading.TheVariants.{Linear, Quadratic}
use Rattle.elim_pyth.specs.DifferenceTable.{difference_row, difference_table, linear_numerator, reading}
use Rattle.elim_ratio.specs.RatioTable.{ratio_table}
use Rattle.geo_logs.specs.declared.moves.Move.{Move}
use Rattle.geo_logs.specs.declared.moves.Move.TheVariants.{Ratio, Point, Coords}
use Rattle.elim_apply.specs.LemmaTable.{move_denominator, number_charge, point_charge, row_charge, row_of_move}
use Rattle.elim_apply.specs.Multiples.{TableDenominatorsAgree}
use Rattle.elim_apply.proofs.LemmaTableSound.{by_own, move_den, some_of}
use Rattle.elim_apply.proofs.RowVariables.{quadratic_row}

own_charge : (o : Option TableRow) → IfSome o (λ t. t.charge ≡ row_charge o)
own_charge None = tt
own_charge (Some t) = refl

module _ (c : Construction) where
  mapped_charge : (step : Step) (o : Option Form) → IfSome (option_map (step_row c.nodes step 1) o) (λ t. t.charge ≡ step_charge c.nodes step)
  mapped_charge step None = tt
  mapped_charge step (Some num) = refl

  area_charge : (y i j k : PointId) → IfSome (area_table c y (S i j k)) (λ t. t.charge ≡ point_charge c (slice_get c.steps y.0))
  area_charge y i j k = go (slice_get c.steps y.0)
    where
      after : (step : Step) (o : Option (PointId × PointId))
          → IfSome (option_and_then (λ (ab : PointId × PointId). option_map (step_row c.nodes step 1) (area_numerator c.nodes step ab.0 ab.1)) o) (λ t. t.charge ≡ step_charge c.nodes step)
      after step None = tt
      after step (Some ab) = mapped_charge step (area_numerator c.nodes step ab.0 ab.1)

      go : (o : Option Step)
          → IfSome (option_and_then (λ step. option_and_then
          (λ ab. option_map (step_row c.nodes step 1) (area_numerator c.nodes step ab.0 ab.1)) (points_after y i j k)) o)
          (λ t. t.charge ≡ point_charge c o)
      go None = tt
      go (Some step) = after step (points_after y i j k)

  quadratic_charge : (step : Step) (a b : PointId) → IfSome (quadratic_row c.nodes step a b) (λ t. t.charge ≡ step_charge c.nodes step)
  quadratic_charge FreeStep a b = tt
  quadratic_charge (Inter u v p q) a b = refl
  quadratic_charge (Foot p u v) a b = refl
  quadratic_charge (Pratio w u v r) a b = refl
  quadratic_charge (Tratio u v r) a b = refl
  quadratic_charge (Weights o u v r s) a b = refl

  difference_charge : (y i j k : PointId) → IfSome (difference_table c y (P i j k)) (λ t. t.charge ≡ point_charge c (slice_get c.steps y.0))
  difference_charge y i j k = go (slice_get c.steps y.0)
    where
      after : (step : Step) (o : Option Reading) → IfSome (option_and_then (difference_row c.nodes step) o) (λ t. t.charge ≡ step_charge c.nodes step)
      after step None = tt
      after step (Some (Linear a b)) = mapped_charge step (linear_numerator c.nodes step a b)
      after step (Some (Quadratic a b)) = quadratic_charge step a b

      go : (o : Option Step) → IfSome (option_and_then (λ step. option_and_then (difference_row c.nodes step) (reading y i j k)) o) (λ t. t.charge ≡ point_charge c o)
      go None = tt
      go (Some step) = after step (reading y i j k)

  free_charge : (y : PointId) (v : Var) → IfSome (free_table c y v) (λ t. t.charge ≡ 0)
  free_charge y (S i j k) = go (is_free c i && is_free c j && is_free c k)
    where
      go : (b : Bool) → IfSome (cond {A = Option TableRow} b (Some (record { power = 1; num = area_in_coordinates i j k; den = integer 2; charge = 0 })) None) (λ (t : TableRow). t.charge ≡ 0)
      go true = refl
      go false = tt
  free_charge y (P i j k) = go (is_free c i && is_free c j && is_free c k)
    where
      go : (b : Bool) → IfSome (cond {A = Option TableRow} b (Some (record { power = 0; num = difference_in_coordinates i j k; den = integer 2; charge = 0 })) None) (λ (t : TableRow). t.charge ≡ 0)
      go true = refl
      go false = tt
  free_charge y (R i j k l) = tt
  free_charge y (X i) = tt
  free_charge y (Y i) = tt
  free_charge y (T t) = tt

  pub row_charges : (move : Move) (v : Var) → IfSome (row_of_move c move v) (λ t. t.charge ≡ number_charge c move)
  row_charges (Ratio w lemma at) v =
      by_own c w v lemma at (λ t. t.charge ≡ row_charge (ratio_table lemma c at w))
      (λ same. subst (λ (x : Var). IfSome (ratio_table lemma c at v) (λ t. t.charge ≡ row_charge (ratio_table lemma c at x))) (sym same) (own_charge (ratio_table lemma c at v)))
  row_charges (Point y) (S i j k) = area_charge y i j k
  row_charges (Point y) (P i j k) = difference_charge y i j k
  row_charges (Point y) (R i j k l) = tt
  row_charges (Point y) (X i) = tt
  row_charges (Point y) (Y i) = tt
  row_charges (Point y) (T t) = tt
  row_charges Coords v = free_charge (record { 0 = 0 }) v

pub denominators_agree : TableDenominatorsAgree
denominators_agree c move v row is = (
  some_of (row_of_move c move v) row (λ t. t.den ≡ move_denominator c move) is (move_den c move v),
  some_of (row_of_move c move v) row (λ t. t.charge ≡ number_charge c move) is (row_charges c move v),
)
