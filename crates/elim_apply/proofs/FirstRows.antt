-- The first lemma of a ratio is the first one by which a move has a row for it.
use Rattle.std.proofs.Common.{◌≡◌, ℕ, Bool, true, false, cond, Option, Some, None, refl, ap, ◌∙◌}
use Rattle.std.specs.Prelude.{is_some}
use Rattle.std.specs.Option.{option_map}
use Rattle.std.specs.Ordering.{is_eq}
use Rattle.fraction_poly.specs.TableRows.{TableRow, made_row}
use Rattle.geo_points.specs.declared.ids.PointId.{PointId}
use Rattle.geo_poly.specs.declared.variables.Var.{Var}
use Rattle.geo_poly.specs.declared.variables.Var.TheVariants.{R, S, P, X, Y, T}
use Rattle.geo_poly.proofs.Orders.{var_order}
use Rattle.geo_terms.specs.Constructions.{Construction}
use Rattle.geo_logs.specs.declared.moves.Move.TheVariants.{Ratio}
use Rattle.elim_apply.specs.FirstLemmas.{FirstLemmaHasRow}
use Rattle.elim_apply.specs.LemmaTable.{lemma_table}
use Rattle.elim_ratio.specs.RatioTable.{ratio_table}

module _ (c : Construction) (y : PointId) (v : Var) where
  abbrev has_row : ℕ → Bool
  has_row lemma = is_some (lemma_table.row c (Ratio v lemma y) v)

  abbrev fits : ℕ → Bool
  fits lemma = is_some (ratio_table lemma c y v)

  same_some : (o : Option TableRow) → is_some (option_map (λ t. (made_row v t).0) o) ≡ is_some o
  same_some None = refl
  same_some (Some t) = refl

  same : (lemma : ℕ) → has_row lemma ≡ fits lemma
  same lemma =
      ap (λ (b : Bool). is_some (option_map (λ t. (made_row v t).0) (cond b (ratio_table lemma c y v) None))) (ap is_eq (var_order.self v))
      ∙ same_some (ratio_table lemma c y v)

  abbrev first_of : Bool → Bool → Bool → Bool → Bool → Bool → Bool → Option ℕ
  first_of h i j k l m n =
      cond h (Some 11) (cond i (Some 12) (cond j (Some 21) (cond k (Some 22) (cond l (Some 3) (cond m (Some 4) (cond n (Some 0) None))))))

  by_tests : (h i j k l m : Bool) → first_of h i j k l m true ≡ Some (cond h 11 (cond i 12 (cond j 21 (cond k 22 (cond l 3 (cond m 4 0))))))
  by_tests true i j k l m = refl
  by_tests false true j k l m = refl
  by_tests false false true k l m = refl
  by_tests false false false true l m = refl
  by_tests false false false false true m = refl
  by_tests false false false false false true = refl
  by_tests false false false false false false = refl

  first_row : fits 0 ≡ true → first_of (has_row 11) (has_row 12) (has_row 21) (has_row 22) (has_row 3) (has_row 4) (has_row 0)
      ≡ Some (cond (fits 11) 11 (cond (fits 12) 12 (cond (fits 21) 21 (cond (fits 22) 22 (cond (fits 3) 3 (cond (fits 4) 4 0))))))
  first_row zero =
      ap (λ (b : Bool). first_of b (has_row 12) (has_row 21) (has_row 22) (has_row 3) (has_row 4) (has_row 0)) (same 11)
      ∙ ap (λ (b : Bool). first_of (fits 11) b (has_row 21) (has_row 22) (has_row 3) (has_row 4) (has_row 0)) (same 12)
      ∙ ap (λ (b : Bool). first_of (fits 11) (fits 12) b (has_row 22) (has_row 3) (has_row 4) (has_row 0)) (same 21)
      ∙ ap (λ (b : Bool). first_of (fits 11) (fits 12) (fits 21) b (has_row 3) (has_row 4) (has_row 0)) (same 22)
      ∙ ap (λ (b : Bool). first_of (fits 11) (fits 12) (fits 21) (fits 22) b (has_row 4) (has_row 0)) (same 3)
      ∙ ap (λ (b : Bool). first_of (fits 11) (fits 12) (fits 21) (fits 22) (fits 3) b (has_row 0)) (same 4)
      ∙ ap (λ (b : Bool). first_of (fits 11) (fits 12) (fits 21) (fits 22) (fits 3) (fits 4) b) (same 0 ∙ zero)
      ∙ by_tests (fits 11) (fits 12) (fits 21) (fits 22) (fits 3) (fits 4)

pub first_lemma_has_row : FirstLemmaHasRow
first_lemma_has_row c y (R i j d e) ratio = first_row c y (R i j d e) refl
first_lemma_has_row c y (S i j k) ratio = absurd ratio
first_lemma_has_row c y (P i j k) ratio = absurd ratio
first_lemma_has_row c y (X i) ratio = absurd ratio
first_lemma_has_row c y (Y i) ratio = absurd ratio
first_lemma_has_row c y (T t) ratio = absurd ratio
