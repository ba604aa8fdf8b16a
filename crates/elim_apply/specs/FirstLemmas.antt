-- The lemma by which a ratio goes.
use Rattle.std.specs.Prelude.{◌≡◌, ℕ, Some, List, [], ◌∷◌, find, is_some}
use Rattle.geo_points.specs.declared.ids.PointId.{PointId}
use Rattle.geo_poly.specs.declared.variables.Var.{Var}
use Rattle.geo_poly.specs.PolynomialVariables.{IsRatio}
use Rattle.geo_terms.specs.Constructions.{Construction}
use Rattle.geo_logs.specs.declared.moves.Move.TheVariants.{Ratio}
use Rattle.elim_apply.specs.LemmaTable.{lemma_table}
use Rattle.elim_ratio.specs.RatioTable.{first_lemma}

-- the lemmas for ratios, in the order in which they are tried
abbrev pub lemmas : List ℕ
lemmas = 11 ∷ 12 ∷ 21 ∷ 22 ∷ 3 ∷ 4 ∷ 0 ∷ []

-- the first lemma of a ratio is the first one in this order by which a move has a row for it
abbrev pub FirstLemmaHasRow : Type 0
FirstLemmaHasRow =
    (c : Construction) (y : PointId) (v : Var) → IsRatio v
    → find (λ lemma. is_some (lemma_table.row c (Ratio v lemma y) v)) lemmas ≡ Some (first_lemma c y v)
