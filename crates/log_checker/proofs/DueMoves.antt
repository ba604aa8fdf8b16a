-- Moves on a polynomial that names points of the construction alone.
use Rattle.std.proofs.Common.{◌≡◌, ℕ, Option, Some, None, List, [], ◌∷◌, ◌∙◌, ap, refl}
use Rattle.std.specs.List.{cons_option, filter_map}
use Rattle.geo_poly.specs.declared.rows.Row.{Row}
use Rattle.geo_poly.specs.declared.variables.Var.{Var}
use Rattle.geo_poly.specs.declared.variables.Var.TheVariants.{R, S, P, X as Abscissa, Y as Ordinate, T as Number}
use Rattle.geo_poly.specs.Polynomials.{Summands}
use Rattle.geo_poly.specs.PolynomialVariables.{AllVariables, variables_of}
use Rattle.geo_poly.proofs.EachVariable.{EachIn, each-variables, of-both}
use Rattle.geo_terms.specs.Constructions.{Construction, IsConstruction}
use Rattle.fraction_poly.specs.TableRows.{HasPointsBelow}
use Rattle.elim_apply.specs.LemmaTable.{lemma_table}
use Rattle.elim_apply.proofs.MoveRows.{lemma_table_sound}
use Rattle.geo_logs.specs.declared.moves.Move.{Move}
use Rattle.geo_logs.specs.Moves.{place_of, replacement}
use Rattle.geo_logs.specs.Naming.{IsNamed, IsPlaceBelow}

module _ (c : Construction) where
  module _ (valid : IsConstruction c) (n : ℕ) (move : Move) (past : IsPlaceBelow n (place_of move) → ⊥) where
    no_row : (v : Var) (o : Option Row) → lemma_table.row c move v ≡ o → IsNamed c n v → o ≡ None
    no_row v None e h = refl
    no_row v (Some r) e h = absurd (past ((lemma_table_sound c valid).named n move v r e h).place)

    no_rows : (vs : List Var) → EachIn (IsNamed c n) vs → filter_map (lemma_table.row c move) vs ≡ []
    no_rows [] h = refl
    no_rows (v ∷ vs) h =
        ap (λ o. cons_option o (filter_map (lemma_table.row c move) vs)) (no_row v (lemma_table.row c move v) refl h.0) ∙ no_rows vs h.1

    -- a move that looks at a point past the last one replaces nothing
    pub nothing_past : (q : Summands) → AllVariables (IsNamed c n) q → (replacement lemma_table c move q).rows ≡ []
    nothing_past q h = no_rows (variables_of q) (each-variables (IsNamed c n) q h)
