-- Rows that are kept.
use Rattle.std.proofs.Common.{◌≡◌, ◌∷◌, ◌++◌, [], ℕ, Option, Some, None, List, map, sym, ap, ap₂, subst, ◌∙◌}
use Rattle.std.proofs.lemmas.List.{map-append}
use Rattle.std.specs.Prelude.{All, IfSome, IsSomeAnd, slice_get}
use Rattle.std.specs.Option.{option_map}
use Rattle.std.proofs.lemmas.Option.{get_or_from_slice_get, slice_get_within}
use Rattle.fraction_poly.specs.declared.drafts.RowDraft.{RowDraft}
use Rattle.fraction_poly.specs.declared.table.RowNumbers.{RowNumbers}
use Rattle.fraction_poly.specs.Forms.{piece_of}
use Rattle.fraction_poly.specs.Inner.Drafts.{HasItsNumbers, row_of_draft}
use Rattle.fraction_poly.specs.TableRows.{RowFits, TableRow, made_row, row_numbers}
use Rattle.geo_poly.specs.declared.rows.Piece.{Piece}
use Rattle.geo_poly.specs.declared.rows.Row.{Row}
use Rattle.geo_poly.specs.declared.variables.Var.{Var}
use Rattle.geo_terms.specs.Constructions.{Construction}
use Rattle.geo_logs.specs.declared.moves.Move.{Move}
use Rattle.elim_apply.specs.declared.kept_row.KeptRow.{KeptRow}
use Rattle.elim_apply.specs.Kept.{IsKept}
use Rattle.elim_apply.specs.LemmaTable.{lemma_table, row_of_move}
use Rattle.elim_apply.proofs.TableCharges.{denominators_agree}

module _ (c : Construction) (move : Move) (v : Var) (t : TableRow) (is : row_of_move c move v ≡ Some t) where
  -- what is made of the row is the row of the table, over its denominator
  pub made_is : (r : Row) → r ≡ (made_row v t).0 → lemma_table.row c move v ≡ Some r
  made_is r e = ap (option_map (λ t. (made_row v t).0)) is ∙ ap (λ (r : Row). let o : Option Row = Some r in o) (sym e)

  pub den_is : (f : Piece) → f ≡ piece_of t.den → f ≡ lemma_table.denominator c move
  den_is f e = e ∙ ap piece_of (denominators_agree c move v t is).0

  pub row_fits : IsSomeAnd (row_of_move c move v) RowFits → RowFits t
  row_fits h = subst (λ (o : Option TableRow). IsSomeAnd o RowFits) is h

-- a row that is handed over
pub row_pushed : (before after : List Row) (r : Row) (o : Option Row) → after ≡ before ++ r ∷ [] → o ≡ Some r → map Some after ≡ map Some before ++ o ∷ []
row_pushed before after r o pushed is = ap (map Some) pushed ∙ map-append Some before (r ∷ []) ∙ ap (λ (o : Option Row). map Some before ++ o ∷ []) (sym is)

-- the kept row at a place
pub kept_at : (c : Construction) (rows : List KeptRow) (i : ℕ) (kept : KeptRow) → slice_get rows i ≡ Some kept → All (IsKept c) rows → IsKept c kept
kept_at c rows i kept at all = subst (IsKept c) (get_or_from_slice_get rows i kept kept at) (all i kept (slice_get_within rows i kept at))

module _ (c : Construction) (kept : KeptRow) (k : IsKept c kept) where
  -- what is put into it or taken out
  pub with_made : (o : Option Row) → IfSome o (λ r. lemma_table.row c kept.mv kept.var ≡ Some r)
      → IsKept c (record { mv = kept.mv; var = kept.var; draft = kept.draft; numbers = kept.numbers; made = o; den = kept.den })
  with_made o h = record { row = k.row; stored = k.stored; numbers = k.numbers; made = h; den = k.den }

  pub with_den : (o : Option Piece) → IfSome o (λ f. f ≡ lemma_table.denominator c kept.mv)
      → IsKept c (record { mv = kept.mv; var = kept.var; draft = kept.draft; numbers = kept.numbers; made = kept.made; den = o })
  with_den o h = record { row = k.row; stored = k.stored; numbers = k.numbers; made = k.made; den = h }

  -- the row of the same move and variable
  pub its_row : (move : Move) (v : Var) (o : Option Row) → kept.mv ≡ move → kept.var ≡ v → lemma_table.row c move v ≡ o → lemma_table.row c kept.mv kept.var ≡ o
  its_row move v o m e h = ap₂ (λ (m : Move) (v : Var). lemma_table.row c m v) m e ∙ h

-- a row that is drafted
module _ (c : Construction) (move : Move) (v : Var) (o : Option RowDraft) (is : option_map (row_of_draft c.nodes) o ≡ row_of_move c move v) where
  pub drafted : (draft : RowDraft) → o ≡ Some draft → row_of_move c move v ≡ Some (row_of_draft c.nodes draft)
  drafted draft e = sym is ∙ ap (option_map (row_of_draft c.nodes)) e

  pub drafted_numbers : (draft : RowDraft) → o ≡ Some draft → (n : RowNumbers) → n ≡ row_numbers (row_of_draft c.nodes draft)
      → Some n ≡ option_map row_numbers (row_of_move c move v)
  drafted_numbers draft e n h =
      ap (λ (n : RowNumbers). let o : Option RowNumbers = Some n in o) h ∙ sym (ap (option_map row_numbers) (drafted draft e))

  pub drafted_kept : (draft : RowDraft) → o ≡ Some draft → HasItsNumbers c.nodes draft → (n : RowNumbers) → n ≡ row_numbers (row_of_draft c.nodes draft)
      → IsKept c (record { mv = move; var = v; draft = draft; numbers = n; made = None; den = None })
  drafted_kept draft e stored n h = record { row = drafted draft e; stored = stored; numbers = h; made = tt; den = tt }
