-- The text of an accepted log.
use Rattle.std.proofs.Common.{◌≡◌, ℕ, suc, ◌+◌, ◌<◌, ◌≤◌, List, [], ◌∷◌, ◌++◌, length, get_or, drop, map, codes, sym, ap, refl, ◌∙◌}
use Rattle.std.proofs.Common.{append_assoc, append-nil, arith}
use Rattle.std.proofs.lemmas.List.{drop_all, drop_more}
use Rattle.std.specs.Fmt.{decimal}
use Rattle.proof_printer.specs.Due.{IsAcceptedText, conditions_text}
use Rattle.proof_printer.specs.Inner.ConditionLines.{condition_line, condition_lines}
use Rattle.geo_conditions.specs.declared.items.Item.{Item}
use Rattle.geo_conditions.specs.Lists.{AreConditionItems, item_form}
use Rattle.geo_lowering.specs.declared.version.Version.TheVariants.{Two}
use Rattle.geo_program.specs.CanonicalText.{canonical_text}
use Rattle.geo_program.specs.WellFormed.{Source}
use Rattle.geo_terms.specs.Stores.{Store}
use Rattle.proof_log.specs.declared.log.Verdict.{Verdict}
use Rattle.proof_log.specs.Lines.{verdict_text}

-- the lines of the items
same_lines : (nodes : Store) (k : ℕ) (items : List Item) → condition_lines k items ≡ conditions_text k (map (item_form nodes) items)
same_lines nodes k [] = refl
same_lines nodes k (item ∷ items) =
    append_assoc (codes "condition " ++ decimal k ++ codes " " ++ item.text) (10 ∷ []) (condition_lines (suc k) items)
    ∙ ap (λ (rest : List ℕ). codes "condition " ++ decimal k ++ codes " " ++ item.text ++ 10 ∷ rest) (same_lines nodes (suc k) items)

-- the text of an accepted log
pub text_of_accepted : (p : Source) (nodes : Store) (items : List Item) (verdict : Verdict) (text : List ℕ) → AreConditionItems Two p (map (item_form nodes) items)
    → text ≡ canonical_text p ++ condition_lines 1 items ++ codes "accepted " ++ verdict_text verdict ++ 10 ∷ [] → IsAcceptedText p verdict text
text_of_accepted p nodes items verdict text are is = record {
  conditions = map (item_form nodes) items;
  listed = are;
  is = is ∙ ap (λ (t : List ℕ). canonical_text p ++ t ++ codes "accepted " ++ verdict_text verdict ++ 10 ∷ []) (same_lines nodes 1 items);
}

-- the line of the next item is written
pub lines_next : (items : List Item) (i : ℕ) (item : Item) (out out' whole : List ℕ) → i < length items → item ≡ get_or items i item
    → out ++ condition_lines (suc i) (drop i items) ≡ whole → out' ≡ out ++ condition_line (i + 1) item.text
    → out' ++ condition_lines (suc (i + 1)) (drop (i + 1) items) ≡ whole
lines_next items i item out out' whole low is before written =
    let rest = condition_lines (suc (i + 1)) (drop (i + 1) items) in
    let next : drop i items ≡ item ∷ drop (i + 1) items = drop_more items i item low ∙ ap (λ (x : Item). x ∷ drop (i + 1) items) (sym is) in
    let one : i + 1 ≡ suc i = omega arith in
    let line : condition_line (i + 1) item.text ++ rest ≡ condition_lines (suc i) (drop i items) =
    ap (λ (n : ℕ). condition_line n item.text ++ condition_lines (suc n) (drop (i + 1) items)) one ∙ ap (condition_lines (suc i)) (sym next) in
    ap (λ (t : List ℕ). t ++ rest) written ∙ append_assoc out (condition_line (i + 1) item.text) rest ∙ ap (λ (t : List ℕ). out ++ t) line ∙ before

-- the lines of all items are written
pub lines_all : (items : List Item) (i : ℕ) (out whole : List ℕ) → length items ≤ i → out ++ condition_lines (suc i) (drop i items) ≡ whole → out ≡ whole
lines_all items i out whole done is =
    let none : condition_lines (suc i) (drop i items) ≡ [] = ap (condition_lines (suc i)) (drop_all i items done) in
    sym (append-nil out) ∙ ap (λ (t : List ℕ). out ++ t) (sym none) ∙ is
