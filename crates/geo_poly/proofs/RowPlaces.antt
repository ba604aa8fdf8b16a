-- The places of rows, found from the last row to the first.
use Rattle.std.proofs.Common.{◌≡◌, ℕ, ◌+◌, ◌<◌, Bool, true, false, cond, Some, List, drop, length, get_or, sym, ap, ◌∙◌}
use Rattle.std.specs.Prelude.{slice_get}
use Rattle.std.specs.BTreeMap.{BTreeMap, Updates, get}
use Rattle.std.specs.Option.{option_and_then}
use Rattle.std.specs.Ordering.{is_eq}
use Rattle.std.proofs.lemmas.Option.{slice_get-get_or}
use Rattle.sparse_lists.proofs.Merging.{drop_at, get_or_any}
use Rattle.geo_poly.specs.declared.variables.Var.{Var}
use Rattle.geo_poly.specs.declared.rows.Row.{Row}
use Rattle.geo_poly.specs.Replace.{row_of}
use Rattle.geo_poly.specs.Variables.{var_cmp}

-- the places of the first rows among those from the k-th on
abbrev pub AreFirstFrom : List Row → BTreeMap Var ℕ → ℕ → Type 0
AreFirstFrom rows places k = (v : Var) → option_and_then (slice_get rows) (get var_cmp places v) ≡ row_of (drop k rows) v

-- one more row in front
pub front_row : (rows : List Row) (n k : ℕ) (d : Row) (old new : BTreeMap Var ℕ) → k < length rows → n ≡ k + 1
    → Updates var_cmp old new (get_or rows k d).var (Some k) → AreFirstFrom rows old n → AreFirstFrom rows new k
front_row rows n k d old new inside next update so_far v =
    ap (option_and_then (slice_get rows)) (update.0 v) ∙ go (is_eq (var_cmp (get_or rows k d).var v))
    ∙ ap (λ (rs : List Row). row_of rs v) (sym (drop_at rows k (get_or rows k d) inside (get_or_any rows k d (get_or rows k d) inside)))
  where
    go : (b : Bool) → option_and_then (slice_get rows) (cond b (Some k) (get var_cmp old v)) ≡ cond b (Some (get_or rows k d)) (row_of (drop (k + 1) rows) v)
    go true = slice_get-get_or rows k d inside
    go false = so_far v ∙ ap (λ (i : ℕ). row_of (drop i rows) v) next

-- the row at a place is the first of a variable where none before it is
pub first_at : (rows : List Row) (i : ℕ) (d : Row) (v : Var) → i < length rows → is_eq (var_cmp (get_or rows i d).var v) ≡ true
    → row_of (drop i rows) v ≡ row_of rows v → slice_get rows i ≡ row_of rows v
first_at rows i d v inside same so_far =
    slice_get-get_or rows i d inside
    ∙ sym (ap (λ (b : Bool). cond b (Some (get_or rows i d)) (row_of (drop (i + 1) rows) v)) same)
    ∙ sym (ap (λ (rs : List Row). row_of rs v) (drop_at rows i (get_or rows i d) inside (get_or_any rows i d (get_or rows i d) inside)))
    ∙ so_far
