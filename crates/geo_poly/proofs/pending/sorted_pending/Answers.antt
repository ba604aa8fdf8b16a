use Rattle.std.proofs.Common.{List, map, subst, ap₂, ◌∙◌}
use Rattle.std.specs.List.Sorted.{IsPermutation}
use Rattle.std.proofs.lemmas.List.Sorted.{IsPermutation-map}
use Rattle.geo_poly.specs.Inner.Factored.{Numbered, numbered_of, numbered_terms}
use Rattle.geo_poly.proofs.pending.sorted_pending.Goals as goal

pub returns : goal.returns
returns c =
    let es = c.in_ok-pending.pending.items in
    let sorted = c.put_in_order.new.pending.items in
    let listed = c.in_ok-pending.ensures ∙ ap₂ numbered_terms c.deref-2.ensures.value c.deref.ensures.value in
    subst (λ (ts : List Numbered). IsPermutation ts (map numbered_of sorted)) listed (IsPermutation-map numbered_of es sorted c.put_in_order.ensures)
