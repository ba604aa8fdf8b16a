use Rattle.std.proofs.Common.{◌≡◌, length}
use Rattle.geo_lowering.specs.Parts.{layout_at}
use Rattle.geo_lowering.specs.Inner.Renaming.{AreRenamed}
use Rattle.geo_lowering.proofs.renaming.rename_terms.Given as goal

-- the first terms are renamed
abbrev pub invariant-loop-k : goal.invariant-loop-k
invariant-loop-k l =
    (length l.items.items ≡ l.k)
    × AreRenamed (layout_at l.places) l.terms l.steps.nodes l.items.items
    × (l.steps.steps ≡ l.initial.steps.steps)
    × (l.steps.params ≡ l.initial.steps.params)
