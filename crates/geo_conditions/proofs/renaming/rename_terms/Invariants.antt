use Rattle.std.proofs.Common.{◌≡◌, length}
use Rattle.geo_lowering.specs.Inner.Renaming.{AreRenamed}
use Rattle.geo_conditions.specs.Inner.ItemTerms.{Keeps, terms_layout}
use Rattle.geo_conditions.proofs.renaming.rename_terms.Given as goal

-- the first terms are renamed, and all that was there stays
abbrev pub invariant-loop-k : goal.invariant-loop-k
invariant-loop-k l =
    (length l.items.items ≡ l.k)
    × AreRenamed (terms_layout l.points l.params) l.terms l.steps.nodes l.items.items
    × Keeps l.initial.steps l.steps
