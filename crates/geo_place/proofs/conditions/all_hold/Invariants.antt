use Rattle.std.proofs.Common.{take}
use Rattle.std.specs.List.{AllByRecursion}
use Rattle.geo_place.specs.Inner.{IsItemNull}
use Rattle.geo_place.proofs.conditions.all_hold.Given as goal

abbrev pub invariant-loop-item : goal.invariant-loop-item
invariant-loop-item l = AllByRecursion (IsItemNull l.sketch l.terms) (take l.item-index l.goals)
