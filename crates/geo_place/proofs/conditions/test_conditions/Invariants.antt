use Rattle.std.proofs.Common.{take}
use Rattle.std.specs.List.{AllByRecursion}
use Rattle.geo_place.specs.Inner.{IsItemMet}
use Rattle.geo_place.proofs.conditions.test_conditions.Given as goal

abbrev pub invariant-loop-k : goal.invariant-loop-k
invariant-loop-k l = AllByRecursion (IsItemMet l.sketch l.terms) (take l.k l.items)
