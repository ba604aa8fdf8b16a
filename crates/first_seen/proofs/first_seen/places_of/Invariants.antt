use Rattle.std.proofs.Common.{take}
use Rattle.std.specs.BTreeMap.{get}
use Rattle.std.specs.Ordering.{eq_by_cmp}
use Rattle.first_seen.specs.Inner.{ArePlaces}
use Rattle.first_seen.proofs.first_seen.places_of.Given as goal

abbrev pub invariant-loop-i : goal.invariant-loop-i
invariant-loop-i g l = ArePlaces (eq_by_cmp g.K.Ord.cmp) (take l.i l.keys) (get g.K.Ord.cmp l.places)
