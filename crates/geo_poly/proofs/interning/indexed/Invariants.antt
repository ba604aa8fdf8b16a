use Rattle.std.proofs.Common.{◌≡◌, map, take}
use Rattle.geo_poly.specs.Chained.{indexed_pair}
use Rattle.geo_poly.proofs.interning.indexed.Given as goal

abbrev pub invariant-loop-key : goal.invariant-loop-key
invariant-loop-key l = l.list.items ≡ map indexed_pair (take l.key-index l.pairs)
