use Rattle.std.proofs.Common.{[], arith}
use Rattle.std.specs.List.Sorted.{IsStrictlySortedBy}
use Rattle.mono_store.specs.Stores.{Store}
use Rattle.geo_poly.specs.Shared.{IsShared}
use Rattle.geo_poly.proofs.poly.Poly.zero.Goals as goal

nothing : (store : Store) → IsShared [] store []
unfolding IsStrictlySortedBy
nothing store = record { rising = tt; indices = tt; polynomial = record { in_order = tt; monomials = tt; norm_fits = omega arith } }

pub invariant_of-result : goal.invariant_of-result
invariant_of-result c = rw (c.new.ensures.items, c.new-3.ensures.items) (nothing c.new-2.result)
