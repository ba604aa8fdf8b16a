use Rattle.std.proofs.Common.{◌≡◌, ◌≤◌, ◌++◌, length, map}
use Rattle.geo_poly.specs.Chained.{indexed_pair}
use Rattle.geo_poly.specs.Inner.WordSums.{nonzero_below}
use Rattle.geo_poly.proofs.dense_products.nonzero_terms.Given as goal

abbrev pub invariant-loop-word : goal.invariant-loop-word
invariant-loop-word l = record {
  within : l.word ≤ length l.sums;
  kept : l.list.items ++ map indexed_pair (nonzero_below l.sums l.word) ≡ map indexed_pair (nonzero_below l.sums (length l.sums));
}

abbrev pub decreases-loop-word : goal.decreases-loop-word
decreases-loop-word l = l.word
