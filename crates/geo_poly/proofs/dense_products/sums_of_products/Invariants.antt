use Rattle.std.proofs.Common.{◌≡◌, length, take}
use Rattle.geo_poly.specs.Inner.WordSums.{AreSums, word_products}
use Rattle.geo_poly.proofs.dense_products.sums_of_products.Given as goal

abbrev pub invariant-loop-term : goal.invariant-loop-term
invariant-loop-term l = record {
  whole : length l.sums.items ≡ l.words;
  sums : AreSums (word_products (take l.term-index l.left) l.right) l.sums.items;
}
