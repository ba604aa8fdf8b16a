use Rattle.std.proofs.Common.{◌≡◌, ◌<◌, ◌+ℤ◌, ℕ, length, pos, take}
use Rattle.std.specs.Prelude.{slice_index_or}
use Rattle.geo_poly.specs.Inner.WordSums.{sum_at, word_multiples}
use Rattle.geo_poly.proofs.dense_products.add_multiples.Given as goal

abbrev pub invariant-loop-id : goal.invariant-loop-id
invariant-loop-id l = record {
  whole : length l.sums.items ≡ length l.fn.sums.items;
  sums : (w : ℕ) → w < length l.fn.sums.items
      → slice_index_or l.sums.items w (pos 0) ≡ slice_index_or l.fn.sums.items w (pos 0) +ℤ sum_at w (word_multiples l.t (take l.id-index l.list));
}
