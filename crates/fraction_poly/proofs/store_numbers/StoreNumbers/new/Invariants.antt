use Rattle.std.proofs.Common.{◌≡◌, length}
use Rattle.geo_terms.specs.Stores.{trees_of}
use Rattle.fraction_poly.specs.Inner.Parts.{AreNumbersOf}
use Rattle.fraction_poly.proofs.store_numbers.StoreNumbers.new.Given as goal

abbrev pub invariant-loop-i : goal.invariant-loop-i
invariant-loop-i l = record {
  count : length l.each.items ≡ l.i;
  numbers : AreNumbersOf (trees_of l.terms) l.each.items;
}
