use Rattle.std.proofs.Common.{◌≡◌, ℕ, pos, length}
use Rattle.std.specs.Prelude.{Some, slice_get, slice_index_or}
use Rattle.ring_laws.specs.Fraction.{whole}
use Rattle.frac_laws.specs.declared.frac.Frac.{Frac}
use Rattle.frac_laws.specs.Numbers.{IsNumber}
use Rattle.geo_place.proofs.evaluation.numbers_of.Given as goal

abbrev pub invariant-loop-value : goal.invariant-loop-value
invariant-loop-value l = record {
  numbers : (k : ℕ) (r : Frac) → slice_get l.numbers.items k ≡ Some r → IsNumber r (whole (slice_index_or l.values k (pos 0)));
  long : length l.numbers.items ≡ l.value-index;
}
