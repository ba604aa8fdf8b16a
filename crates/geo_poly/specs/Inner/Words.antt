-- The words of a store as keys of chains.
use Rattle.std.specs.Prelude.{Some, ◌^◌}
use Rattle.std.specs.Ordering.{nat_cmp}
use Rattle.sparse_lists.proofs.NaturalAmounts.{natural_order}
use Rattle.mono_store.specs.Words.{Limits, limit, powers_of_word, word_count}
use Rattle.poly_arena.specs.Orders.{IsOrderBelow}
use Rattle.geo_poly.specs.Keys.{Keys}

-- words as keys
abbrev pub word_keys : Limits → Keys
word_keys limits = record { count = word_count limits; powers = powers_of_word limits; limits = Some (limit limits) }

-- words are in the order of numbers
pub word_order : IsOrderBelow (2 ^ 64) nat_cmp
word_order = record {
  self = λ a within. natural_order.self a;
  exact = λ a b a_in b_in e. natural_order.exact a b e;
  flip = λ a b a_in b_in e. natural_order.flip a b e;
  flip_back = λ a b a_in b_in e. natural_order.flip_back a b e;
  trans = λ a b c a_in b_in c_in e f. natural_order.trans a b c e f;
}
