-- Natural numbers as keys and as amounts.
use Rattle.std.proofs.Common.{refl, ap, ◌∙◌, arith}
use Rattle.std.specs.Ordering.{ordering_reverse, nat_cmp}
use Rattle.std.specs.FinMap.{nat_cmp-IsAntisymmetric}
use Rattle.std.proofs.lemmas.Cmp.{tied_itself, nat_cmp_total}
use Rattle.std.proofs.lemmas.Bool.{eqb-true}
use Rattle.sparse_lists.specs.SparseLists.{IsKeyOrder, IsAdditive}
use Rattle.sparse_lists.specs.Laws.{natural_amounts}

-- the usual order of natural numbers
pub natural_order : IsKeyOrder nat_cmp
natural_order = record {
  self = tied_itself nat_cmp_total;
  exact = nat_cmp-IsAntisymmetric;
  flip = λ x y e. nat_cmp_total.antisymm y x ∙ ap ordering_reverse e;
  flip_back = λ x y e. nat_cmp_total.antisymm y x ∙ ap ordering_reverse e;
  trans = nat_cmp_total.trans;
}

-- the usual sum of natural numbers
pub natural_add : IsAdditive natural_amounts
natural_add = record {
  comm = λ a b. omega arith;
  assoc = λ a b c. omega arith;
  zero-add = λ a. omega arith;
  cancel = λ a b c e. omega arith;
  zero_is = λ a e. eqb-true a 0 e;
  is_zero-zero = refl;
}
