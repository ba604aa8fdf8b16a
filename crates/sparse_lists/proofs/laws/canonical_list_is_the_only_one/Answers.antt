use Rattle.std.proofs.Common.{sym, ◌∙◌}
use Rattle.std.specs.Ordering.{nat_cmp}
use Rattle.sparse_lists.specs.SparseLists.{canonical}
use Rattle.sparse_lists.specs.Laws.{natural_amounts}
use Rattle.sparse_lists.proofs.Canonical.{IsCanonical-canonical, amount-canonical, same_list}
use Rattle.sparse_lists.proofs.NaturalAmounts.{natural_order, natural_add}
use Rattle.sparse_lists.proofs.laws.canonical_list_is_the_only_one.Goals as goal

pub returns : goal.returns
returns c = λ ts. (
  IsCanonical-canonical nat_cmp natural_amounts natural_order natural_add ts,
  λ k. amount-canonical nat_cmp natural_amounts natural_order natural_add k ts,
  λ us h same. same_list nat_cmp natural_amounts natural_order natural_add us (canonical nat_cmp natural_amounts ts) h (IsCanonical-canonical nat_cmp natural_amounts natural_order natural_add ts)
      (λ k. same k ∙ sym (amount-canonical nat_cmp natural_amounts natural_order natural_add k ts)),
)
