use Rattle.std.proofs.Common.{◌++◌, ◌∙◌}
use Rattle.std.specs.Ordering.{nat_cmp}
use Rattle.sparse_lists.specs.Laws.{natural_amounts}
use Rattle.sparse_lists.proofs.Canonical.{amount-canonical, amount-append}
use Rattle.sparse_lists.proofs.NaturalAmounts.{natural_order, natural_add}
use Rattle.sparse_lists.proofs.laws.appended_lists_add_up.Goals as goal

pub returns : goal.returns
returns c = λ ts us k.
    amount-canonical nat_cmp natural_amounts natural_order natural_add k (ts ++ us) ∙ amount-append nat_cmp natural_amounts natural_order natural_add k ts us
