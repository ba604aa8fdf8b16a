use Rattle.fraction_poly.proofs.InOrder.{once_has, once_rises}
use Rattle.fraction_poly.proofs.sorted_variables.in_order.Goals as goal

pub returns-clause-rising : goal.returns-clause-rising
returns-clause-rising c =
    once_rises c.sort_unstable.new.self.items c.dedup.new.self.items c.dedup.ensures.filtered c.sort_unstable.ensures.sorted

pub returns-clause-known : goal.returns-clause-known
returns-clause-known c =
    once_has c.sort_unstable.new.self.items c.dedup.new.self.items c.dedup.ensures.filtered c.args.variables.items c.sort_unstable.ensures.permutation
