use Rattle.std.proofs.Common.{rules, tests}
use Rattle.std.proofs.lemmas.Iterator.{YieldsList-from_slice}
use Rattle.std.proofs.lemmas.Iterator.Consumers.{YieldsList-from_filter, count_from_yields_List}
use Rattle.geo_lowering.specs.Counting.{has_number}
use Rattle.geo_place.proofs.values.numbers.Goals as goal

pub returns : goal.returns
returns c = count_from_yields_List _ _ c.count.ensures.ran
    (YieldsList-from_filter _ has_number (YieldsList-from_slice c.args.commands.now cc) c.filter.ensures.closure
    (λ x b q k. search (rules, tests)))
