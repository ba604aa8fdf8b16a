use Rattle.geo_cli.proofs.OrderLemmas.{too_many}
use Rattle.geo_cli.proofs.order.command_of.Goals as goal

pub returns-in_err-whole-in-Some-clause-complete :
    goal.returns-in_err-whole-in-Some-clause-complete
returns-in_err-whole-in-Some-clause-complete c =
    λ command row. absurd (too_many _ _ _ _ command c.in-Some.ensures.cases.0 c.in_err-whole-in-Some.ensures.front c.in_err-whole-in-Some.ensures.back row)
