use Rattle.geo_poly.specs.Shared.{told}
use Rattle.geo_chain.proofs.HighestPoints.{none_highest, some_highest}
use Rattle.geo_chain.proofs.highest.highest_constructed.Goals as goal

pub returns-clause-some : goal.returns-clause-some
returns-clause-some c = some_highest c.args.steps.now (told c.args.p.now) c.highest_of_terms.result c.highest_of_terms.ensures

pub returns-clause-none : goal.returns-clause-none
returns-clause-none c = none_highest c.args.steps.now (told c.args.p.now) c.highest_of_terms.result c.highest_of_terms.ensures
