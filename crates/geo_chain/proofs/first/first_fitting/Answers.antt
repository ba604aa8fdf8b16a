use Rattle.geo_poly.specs.Shared.{told}
use Rattle.geo_chain.proofs.FirstFitting.{none_first, some_first}
use Rattle.geo_chain.proofs.first.first_fitting.Goals as goal

pub returns-clause-some : goal.returns-clause-some
returns-clause-some c = some_first c.args.sought (told c.args.p.now) c.first_of_terms.result c.first_of_terms.ensures

pub returns-clause-none : goal.returns-clause-none
returns-clause-none c = none_first c.args.sought (told c.args.p.now) c.first_of_terms.result c.first_of_terms.ensures
