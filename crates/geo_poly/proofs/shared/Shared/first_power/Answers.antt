use Rattle.std.proofs.Common.{ap}
use Rattle.mono_store.proofs.Unfolding.{monomial_of-one}
use Rattle.geo_poly.specs.Shared.{named}
use Rattle.geo_poly.proofs.shared.Shared.first_power.Goals as goal

pub returns-in-None-clause-none : goal.returns-in-None-clause-none
returns-in-None-clause-none c = ap (named c.args.self.now.vars.now) (monomial_of-one c.args.self.now.monos.now c.args.id c.in-None.ensures.none)
