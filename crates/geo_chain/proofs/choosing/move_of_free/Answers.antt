use Rattle.geo_poly.specs.Shared.{told}
use Rattle.geo_chain.proofs.Moves.{end_of, free_ratio_next}
use Rattle.geo_chain.proofs.choosing.move_of_free.Goals as goal

pub returns-in-None-clause-none : goal.returns-in-None-clause-none
returns-in-None-clause-none c = end_of (told c.args.p.now) c.in-None.ensures.none

pub returns-in-Some-clause-some : goal.returns-in-Some-clause-some
returns-in-Some-clause-some c = λ s free. free_ratio_next (told c.args.p.now) s c.in-Some.var free c.in-Some.ensures.some
