use Rattle.std.proofs.lemmas.Option.{IfSome_then}
use Rattle.geo_chain.proofs.choosing.move_among.Goals as goal

pub returns-in-None-clause-some : goal.returns-in-None-clause-some
returns-in-None-clause-some c = IfSome_then c.move_of_free.result c.move_of_free.ensures.some (λ mv h. h c.args.steps.now c.in-None.ensures.none)
