use Rattle.std.proofs.Common.{Err, ap}
use Rattle.geo_logs.specs.Moves.{spent, too_large}
use Rattle.geo_logs.specs.Places.{before_start}
use Rattle.geo_terms.specs.Stores.{tree_of}
use Rattle.geo_chain.proofs.Framing.{start_stops}
use Rattle.geo_chain.proofs.Passing.{answered_here}
use Rattle.geo_chain.proofs.chains.first_polynomial.Goals as goal

pub returns-in-Err-clause-err : goal.returns-in-Err-clause-err
returns-in-Err-clause-err g c =
    λ frame steps.
    let left = c.args.budget.now.left in
    let e = tree_of c.args.terms.now.nodes c.args.term in
    answered_here frame steps (before_start left e) _ _ c.args.log.now.within c.in-Err.error
    (λ is. start_stops frame steps left e spent (c.in-Err.ensures.spent (ap Err is)).0)
    (λ which is. start_stops frame steps left e (too_large which) (c.in-Err.ensures.too_large which (ap Err is)).0)
    (λ is. c.in-Err.ensures.row (ap Err is)) c.stopped.result c.stopped.ensures
