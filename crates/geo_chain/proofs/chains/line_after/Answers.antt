use Rattle.std.proofs.Common.{Err, ap, length, subst, sym}
use Rattle.geo_chain.specs.NextLines.{HasLinePointsBelow}
use Rattle.geo_logs.specs.Moves.{spent, too_large}
use Rattle.geo_logs.specs.Places.{in_chain}
use Rattle.geo_chain.specs.declared.errors.ProveError.TheVariants.{NoMemory}
use Rattle.geo_chain.proofs.Framing.{chain_stops, framed_points}
use Rattle.geo_chain.proofs.Handing.{if_err}
use Rattle.geo_chain.proofs.Passing.{answered_here, memory_here}
use Rattle.geo_chain.proofs.chains.line_after.Goals as goal

pub returns-in-Err-clause-err : goal.returns-in-Err-clause-err
returns-in-Err-clause-err g c =
    let frame = c.args.frame in
    let steps = c.args.steps.now in
    let known = c.args.known.now in
    let left = c.args.budget.now.left in
    let last = c.args.last.now in
    answered_here frame steps (in_chain known left last) _ _ c.args.log.now.within c.in-Err.error
    (λ e. let h = c.in-Err.ensures.spent (ap Err e) in chain_stops frame steps known left last spent (h.0, h.1.no_cut, h.1.next, h.2))
    (λ which e. let h = c.in-Err.ensures.too_large which (ap Err e) in chain_stops frame steps known left last (too_large which)
    (h.0, h.1.no_cut, h.1.next, h.2))
    (λ e. c.in-Err.ensures.row (ap Err e)) c.stopped.result c.stopped.ensures

pub returns-in_err-framed-in-Ok-clause-err : goal.returns-in_err-framed-in-Ok-clause-err
returns-in_err-framed-in-Ok-clause-err g c =
    if_err _ _ NoMemory c.from_residual.ensures.1 (memory_here c.args.frame c.args.steps.now
    (in_chain c.args.known.now c.args.budget.now.left c.args.last.now) _ c.args.log.now.within)

pub returns-in_ok-framed-in-Ok-clause-points : goal.returns-in_ok-framed-in-Ok-clause-points
returns-in_ok-framed-in-Ok-clause-points g c =
    let n = length c.args.steps.now.steps in
    subst (HasLinePointsBelow n) (sym c.in_ok-framed-in-Ok.ensures) (framed_points n c.args.frame c.in-Ok.line c.in-Ok.ensures.points)
