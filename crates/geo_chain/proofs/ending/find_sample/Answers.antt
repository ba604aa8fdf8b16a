use Rattle.std.proofs.Common.{List, subst}
use Rattle.geo_logs.specs.Moves.{spent, too_large}
use Rattle.geo_logs.specs.Places.{before_sample}
use Rattle.geo_poly.specs.declared.variables.Var.{Var}
use Rattle.geo_sample.specs.declared.errors.SampleError.TheVariants.{Spent, TooLarge}
use Rattle.geo_sample.specs.Samples.{SearchEndsIn}
use Rattle.geo_sample.specs.Samples as Search
use Rattle.geo_chain.specs.declared.errors.ProveError.TheVariants.{NoMemory}
use Rattle.geo_chain.specs.Written.{state}
use Rattle.geo_chain.proofs.Framing.{chosen_of, sample_stops}
use Rattle.geo_chain.proofs.Handing.{if_err}
use Rattle.geo_chain.proofs.Passing.{memory_here, stopped_here}
use Rattle.geo_chain.proofs.ending.find_sample.Goals as goal

pub returns-in_err-vars-clause-err : goal.returns-in_err-vars-clause-err
returns-in_err-vars-clause-err g c =
    if_err _ _ NoMemory c.from_residual.ensures.1 (memory_here c.args.frame c.args.steps.now
    (before_sample c.args.ends.now c.args.budget.now.left) _ c.args.log.now.within)

pub returns-in-Ok-clause-least : goal.returns-in-Ok-clause-least
returns-in-Ok-clause-least g c =
    chosen_of c.args.frame c.args.steps.now c.args.ends.now c.args.budget.now.left c.in-Ok.values _
    (subst (λ (vs : List Var). Search.IsLeastSample vs c.args.ends.now c.in-Ok.values) c.in_ok-vars.ensures c.in-Ok.ensures.least)
    c.in-Ok.ensures.made

pub returns-in-Err-Spent-clause-err : goal.returns-in-Err-Spent-clause-err
returns-in-Err-Spent-clause-err g c =
    let stop = subst
    (λ e. SearchEndsIn e c.in_ok-vars.vars c.args.ends.now c.args.budget.now.left c.least_sample_uncounted.new.budget.left)
    c.in-Err-Spent.field-0-is c.in-Err-Spent.ensures.stopped in
    stopped_here c.args.frame c.args.steps.now (before_sample c.args.ends.now c.args.budget.now.left) spent _ _
    (sample_stops c.args.frame c.args.steps.now c.args.ends.now c.args.budget.now.left spent c.least_sample_uncounted.new.budget.left
    (subst (λ (vs : List Var). SearchEndsIn Spent vs c.args.ends.now c.args.budget.now.left c.least_sample_uncounted.new.budget.left)
    c.in_ok-vars.ensures stop))
    c.args.log.now.within c.stop_spent.result c.stop_spent.ensures

pub returns-in-Err-TooLarge-clause-err : goal.returns-in-Err-TooLarge-clause-err
returns-in-Err-TooLarge-clause-err g c =
    let which = c.in-Err-TooLarge.which in
    let stop = subst
    (λ e. SearchEndsIn e c.in_ok-vars.vars c.args.ends.now c.args.budget.now.left c.least_sample_uncounted.new.budget.left)
    c.in-Err-TooLarge.field-0-is c.in-Err-TooLarge.ensures.stopped in
    stopped_here c.args.frame c.args.steps.now (before_sample c.args.ends.now c.args.budget.now.left) (too_large which) _ _
    (sample_stops c.args.frame c.args.steps.now c.args.ends.now c.args.budget.now.left (too_large which) c.least_sample_uncounted.new.budget.left
    (subst (λ (vs : List Var). SearchEndsIn
    (TooLarge which) vs c.args.ends.now c.args.budget.now.left c.least_sample_uncounted.new.budget.left) c.in_ok-vars.ensures stop))
    c.args.log.now.within c.stop_too_large.result c.stop_too_large.ensures

pub returns-clause-err : goal.returns-clause-err
returns-clause-err g c =
    memory_here c.args.frame c.args.steps.now (before_sample c.args.ends.now c.args.budget.now.left)
    (state c.args.log.now (g.K.Sink.held c.args.sink.now) (g.K.Sink.faults c.args.sink.now)) c.args.log.now.within
