use Rattle.geo_chain.specs.Parts.{end_part}
use Rattle.geo_chain.specs.Tasks.{goals_from}
use Rattle.geo_chain.specs.Written.{state}
use Rattle.geo_chain.proofs.Handing.{if_err}
use Rattle.geo_chain.proofs.Passing.{can_write_on, finishes_on, halts_on}
use Rattle.geo_chain.proofs.working.work_rest.Goals as goal

pub conclude-requires-clause-writable : goal.conclude-requires-clause-writable
conclude-requires-clause-writable g c =
    let s = state c.args.log.now (g.K.Sink.held c.args.sink.now) (g.K.Sink.faults c.args.sink.now) in
    let t = state c.work_goals.new.log (g.K.Sink.held c.work_goals.new.sink) (g.K.Sink.faults c.work_goals.new.sink) in
    let first = goals_from c.args.frame c.args.steps.now c.args.terms.now.nodes c.args.goals.now 0 c.args.findings.now.known
    c.args.findings.now.ends c.args.budget.now.left in
    let last = end_part c.args.frame c.args.steps.now c.work_goals.new.findings.ends c.in_ok-verdict.verdict c.work_goals.new.budget.left in
    can_write_on c.args.frame c.args.steps.now first last s t c.in_ok-verdict.ensures.ok c.requires.writable

pub returns-in_err-conclude-clause-err : goal.returns-in_err-conclude-clause-err
returns-in_err-conclude-clause-err g c =
    let s = state c.args.log.now (g.K.Sink.held c.args.sink.now) (g.K.Sink.faults c.args.sink.now) in
    let t = state c.work_goals.new.log (g.K.Sink.held c.work_goals.new.sink) (g.K.Sink.faults c.work_goals.new.sink) in
    let u = state c.conclude.new.log (g.K.Sink.held c.conclude.new.sink) (g.K.Sink.faults c.conclude.new.sink) in
    let first = goals_from c.args.frame c.args.steps.now c.args.terms.now.nodes c.args.goals.now 0 c.args.findings.now.known
    c.args.findings.now.ends c.args.budget.now.left in
    let last = end_part c.args.frame c.args.steps.now c.work_goals.new.findings.ends c.in_ok-verdict.verdict c.work_goals.new.budget.left in
    if_err _ _ c.in_err-conclude.field-0.0 c.from_residual-in_err-conclude.ensures.1
    (halts_on c.args.frame c.args.steps.now first last s t u c.in_ok-verdict.ensures.ok c.in_err-conclude.field-0.0
    c.in_err-conclude.ensures.err)

pub returns-clause-ok : goal.returns-clause-ok
returns-clause-ok g c =
    let s = state c.args.log.now (g.K.Sink.held c.args.sink.now) (g.K.Sink.faults c.args.sink.now) in
    let t = state c.work_goals.new.log (g.K.Sink.held c.work_goals.new.sink) (g.K.Sink.faults c.work_goals.new.sink) in
    let u = state c.conclude.new.log (g.K.Sink.held c.conclude.new.sink) (g.K.Sink.faults c.conclude.new.sink) in
    let first = goals_from c.args.frame c.args.steps.now c.args.terms.now.nodes c.args.goals.now 0 c.args.findings.now.known
    c.args.findings.now.ends c.args.budget.now.left in
    let last = end_part c.args.frame c.args.steps.now c.work_goals.new.findings.ends c.in_ok-verdict.verdict c.work_goals.new.budget.left in
    finishes_on first last s t u c.in_ok-verdict.verdict c.conclude.new.budget.left c.in_ok-verdict.ensures.ok c.in_ok-conclude.ensures.ok
