use Rattle.std.proofs.Common.{refl}
use Rattle.std.proofs.lemmas.Result.{IfErr-weaker, IfOk-weaker}
use Rattle.geo_terms.specs.Stores.{tree_of}
use Rattle.geo_chain.specs.declared.errors.ProveError.TheVariants.{NoMemory}
use Rattle.geo_chain.specs.Parts.{chain_part}
use Rattle.geo_chain.specs.Tasks.{goals_from}
use Rattle.geo_chain.specs.Written.{state}
use Rattle.geo_chain.proofs.Handing.{if_err}
use Rattle.geo_chain.proofs.Listing.{goal_ready, goal_task_chain, goal_task_fails, goal_task_passes, goals_halt}
use Rattle.geo_chain.proofs.Passing.{can_write_on, halts_on}
use Rattle.geo_chain.proofs.goals.work_goal.Goals as goal

pub returns-in_err-task-clause-err : goal.returns-in_err-task-clause-err
returns-in_err-task-clause-err g c =
    if_err _ _ NoMemory c.from_residual.ensures.1
    (goals_halt c.args.frame c.args.steps.now c.args.terms.now.nodes c.args.goals.now c.args.i c.args.findings.now.known
    c.args.findings.now.ends c.args.budget.now.left (state c.args.log.now (g.K.Sink.held c.args.sink.now)
    (g.K.Sink.faults c.args.sink.now)) c.args.log.now.within)

pub work_chain-requires-clause-stored : goal.work_chain-requires-clause-stored
work_chain-requires-clause-stored g c = (goal_ready c.args.frame c.args.steps.now c.args.terms.now.nodes c.args.goals.now c.args.i
    c.in_ok-task.task.header c.in_ok-task.task.term c.requires.ready c.in_ok-task.ensures).0

pub work_chain-requires-clause-inside : goal.work_chain-requires-clause-inside
work_chain-requires-clause-inside g c = (goal_ready c.args.frame c.args.steps.now c.args.terms.now.nodes c.args.goals.now c.args.i
    c.in_ok-task.task.header c.in_ok-task.task.term c.requires.ready c.in_ok-task.ensures).1

pub work_chain-requires-clause-writable : goal.work_chain-requires-clause-writable
work_chain-requires-clause-writable g c =
    let s = state c.args.log.now (g.K.Sink.held c.args.sink.now) (g.K.Sink.faults c.args.sink.now) in
    can_write_on c.args.frame c.args.steps.now
    (goals_from c.args.frame c.args.steps.now c.args.terms.now.nodes c.args.goals.now c.args.i c.args.findings.now.known
    c.args.findings.now.ends c.args.budget.now.left)
    (chain_part c.args.frame c.args.steps.now c.in_ok-task.task.header c.args.findings.now.known c.args.budget.now.left
    (tree_of c.args.terms.now.nodes c.in_ok-task.task.term)) s s
    (goal_task_chain c.args.frame c.args.steps.now c.args.terms.now.nodes c.args.goals.now c.args.i c.args.findings.now.known
    c.args.findings.now.ends c.args.budget.now.left c.in_ok-task.task.header c.in_ok-task.task.term s c.in_ok-task.ensures)
    c.requires.writable

pub returns-clause-passes : goal.returns-clause-passes
returns-clause-passes g c =
    let s = state c.args.log.now (g.K.Sink.held c.args.sink.now) (g.K.Sink.faults c.args.sink.now) in
    let t = state c.work_chain.new.log (g.K.Sink.held c.work_chain.new.sink) (g.K.Sink.faults c.work_chain.new.sink) in
    IfOk-weaker c.work_chain.result _ _
    (λ chain h n. goal_task_passes c.args.frame c.args.steps.now c.args.terms.now.nodes c.args.goals.now c.args.i c.args.findings.now.known
    c.args.findings.now.ends c.args.budget.now.left c.in_ok-task.task.header c.in_ok-task.task.term c.work_chain.new.budget.left s t
    chain.end chain.variable h c.in_ok-task.ensures n)
    c.work_chain.ensures.ok

pub returns-clause-fails : goal.returns-clause-fails
returns-clause-fails g c =
    let s = state c.args.log.now (g.K.Sink.held c.args.sink.now) (g.K.Sink.faults c.args.sink.now) in
    let t = state c.work_chain.new.log (g.K.Sink.held c.work_chain.new.sink) (g.K.Sink.faults c.work_chain.new.sink) in
    IfOk-weaker c.work_chain.result _ _
    (λ chain h n. goal_task_fails c.args.frame c.args.steps.now c.args.terms.now.nodes c.args.goals.now c.args.i c.args.findings.now.known
    c.args.findings.now.ends c.args.budget.now.left c.in_ok-task.task.header c.in_ok-task.task.term c.work_chain.new.budget.left s t
    chain.end chain.variable h _ c.in_ok-task.ensures n refl)
    c.work_chain.ensures.ok

pub returns-clause-err : goal.returns-clause-err
returns-clause-err g c =
    let s = state c.args.log.now (g.K.Sink.held c.args.sink.now) (g.K.Sink.faults c.args.sink.now) in
    let t = state c.work_chain.new.log (g.K.Sink.held c.work_chain.new.sink) (g.K.Sink.faults c.work_chain.new.sink) in
    IfErr-weaker c.work_chain.result _ _
    (λ e h. halts_on c.args.frame c.args.steps.now
    (goals_from c.args.frame c.args.steps.now c.args.terms.now.nodes c.args.goals.now c.args.i c.args.findings.now.known
    c.args.findings.now.ends c.args.budget.now.left)
    (chain_part c.args.frame c.args.steps.now c.in_ok-task.task.header c.args.findings.now.known c.args.budget.now.left
    (tree_of c.args.terms.now.nodes c.in_ok-task.task.term)) s s t
    (goal_task_chain c.args.frame c.args.steps.now c.args.terms.now.nodes c.args.goals.now c.args.i c.args.findings.now.known
    c.args.findings.now.ends c.args.budget.now.left c.in_ok-task.task.header c.in_ok-task.task.term s c.in_ok-task.ensures) e h)
    c.work_chain.ensures.err
