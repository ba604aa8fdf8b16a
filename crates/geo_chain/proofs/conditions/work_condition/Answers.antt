use Rattle.std.proofs.Common.{refl}
use Rattle.std.proofs.lemmas.Result.{IfErr-weaker, IfOk-weaker}
use Rattle.geo_terms.specs.Stores.{tree_of}
use Rattle.geo_chain.specs.declared.errors.ProveError.TheVariants.{NoMemory}
use Rattle.geo_chain.specs.Parts.{chain_part, items_of}
use Rattle.geo_chain.specs.Tasks.{conditions_before}
use Rattle.geo_chain.specs.Written.{state}
use Rattle.geo_chain.proofs.Handing.{if_err}
use Rattle.geo_chain.proofs.Listing.{condition_ready, conditions_halt, task_chain, task_impossible, task_passes}
use Rattle.geo_chain.proofs.Passing.{can_write_on, halts_on}
use Rattle.geo_chain.proofs.conditions.work_condition.Goals as goal

pub returns-in_err-task-clause-err : goal.returns-in_err-task-clause-err
returns-in_err-task-clause-err g c =
    λ goals.
    if_err _ _ NoMemory c.from_residual.ensures.1
    (conditions_halt c.args.frame c.args.problem.now.steps c.args.problem.now.steps.nodes c.args.problem.now.conditions goals c.args.i
    c.args.findings.now.known c.args.findings.now.ends c.args.budget.now.left
    (state c.args.log.now (g.K.Sink.held c.args.sink.now) (g.K.Sink.faults c.args.sink.now)) c.args.log.now.within)

pub work_chain-requires-clause-stored : goal.work_chain-requires-clause-stored
work_chain-requires-clause-stored g c = (condition_ready c.args.frame c.args.problem.now.steps c.args.problem.now.steps.nodes
    c.args.problem.now.conditions c.args.i c.in_ok-task.task.header c.in_ok-task.task.term c.requires.ready.conditions
    c.in_ok-task.ensures).0

pub work_chain-requires-clause-inside : goal.work_chain-requires-clause-inside
work_chain-requires-clause-inside g c = (condition_ready c.args.frame c.args.problem.now.steps c.args.problem.now.steps.nodes
    c.args.problem.now.conditions c.args.i c.in_ok-task.task.header c.in_ok-task.task.term c.requires.ready.conditions
    c.in_ok-task.ensures).1

pub work_chain-requires-clause-writable : goal.work_chain-requires-clause-writable
work_chain-requires-clause-writable g c =
    let p = c.args.problem.now in
    let goals = items_of p.steps.nodes p.goals in
    let s = state c.args.log.now (g.K.Sink.held c.args.sink.now) (g.K.Sink.faults c.args.sink.now) in
    can_write_on c.args.frame p.steps
    (conditions_before c.args.frame p.steps p.steps.nodes p.conditions goals c.args.i c.args.findings.now.known c.args.findings.now.ends
    c.args.budget.now.left)
    (chain_part c.args.frame p.steps c.in_ok-task.task.header c.args.findings.now.known c.args.budget.now.left
    (tree_of p.steps.nodes c.in_ok-task.task.term)) s s
    (task_chain c.args.frame p.steps p.steps.nodes p.conditions goals c.args.i c.args.findings.now.known c.args.findings.now.ends
    c.args.budget.now.left c.in_ok-task.task.header c.in_ok-task.task.term s c.in_ok-task.ensures) c.requires.writable

pub returns-clause-passes : goal.returns-clause-passes
returns-clause-passes g c =
    λ goals.
    let p = c.args.problem.now in
    let s = state c.args.log.now (g.K.Sink.held c.args.sink.now) (g.K.Sink.faults c.args.sink.now) in
    let t = state c.work_chain.new.log (g.K.Sink.held c.work_chain.new.sink) (g.K.Sink.faults c.work_chain.new.sink) in
    IfOk-weaker c.work_chain.result _ _
    (λ chain h n. task_passes c.args.frame p.steps p.steps.nodes p.conditions goals c.args.i c.args.findings.now.known
    c.args.findings.now.ends c.args.budget.now.left c.in_ok-task.task.header c.in_ok-task.task.term c.work_chain.new.budget.left s t
    chain.end chain.variable h _ _ c.in_ok-task.ensures n refl refl)
    c.work_chain.ensures.ok

pub returns-clause-impossible : goal.returns-clause-impossible
returns-clause-impossible g c =
    λ goals.
    let p = c.args.problem.now in
    let s = state c.args.log.now (g.K.Sink.held c.args.sink.now) (g.K.Sink.faults c.args.sink.now) in
    let t = state c.work_chain.new.log (g.K.Sink.held c.work_chain.new.sink) (g.K.Sink.faults c.work_chain.new.sink) in
    IfOk-weaker c.work_chain.result _ _
    (λ chain h n. task_impossible c.args.frame p.steps p.steps.nodes p.conditions goals c.args.i c.args.findings.now.known
    c.args.findings.now.ends c.args.budget.now.left c.in_ok-task.task.header c.in_ok-task.task.term c.work_chain.new.budget.left s t
    chain.end chain.variable h c.in_ok-task.ensures n)
    c.work_chain.ensures.ok

pub returns-clause-err : goal.returns-clause-err
returns-clause-err g c =
    λ goals.
    let p = c.args.problem.now in
    let s = state c.args.log.now (g.K.Sink.held c.args.sink.now) (g.K.Sink.faults c.args.sink.now) in
    let t = state c.work_chain.new.log (g.K.Sink.held c.work_chain.new.sink) (g.K.Sink.faults c.work_chain.new.sink) in
    IfErr-weaker c.work_chain.result _ _
    (λ e h. halts_on c.args.frame p.steps
    (conditions_before c.args.frame p.steps p.steps.nodes p.conditions goals c.args.i c.args.findings.now.known c.args.findings.now.ends
    c.args.budget.now.left)
    (chain_part c.args.frame p.steps c.in_ok-task.task.header c.args.findings.now.known c.args.budget.now.left
    (tree_of p.steps.nodes c.in_ok-task.task.term)) s s t
    (task_chain c.args.frame p.steps p.steps.nodes p.conditions goals c.args.i c.args.findings.now.known c.args.findings.now.ends
    c.args.budget.now.left c.in_ok-task.task.header c.in_ok-task.task.term s c.in_ok-task.ensures) e h)
    c.work_chain.ensures.err
