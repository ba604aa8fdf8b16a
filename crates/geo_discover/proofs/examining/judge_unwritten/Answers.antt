use Rattle.std.proofs.Common.{Option, Some, subst, sym}
use Rattle.std.specs.Prelude.{IfSome}
use Rattle.geo_chain.specs.declared.frame.Frame.TheVariants.{Full}
use Rattle.geo_chain.specs.Tasks.{goals_from}
use Rattle.geo_chain.specs.Written.{state}
use Rattle.geo_discover.specs.declared.examining.Judgement.{Judgement}
use Rattle.geo_discover.specs.Inner.Sharing.{IsSaid}
use Rattle.geo_discover.proofs.Unwritten.{bounded_takes, unwritten_said}
use Rattle.geo_discover.proofs.examining.judge_unwritten.Goals as goal

pub work_goal-verdict-requires-clause-writable : goal.work_goal-verdict-requires-clause-writable
work_goal-verdict-requires-clause-writable c = λ lines place line b n fits. bounded_takes c.args.log.size line c.requires.bounded

pub returns-clause-said : goal.returns-clause-said
returns-clause-said c =
    λ size held most bounded less.
    let part = goals_from Full c.args.steps.now c.args.goal.now.terms.nodes c.args.goal.now.goals 0 c.args.findings.now.known
    c.args.findings.now.ends c.args.left in
    let s = state c.args.log (Some c.new-nothing.result) 0 in
    let t = state c.work_goal-verdict.new.log (Some c.work_goal-verdict.new.text) 0 in
    subst (λ (o : Option Judgement). IfSome o (IsSaid c.args.steps.now part (record { lines = s.lines; size = size; held = Some held; faults = 0 })))
    (sym c.unwritten_judgement.ensures)
    (unwritten_said c.args.steps.now part s t size held most bounded less c.work_goal-verdict.result c.work_goal-verdict.ensures.ok
    c.work_goal-verdict.ensures.err c.work_goal-verdict.new.log.within)
