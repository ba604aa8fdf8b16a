use Rattle.std.proofs.Common.{◌<◌, ◌^◌, ◌∙◌, arith}
use Rattle.geo_program.specs.Programs.{source_of}
use Rattle.geo_program.proofs.Propositions.{program_well_formed}
use Rattle.geo_discover.specs.Inner.Fixing.{fixed_by}
use Rattle.geo_discover.proofs.FixedAnswers.{answered, counted_takes, decided, ended, if_err}
use Rattle.geo_discover.proofs.OwnLogs.{ready}
use Rattle.geo_discover.proofs.fixing.fixed_all.Goals as goal

pub work-requires-clause-ready : goal.work-requires-clause-ready
work-requires-clause-ready c =
    ready (source_of c.args.program.now) c.in_ok-problem.problem (program_well_formed c.args.program.now) c.in_ok-problem.ensures

pub work-requires-clause-writable : goal.work-requires-clause-writable
work-requires-clause-writable c =
    λ lines place line begun next fits. counted_takes c.counting-log.result.size line c.counting-log.ensures.size

pub returns-in_err-verdict-clause-err : goal.returns-in_err-verdict-clause-err
returns-in_err-verdict-clause-err c =
    let small : c.args.steps < 2 ^ 127 = omega (arith, c.ranges.steps) in
    let e = c.in_err-verdict.field-0.0 in
    if_err _ _ (fixed_by e) c.from_residual-in_err-verdict.ensures.1
    (answered (source_of c.args.program.now) c.in_ok-problem.problem c.args.steps
    (program_well_formed c.args.program.now) small c.in_ok-problem.ensures _ _
    (c.counting-log.ensures.lines ∙ c.lines_before.ensures.count) e c.in_err-verdict.ensures.err)

pub returns-clause-verdict : goal.returns-clause-verdict
returns-clause-verdict c =
    let small : c.args.steps < 2 ^ 127 = omega (arith, c.ranges.steps) in
    ended (source_of c.args.program.now) c.in_ok-problem.problem c.args.steps
    (program_well_formed c.args.program.now) small c.in_ok-problem.ensures _ _ _ _ c.in_ok-verdict.ensures.ok

pub returns-clause-decides : goal.returns-clause-decides
returns-clause-decides c =
    let small : c.args.steps < 2 ^ 127 = omega (arith, c.ranges.steps) in
    decided (source_of c.args.program.now) c.in_ok-problem.problem c.args.steps
    (program_well_formed c.args.program.now) small c.in_ok-problem.ensures _ _ _ _ c.in_ok-verdict.ensures.ok
