use Rattle.log_checker.proofs.PassingWork.{chain_goes_on_with, chain_named, chain_written}
use Rattle.log_checker.proofs.passing.work_passes.Goals as goal

pub step_passes-requires-clause-named : goal.step_passes-requires-clause-named
step_passes-requires-clause-named c = chain_named c.args.work.now c.requires c.in-Step.task c.in-Step.own c.in-Step.poly c.in-Step.is

pub step_passes-requires-clause-written : goal.step_passes-requires-clause-written
step_passes-requires-clause-written c = chain_written c.args.work.now c.requires c.in-Step.task c.in-Step.own c.in-Step.poly c.in-Step.is

pub returns-in-Step : goal.returns-in-Step
returns-in-Step c =
    chain_goes_on_with c.args.work.now c.step_passes.new.problem c.in-Step.task c.in-Step.own c.in-Step.poly c.step_passes.new.evidence c.step_passes.new.poly
    c.args.bytes.now c.step_passes.result c.in-Step.is c.step_passes.ensures.problem c.step_passes.ensures.goes
