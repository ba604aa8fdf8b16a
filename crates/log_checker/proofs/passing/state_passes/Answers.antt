use Rattle.log_checker.proofs.PassingPrograms.{program_goes_on}
use Rattle.log_checker.proofs.PassingWork.{state_goes_on}
use Rattle.log_checker.proofs.passing.state_passes.Goals as goal

pub returns-in-Work : goal.returns-in-Work
returns-in-Work c =
    state_goes_on c.args.state.now c.in-Work.work c.work_passes.new.work c.args.bytes.now c.work_passes.result c.in-Work.is c.work_passes.ensures

pub returns-in_ok-push_line-in-Some : goal.returns-in_ok-push_line-in-Some
returns-in_ok-push_line-in-Some c =
    program_goes_on c.args.state.now c.in-Program.version c.in-Program.text c.push_line.new.program c.in-Some.line.now c.args.bytes.now c.in-Program.is
    c.in-Some.ensures.spelt c.in-Some.ensures.one_line c.in_ok-push_line-in-Some.ensures
