use Rattle.log_checker.proofs.versions.problem_by.Goals as goal

pub returns : goal.returns
returns c = c.list.ensures c.args.version c.in_ok-lowered.ensures
