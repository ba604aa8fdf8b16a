use Rattle.log_checker.proofs.SampleNames.{same_by_cmp}
use Rattle.log_checker.proofs.sampling.is_same.Goals as goal

pub returns : goal.returns
returns c = same_by_cmp c.eq.result c.args.v c.args.w c.eq.ensures
