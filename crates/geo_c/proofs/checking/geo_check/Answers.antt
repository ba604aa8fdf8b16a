use Rattle.geo_c.proofs.Decided.{checks}
use Rattle.geo_c.proofs.OneDue.{check_told}
use Rattle.geo_c.proofs.checking.geo_check.Goals as goal

pub returns-clause-decides : goal.returns-clause-decides
returns-clause-decides c = λ verdict says. checks c.args.log.now c.args.steps _ _ _ _ verdict says c.check_log.ensures

pub returns-clause-complete : goal.returns-clause-complete
returns-clause-complete c = check_told c.args.log.now c.args.steps _ _ _ _ c.check_log.ensures
