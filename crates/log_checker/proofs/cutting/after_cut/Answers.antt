use Rattle.geo_logs.specs.Judging.{IsCutRefused}
use Rattle.log_checker.specs.Inner.Lines.{Tells}
use Rattle.log_checker.proofs.PassedOn.{passed_on}
use Rattle.log_checker.proofs.cutting.after_cut.Goals as goal

pub returns-in_err-quotient-clause-refused : goal.returns-in_err-quotient-clause-refused
returns-in_err-quotient-clause-refused c =
    passed_on c.from_residual.result c.in_err-quotient.field-0.0 (Tells (IsCutRefused c.args.known.now c.args.before.now c.args.by.now c.args.poly.now))
    c.from_residual.ensures.1 (c.in_err-quotient.ensures.refused c.args.poly.now)
