use Rattle.std.proofs.Common.{sym, subst}
use Rattle.proof_log.specs.declared.log.Line.{Line}
use Rattle.log_checker.specs.Inner.Lines.{RefusesWhere}
use Rattle.log_checker.specs.declared.due.Due.TheVariants.{Sample}
use Rattle.log_checker.proofs.DueRefusals.{no_sample, sample_wrong, sample_wrong_line}
use Rattle.log_checker.proofs.PassedOn.{passed_on}
use Rattle.log_checker.proofs.work.after_sample.Goals as goal

pub returns-in_default : goal.returns-in_default
returns-in_default c = record {
  goes = tt;
  refused = sample_wrong_line c.args.problem.now c.args.evidence.now c.args.verdict c.args.line (no_sample c.args.line c.in_default.not-Sample);
}

pub returns-in_err-test_sample-clause-refused : goal.returns-in_err-test_sample-clause-refused
returns-in_err-test_sample-clause-refused c =
    let q = c.args.problem.now in
    let e = c.args.evidence.now in
    let Refuses : Line → Type 0 = λ l. RefusesWhere q e (Sample c.args.verdict) l c.in_err-test_sample.field-0.0 in
    passed_on c.from_residual.result c.in_err-test_sample.field-0.0 (RefusesWhere q e (Sample c.args.verdict) c.args.line) c.from_residual.ensures.1
    (subst Refuses (sym c.in-Sample.is) (sample_wrong q e c.args.verdict c.in-Sample.values c.in_err-test_sample.field-0.0 c.in_err-test_sample.ensures.refused))
