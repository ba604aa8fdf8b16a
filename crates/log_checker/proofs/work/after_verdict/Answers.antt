use Rattle.log_checker.proofs.DueRefusals.{no_verdict, verdict_wrong_line}
use Rattle.log_checker.proofs.work.after_verdict.Goals as goal

pub returns-in_default : goal.returns-in_default
returns-in_default c = record {
  goes = λ q e. tt;
  refused = λ q e. verdict_wrong_line q e c.args.due c.args.line (no_verdict c.args.line c.in_default.not-Verdict);
}
