use Rattle.std.proofs.Common.{ap}
use Rattle.std.specs.Prelude.{Err}
use Rattle.proof_log.specs.declared.errors.LineError.TheVariants.{BadLine}
use Rattle.proof_log.proofs.BodyReading.{goal_refused}
use Rattle.proof_log.proofs.Growth.{bad_error}
use Rattle.proof_log.proofs.reader.Reader.goal.Goals as goal

pub returns-in_err-k-clause-bad : goal.returns-in_err-k-clause-bad
returns-in_err-k-clause-bad c = λ is. goal_refused c.args.self.now (c.in_err-k.ensures.bad (ap Err (bad_error c.from_residual.result c.in_err-k.field-0.0 BadLine c.from_residual.ensures.1 is)))
