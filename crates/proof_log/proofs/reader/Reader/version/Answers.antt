use Rattle.std.proofs.Common.{ap, arith}
use Rattle.std.specs.Prelude.{Err}
use Rattle.proof_log.specs.declared.errors.LineError.TheVariants.{BadLine}
use Rattle.proof_log.proofs.Bodies.{version_other, version_unread}
use Rattle.proof_log.proofs.Growth.{bad_error}
use Rattle.proof_log.proofs.reader.Reader.version.Goals as goal

pub returns-in_err-version-clause-bad : goal.returns-in_err-version-clause-bad
returns-in_err-version-clause-bad c = λ is.
    version_unread c.args.self.now (c.in_err-version.ensures.bad (ap Err (bad_error c.from_residual.result c.in_err-version.field-0.0 BadLine c.from_residual.ensures.1 is)))

pub returns-then-version-eq0-clause-bad : goal.returns-then-version-eq0-clause-bad
returns-then-version-eq0-clause-bad c = λ is.
    version_other c.args.self.now c.in_ok-version.version c.in_ok-version.ensures.read (λ v. omega (arith, v.0, c.if-version-eq0.true))

pub returns-then-version-gt-LAST_VERSION-clause-bad : goal.returns-then-version-gt-LAST_VERSION-clause-bad
returns-then-version-gt-LAST_VERSION-clause-bad c = λ is.
    version_other c.args.self.now c.in_ok-version.version c.in_ok-version.ensures.read (λ v. omega (arith, v.1, c.if-version-gt-LAST_VERSION.true))
