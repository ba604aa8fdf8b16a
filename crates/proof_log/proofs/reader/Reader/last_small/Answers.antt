use Rattle.std.proofs.Common.{ap, lit≤}
use Rattle.std.specs.Prelude.{Err}
use Rattle.proof_log.specs.declared.errors.LineError.TheVariants.{BadLine}
use Rattle.proof_log.specs.Inner.Reading.{Begins, naturals}
use Rattle.proof_log.proofs.Bodies.{last_not_ended}
use Rattle.proof_log.proofs.Growth.{bad_error, from_ok_or}
use Rattle.proof_log.proofs.reader.Reader.last_small.Goals as goal

pub returns-in_err-end-clause-bad : goal.returns-in_err-end-clause-bad
returns-in_err-end-clause-bad c =
    λ is. last_not_ended 32 (lit≤ tt) c.args.self.now c.in_ok-number.number c.small.new.self
    (from_ok_or (λ z. Begins (naturals 32) c.args.self.now z c.small.new.self) c.small.result BadLine c.ok_or.result c.in_ok-number.number
    c.ok_or.ensures.value c.in_ok-number.was c.small.ensures.some)
    (c.in_err-end.ensures.bad (ap Err
    (bad_error c.from_residual-in_err-end.result c.in_err-end.field-0.0 BadLine c.from_residual-in_err-end.ensures.1 is)))
