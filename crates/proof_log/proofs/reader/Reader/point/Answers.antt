use Rattle.std.proofs.Common.{ap}
use Rattle.std.specs.Prelude.{Err}
use Rattle.proof_log.specs.declared.errors.LineError.TheVariants.{BadLine}
use Rattle.proof_log.specs.Inner.Reading.{Begins, naturals}
use Rattle.proof_log.proofs.BodyReading.{point_no_result}
use Rattle.proof_log.proofs.Growth.{bad_error, from_ok_or}
use Rattle.proof_log.proofs.reader.Reader.point.Goals as goal

pub returns-in_err-poly-clause-bad : goal.returns-in_err-poly-clause-bad
returns-in_err-poly-clause-bad c =
    λ is. point_no_result c.args.self.now c.small.new.self c.in_ok-at.at
    (from_ok_or (λ z. Begins (naturals 32) c.args.self.now z c.small.new.self) c.small.result BadLine c.ok_or.result c.in_ok-at.at
    c.ok_or.ensures.value c.in_ok-at.was c.small.ensures.some)
    (c.in_err-poly.ensures.bad (ap Err
    (bad_error c.from_residual-in_err-poly.result c.in_err-poly.field-0.0 BadLine c.from_residual-in_err-poly.ensures.1 is)))
