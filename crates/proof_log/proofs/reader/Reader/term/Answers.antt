use Rattle.proof_log.specs.declared.errors.LineError.TheVariants.{BadLine}
use Rattle.proof_log.specs.Inner.Reading.{Begins, coefficients}
use Rattle.proof_log.proofs.Growth.{from_err, from_ok_or, term_no_number, term_no_powers}
use Rattle.proof_log.proofs.reader.Reader.term.Goals as goal

pub returns-in_err-number-clause-bad : goal.returns-in_err-number-clause-bad
returns-in_err-number-clause-bad c =
    λ _. term_no_number c.args.self.now
    (c.coefficient.ensures.none (from_err c.coefficient.result BadLine c.ok_or.result c.in_err-number.field-0.0 c.ok_or.ensures.value
    c.in_err-number.was))

pub returns-clause-bad : goal.returns-clause-bad
returns-clause-bad c =
    λ is. term_no_powers c.args.self.now c.coefficient.new.self c.in_ok-number.number
    (from_ok_or (λ z. Begins coefficients c.args.self.now z c.coefficient.new.self) c.coefficient.result BadLine c.ok_or.result
    c.in_ok-number.number c.ok_or.ensures.value c.in_ok-number.was c.coefficient.ensures.some) (c.powers.ensures.bad is)
