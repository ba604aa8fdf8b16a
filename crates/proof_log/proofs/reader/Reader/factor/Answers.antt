use Rattle.proof_log.specs.declared.errors.LineError.TheVariants.{BadLine}
use Rattle.proof_log.specs.Inner.Reading.{Begins, integers}
use Rattle.proof_log.proofs.Found.{zero_bits}
use Rattle.proof_log.proofs.Growth.{factor_no_number, factor_no_powers, factor_zero, from_err, from_ok_or}
use Rattle.proof_log.proofs.reader.Reader.factor.Goals as goal

pub returns-in_err-number-clause-bad : goal.returns-in_err-number-clause-bad
returns-in_err-number-clause-bad c =
    λ _. factor_no_number c.args.self.now
    (c.integer.ensures.none (from_err c.integer.result BadLine c.ok_or.result c.in_err-number.field-0.0 c.ok_or.ensures.value
    c.in_err-number.was))

pub returns-then-number-eq0-clause-bad : goal.returns-then-number-eq0-clause-bad
returns-then-number-eq0-clause-bad c =
    λ _. factor_zero c.args.self.now c.integer.new.self c.in_ok-number.number
    (from_ok_or (λ z. Begins integers c.args.self.now z c.integer.new.self) c.integer.result BadLine c.ok_or.result c.in_ok-number.number
    c.ok_or.ensures.value c.in_ok-number.was c.integer.ensures.some)
    (let read = (from_ok_or (λ z. Begins integers c.args.self.now z c.integer.new.self) c.integer.result BadLine c.ok_or.result
    c.in_ok-number.number c.ok_or.ensures.value c.in_ok-number.was c.integer.ensures.some) in
    zero_bits c.in_ok-number.number c.if-number-eq0.true read.fits)

pub returns-clause-bad : goal.returns-clause-bad
returns-clause-bad c =
    λ is. factor_no_powers c.args.self.now c.integer.new.self c.in_ok-number.number
    (from_ok_or (λ z. Begins integers c.args.self.now z c.integer.new.self) c.integer.result BadLine c.ok_or.result c.in_ok-number.number
    c.ok_or.ensures.value c.in_ok-number.was c.integer.ensures.some) (c.powers.ensures.bad is)
