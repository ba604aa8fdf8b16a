use Rattle.std.proofs.Common.{◌≡◌, ◌++◌, ap, arith}
use Rattle.std.specs.Prelude.{Err, codes}
use Rattle.proof_log.specs.declared.errors.LineError.TheVariants.{BadLine}
use Rattle.proof_log.specs.Inner.Reading.{Begins, naturals}
use Rattle.proof_log.proofs.Bodies.{head_no_space, head_no_text, head_zero}
use Rattle.proof_log.proofs.Growth.{bad_error, from_err, from_ok_or}
use Rattle.proof_log.proofs.reader.Reader.head.Goals as goal

pub returns-then-k-eq0-clause-bad : goal.returns-then-k-eq0-clause-bad
returns-then-k-eq0-clause-bad c =
    λ _. head_zero c.args.self.now c.in_ok-k.k c.small.new.self
    (from_ok_or (λ z. Begins (naturals 32) c.args.self.now z c.small.new.self) c.small.result BadLine c.ok_or.result c.in_ok-k.k
    c.ok_or.ensures.value c.in_ok-k.was c.small.ensures.some) (λ some. omega (arith, c.if-k-eq0.true))

pub returns-in_err-ok_or-clause-bad : goal.returns-in_err-ok_or-clause-bad
returns-in_err-ok_or-clause-bad c =
    λ _. head_no_space c.args.self.now c.in_ok-k.k c.small.new.self
    (from_ok_or (λ z. Begins (naturals 32) c.args.self.now z c.small.new.self) c.small.result BadLine c.ok_or.result c.in_ok-k.k
    c.ok_or.ensures.value c.in_ok-k.was c.small.ensures.some)
    (c.literal.ensures.none (from_err c.literal.result BadLine c.ok_or-2.result c.in_err-ok_or.field-0.0 c.ok_or-2.ensures.value
    c.in_err-ok_or.was))

pub returns-in_err-text-clause-bad : goal.returns-in_err-text-clause-bad
returns-in_err-text-clause-bad c =
    λ is. head_no_text c.args.self.now c.in_ok-k.k c.small.new.self
    (from_ok_or (λ z. Begins (naturals 32) c.args.self.now z c.small.new.self) c.small.result BadLine c.ok_or.result c.in_ok-k.k
    c.ok_or.ensures.value c.in_ok-k.was c.small.ensures.some) c.literal.new.self
    (from_ok_or (λ _. c.small.new.self ≡ codes " " ++ c.literal.new.self) c.literal.result BadLine c.ok_or-2.result c.in_ok-ok_or.field-0
    c.ok_or-2.ensures.value c.in_ok-ok_or.was c.literal.ensures.some)
    (c.in_err-text.ensures.bad (ap Err
    (bad_error c.from_residual-in_err-text.result c.in_err-text.field-0.0 BadLine c.from_residual-in_err-text.ensures.1 is)))
