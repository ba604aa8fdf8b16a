use Rattle.std.proofs.Common.{arith}
use Rattle.proof_log.proofs.Found.{dotted_digit_read}
use Rattle.proof_log.proofs.digits.dotted_digit.Goals as goal

pub returns : goal.returns
returns c =
    let digit = c.if-not-is_ascii_digit.ensures.cases in
    dotted_digit_read c.args.bytes.now c.in_ok-first.more.now c.in_ok-dot.rest.now c.in_ok-first.first.now c.in_ok-dot.dot.now
    c.in_ok-first.ensures.cases.0 c.in_ok-dot.ensures.cases.0 (omega arith) (omega (arith, digit)) (omega (arith, digit))
