use Rattle.std.proofs.Common.{arith}
use Rattle.proof_log.proofs.Lengths.{one_digit, ten_digits, two_digits}
use Rattle.proof_log.proofs.bounds.number_bound.Goals as goal

pub returns-then-n-lt10-clause-digits : goal.returns-then-n-lt10-clause-digits
returns-then-n-lt10-clause-digits c = one_digit c.args.n c.if-n-lt10.true

pub returns-then-n-lt100-clause-digits : goal.returns-then-n-lt100-clause-digits
returns-then-n-lt100-clause-digits c = two_digits c.args.n c.if-n-lt100.true

pub returns-else-n-lt100-clause-digits : goal.returns-else-n-lt100-clause-digits
returns-else-n-lt100-clause-digits c = ten_digits c.args.n (omega (arith, c.ranges.n.fits))
