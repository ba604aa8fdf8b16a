use Rattle.log_checker.proofs.Writing.{accepted_polynomials_are_writable}
use Rattle.log_checker.proofs.laws.accepted_polynomials_are_writable.Goals as goal

pub returns : goal.returns
returns c = accepted_polynomials_are_writable
