use Rattle.proof_log.proofs.Growth.{terms_in_order}
use Rattle.proof_log.proofs.reader.Reader.polynomial.Goals as goal

pub gather-requires-clause-in_order : goal.gather-requires-clause-in_order
gather-requires-clause-in_order c = terms_in_order c.in_ok-list.list c.in_ok-list.ensures.read.fits
