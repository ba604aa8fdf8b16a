use Rattle.std.proofs.Common.{[], ◌<◌, length, pos, arith}
use Rattle.proof_printer.specs.Inner.Names.{naming_in}
use Rattle.proof_printer.specs.Polynomials.{term_text}
use Rattle.proof_log.proofs.Joined.{after_byte, grown, joined_next}
use Rattle.proof_printer.proofs.namer.Namer.push_polynomial.Goals as goal

pub loop-i-preserved : goal.loop-i-preserved
loop-i-preserved c =
    let within : c.loop-i.i < length c.args.poly.now = omega arith in
    let next = joined_next 32 (term_text (naming_in c.args.self.now)) c.args.poly.now c.loop-i.i ([], pos 0) (omega arith) within in
    let term = rw c.shared.ensures.terms at c.in_ok-push_term-2.ensures in
    let grew = after_byte _ _ _ _ 32 c.in_ok-push-2.ensures.items term in
    grown _ _ _ _ _ _ c.loop-i.invariant grew next
