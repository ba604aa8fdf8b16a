use Rattle.std.specs.Fmt.{signed_decimal}
use Rattle.proof_printer.specs.Inner.Names.{naming_in}
use Rattle.proof_printer.specs.Polynomials.{power_text}
use Rattle.proof_log.proofs.Joined.{appended_next, grown}
use Rattle.proof_printer.proofs.namer.Namer.push_factor.Goals as goal

pub loop-j-preserved : goal.loop-j-preserved
loop-j-preserved c =
    let next = appended_next (signed_decimal c.args.factor.now.1) (power_text (naming_in c.args.self.now)) c.args.factor.now.0 c.loop-j.j c.power-variable.result c.power-variable.ensures in
    grown _ _ _ _ _ _ c.loop-j.invariant c.in_ok-push_power.ensures next
