use Rattle.proof_log.proofs.Joined.{after_byte, grown, joined_more}
use Rattle.proof_printer.specs.Inner.Names.{naming_in}
use Rattle.proof_printer.proofs.namer.Namer.push_points.Goals as goal

pub loop-point-preserved : goal.loop-point-preserved
loop-point-preserved c =
    let next = joined_more 44 (λ a. (naming_in c.args.self.now).point a.0) c.args.first c.args.others.now c.loop-point.point-index (record { 0 = 0 }) c.loop-point-test.true in
    let grew = after_byte _ _ _ _ 44 c.in_ok-push-2.ensures.items c.in_ok-push-3.ensures in
    grown _ _ _ _ _ _ c.loop-point.invariant grew next
