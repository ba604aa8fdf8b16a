use Rattle.std.proofs.Common.{length}
use Rattle.geo_logs.proofs.NamedPoints.{named_points}
use Rattle.log_checker.proofs.DueMoves.{nothing_past}
use Rattle.log_checker.proofs.KeysInTurn.{false_not}
use Rattle.log_checker.proofs.moving.move_result_in.Goals as goal

pub returns-then-not-has_place-clause-refused : goal.returns-then-not-has_place-clause-refused
returns-then-not-has_place-clause-refused g c = λ q.
    nothing_past c.args.steps.now c.count.ensures.valid (length c.args.steps.now.steps) c.args.mv.now
    (λ below. false_not (c.if-not-has_place.ensures.1 below)) c.args.before.now c.requires.named

pub apply_known-requires-clause-points : goal.apply_known-requires-clause-points
apply_known-requires-clause-points g c = named_points c.args.steps.now (length c.args.steps.now.steps) c.args.before.now c.requires.named
