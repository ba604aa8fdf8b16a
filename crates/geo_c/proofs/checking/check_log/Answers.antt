use Rattle.std.proofs.Common.{inr, rules}
use Rattle.geo_c.specs.Due.{IsCheckDue}
use Rattle.geo_c.proofs.Refused.{error_told}
use Rattle.geo_c.proofs.checking.check_log.Goals as goal

pub returns-in-Ok : goal.returns-in-Ok
returns-in-Ok c = c.accept.ensures c.args.log.now c.args.steps c.if-log-gt-LOG_LIMIT.false c.in-Ok.ensures.accepted.accepts

pub returns-in-Err : goal.returns-in-Err
returns-in-Err c =
    error_told (IsCheckDue c.args.log.now c.args.steps) c.args.log.now _ _ _ _ c.args.steps (λ due is. inr (c.if-log-gt-LOG_LIMIT.false, inr is)) c.in-Err.error _ (search rules)
    c.of_error.ensures c.tell-in-Err.ensures
