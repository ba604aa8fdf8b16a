use Rattle.std.proofs.Common.{inr, rules}
use Rattle.geo_c.specs.Due.{IsTextDue}
use Rattle.geo_c.proofs.Refused.{error_told}
use Rattle.geo_c.proofs.printing.print_log.Goals as goal

pub returns-in-Err : goal.returns-in-Err
returns-in-Err c =
    error_told (IsTextDue c.args.log.now c.args.steps) c.args.log.now _ _ _ _ c.args.steps (λ due is. inr (c.if-log-gt-LOG_LIMIT.false, inr is)) c.in-Err.error _ (search rules)
    c.of_error.ensures c.tell-in-Err.ensures
