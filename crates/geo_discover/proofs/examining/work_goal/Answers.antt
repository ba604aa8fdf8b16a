use Rattle.std.proofs.lemmas.Result.{IfOk-weaker}
use Rattle.geo_discover.proofs.examining.work_goal.Goals as goal

pub returns-clause-ok : goal.returns-clause-ok
returns-clause-ok c =
    IfOk-weaker c.work_rest-verdict.result _ _ (λ v h. (c.work_rest-verdict.new.budget.left, h)) c.work_rest-verdict.ensures.ok
