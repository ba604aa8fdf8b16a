use Rattle.std.proofs.lemmas.Result.{IfOk-weaker}
use Rattle.geo_poly.proofs.Unions.{AllNumerators-longer}
use Rattle.geo_poly.proofs.replacement.with_rows.Goals as goal

pub returns-clause-rows : goal.returns-clause-rows
returns-clause-rows c =
    IfOk-weaker c.union.result _ _
    (λ vs more. AllNumerators-longer c.in_ok-more.more vs c.args.rows.now (λ v stands. more v (rw c.as_slice-2.ensures stands)) c.in_ok-more.ensures.rows)
    c.union.ensures.right
