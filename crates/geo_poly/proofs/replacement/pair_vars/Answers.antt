use Rattle.std.proofs.lemmas.Result.{IfOk-weaker}
use Rattle.geo_poly.proofs.Unions.{AllVariables-longer}
use Rattle.geo_poly.proofs.replacement.pair_vars.Goals as goal

pub returns-clause-row : goal.returns-clause-row
returns-clause-row c =
    IfOk-weaker c.union.result _ _
    (λ vs more. AllVariables-longer c.row_vars.result.now vs c.args.row.now.num.poly more c.row_vars.ensures.known)
    c.union.ensures.left

pub returns-clause-other : goal.returns-clause-other
returns-clause-other c =
    IfOk-weaker c.union.result _ _
    (λ vs more. AllVariables-longer c.row_vars-2.result.now vs c.args.other.now.num.poly more c.row_vars-2.ensures.known)
    c.union.ensures.right
