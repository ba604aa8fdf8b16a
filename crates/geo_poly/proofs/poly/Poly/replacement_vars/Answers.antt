use Rattle.std.proofs.lemmas.Result.{IfOk-weaker}
use Rattle.geo_poly.proofs.Unions.{AllNumerators-longer, AllVariables-longer}
use Rattle.geo_poly.proofs.poly.Poly.replacement_vars.Goals as goal

pub returns-clause-known : goal.returns-clause-known
returns-clause-known c =
    IfOk-weaker c.with_others.result _ _
    (λ vs h. AllVariables-longer c.vars.result.now vs c.args.self.now (λ v stands. h v (c.in_ok-vars.ensures.own v stands))
    (c.vars.ensures.known c.args.self.now c.deref.ensures))
    c.with_others.ensures.known

pub returns-clause-rows_known : goal.returns-clause-rows_known
returns-clause-rows_known c =
    IfOk-weaker c.with_others.result _ _
    (λ vs h. AllNumerators-longer c.in_ok-vars.vars vs c.args.rows.now h c.in_ok-vars.ensures.rows)
    c.with_others.ensures.known

pub returns-clause-den_known : goal.returns-clause-den_known
returns-clause-den_known c =
    IfOk-weaker c.with_others.result _ _
    (λ vs h. AllVariables-longer c.vars-2.result.now vs c.args.den.now.poly (λ v stands. h v (rw c.as_slice.ensures stands))
    (c.vars-2.ensures.known c.args.den.now.poly c.deref-2.ensures))
    c.with_others.ensures.others
