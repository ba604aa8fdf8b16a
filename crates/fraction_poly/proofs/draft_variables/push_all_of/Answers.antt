use Rattle.std.proofs.lemmas.Result.{on_ok_weaker}
use Rattle.geo_poly.proofs.Unions.{AllVariables-longer}
use Rattle.fraction_poly.proofs.draft_variables.push_all_of.Goals as goal

pub returns-clause-known : goal.returns-clause-known
returns-clause-known c =
    on_ok_weaker c.push_all.result
    (λ more. AllVariables-longer c.vars.result.now c.push_all.new.variables.items c.args.poly.now
    (λ v stands. more v (rw c.as_slice.ensures stands)) (c.vars.ensures.known c.args.poly.now c.deref.ensures))
    c.push_all.ensures.known
