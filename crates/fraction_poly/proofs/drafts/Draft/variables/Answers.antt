use Rattle.fraction_poly.specs.Inner.Drafts.{by_number}
use Rattle.fraction_poly.proofs.Leaves.{leaves_longer}
use Rattle.fraction_poly.proofs.drafts.Draft.variables.Goals as goal

pub returns-clause-known : goal.returns-clause-known
returns-clause-known c =
    leaves_longer c.push_variables.new.variables.items c.in_order.result (by_number c.args.first.now c.args.second.now)
    c.in_order.ensures.known c.args.self.now c.in_ok-push_variables.ensures.known
