use Rattle.std.proofs.Common.{◌≡◌, ◌∙◌, rules}
use Rattle.geo_poly.specs.Inner.Visits.{marked}
use Rattle.geo_poly.proofs.MarkedVariables.{marked_variables_of}
use Rattle.geo_poly.proofs.polynomial_variables.variables_at.Goals as goal

pub returns : goal.returns
returns c =
    let found : c.in_ok-items.items.items ≡ marked c.args.p.now.vars.now c.in_ok-known.known.items = search rules in
    found ∙ marked_variables_of c.args.p.now c.in_ok-known.known.items c.requires c.in_ok-known.ensures
