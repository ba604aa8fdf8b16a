use Rattle.std.proofs.Common.{sym}
use Rattle.geo_poly.proofs.KnownVariables.{insert_known, known_at}
use Rattle.geo_poly.proofs.polynomial_variables.insert_unless.Goals as goal

pub returns-then-has_at : goal.returns-then-has_at
returns-then-has_at c =
    sym (insert_known c.args.variables.now.keys c.args.v c.requires.rising
    (known_at c.args.variables.now.keys c.args.former.now c.args.i c.args.v c.requires.former (c.has_at.ensures c.if-has_at.true)))
