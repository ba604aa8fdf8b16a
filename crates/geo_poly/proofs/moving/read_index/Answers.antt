use Rattle.std.proofs.Common.{subst}
use Rattle.geo_poly.specs.Inner.Moved.{IsMovedTo}
use Rattle.geo_poly.proofs.moving.read_index.Goals as goal

pub returns-in-Some-clause-index : goal.returns-in-Some-clause-index
returns-in-Some-clause-index g c =
    (subst (IsMovedTo c.args.p.now c.args.rows.now c.args.vars.now (g.K.MonomialKeys.keys c.new_index.new.keys) c.args.id) c.in-Some.is
    c.in_ok-found.ensures.moved).new_index

pub returns-in-Some-clause-powers : goal.returns-in-Some-clause-powers
returns-in-Some-clause-powers g c =
    (subst (IsMovedTo c.args.p.now c.args.rows.now c.args.vars.now (g.K.MonomialKeys.keys c.new_index.new.keys) c.args.id) c.in-Some.is
    c.in_ok-found.ensures.moved).powers
