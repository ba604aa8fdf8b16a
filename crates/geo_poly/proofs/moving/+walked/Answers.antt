use Rattle.std.proofs.Common.{subst, arith, rules}
use Rattle.geo_poly.specs.Inner.Moved.{IsMovedTo}
use Rattle.geo_poly.proofs.Moved.{one_is_moved}
use Rattle.geo_poly.proofs.moving.+walked.Goals as goal

pub returns-in-None-clause-moved : goal.returns-in-None-clause-moved
returns-in-None-clause-moved g t c =
    one_is_moved c.args.p.now c.args.rows.now c.args.vars.now (g.K.MonomialKeys.keys c.args.keys.now) c.args.id (record { 0 = c.one.result })
    (g.met.K.MonomialKeys.first c.args.keys.now) c.one.ensures.within c.in-None.ensures.none c.one.ensures.is

pub moved_power-requires-clause-next : goal.moved_power-requires-clause-next
moved_power-requires-clause-next g t c =
    subst (IsMovedTo c.args.p.now c.args.rows.now c.args.vars.now (g.K.MonomialKeys.keys c.walked.new.keys) c.in-Some.link.next) c.in-Some-rest.is
    c.in_ok-rest.ensures.moved

pub walked-requires : goal.walked-requires
walked-requires g t c = λ κs below. (
  search rules,
  (
    below,
    (
      c.requires.rising,
      (c.requires.parts, (c.requires.moves, (let earlier = c.in-Some.ensures.earlier in omega (arith, earlier, c.requires.index)))),
    ),
  ),
)
