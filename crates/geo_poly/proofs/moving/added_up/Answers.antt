use Rattle.std.proofs.Common.{◌+◌, refl, arith}
use Rattle.geo_poly.proofs.Moved.{one_is_moved}
use Rattle.geo_poly.proofs.MovedAmounts.{same_key}
use Rattle.geo_poly.proofs.moving.added_up.Goals as goal

pub loop-link-init : goal.loop-link-init
loop-link-init g c =
    let keys = g.K.MonomialKeys.keys c.args.keys.now in
    record {
      index = c.requires.index;
      adds = λ next same. same_key c.args.p.now c.args.rows.now c.args.vars.now keys c.args.id next (next + c.one-sum.result) (omega (arith, c.one-sum.ensures.is)) same;
    }

pub loop-link-preserved : goal.loop-link-preserved
loop-link-preserved g c =
    let keys = g.K.MonomialKeys.keys c.args.keys.now in
    let amount = c.in_ok-amount.amount in
    let earlier = c.in-Some.ensures.earlier in
    record {
      index = omega (arith, earlier, c.loop-link.invariant.index);
      adds = λ next same.
          same_key c.args.p.now c.args.rows.now c.args.vars.now keys c.args.id (next + amount + c.loop-link.sum) (next + c.in_ok-sum.sum)
          (omega (arith, c.in_ok-sum.ensures))
          (c.loop-link.invariant.adds (next + amount) (c.in_ok-amount.ensures next same));
    }

pub returns : goal.returns
returns g c =
    let p = c.args.p.now in
    let keys = g.K.MonomialKeys.keys c.args.keys.now in
    let one = one_is_moved p c.args.rows.now c.args.vars.now keys c.loop-link.rest (record { 0 = 0 })
    (g.met.K.MonomialKeys.first c.args.keys.now) c.one-sum.ensures.within c.in_default.ensures.none refl in
    same_key p c.args.rows.now c.args.vars.now keys c.args.id (0 + c.loop-link.sum) c.loop-link.sum (omega arith) (c.loop-link.invariant.adds 0 one)
