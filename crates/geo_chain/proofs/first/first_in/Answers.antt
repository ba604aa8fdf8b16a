use Rattle.geo_poly.specs.Shared.{told_powers}
use Rattle.geo_chain.specs.Inner.Searches.{IsFitting, IsNotAfter}
use Rattle.geo_chain.proofs.FirstFitting.{by_order}
use Rattle.geo_chain.proofs.Searches.{last_power, next_power}
use Rattle.geo_chain.proofs.first.first_in.Goals as goal

pub loop-power-init : goal.loop-power-init
loop-power-init c = record { index = c.requires; goes = λ after h. h }

pub loop-power-preserved : goal.loop-power-preserved
loop-power-preserved c =
    let p = c.args.p.now in
    record {
      index = c.in-Some.ensures.index;
      goes =
          next_power IsNotAfter by_order (IsFitting c.args.sought) (told_powers p c.args.id) (told_powers p c.loop-power.rest) (told_powers p c.in-Some.power.rest)
          c.in-Some.power.var c.in-Some.power.exponent c.args.before c.loop-power.first c.earlier-first.result c.in-Some.ensures.power
          c.earlier-first.ensures c.loop-power.invariant.goes;
    }

pub returns : goal.returns
returns c =
    let p = c.args.p.now in
    last_power IsNotAfter by_order (IsFitting c.args.sought) (told_powers p c.args.id) (told_powers p c.loop-power.rest) c.args.before c.loop-power.first
    c.in_default.ensures.none c.loop-power.invariant.goes
