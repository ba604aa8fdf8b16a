use Rattle.geo_poly.specs.Shared.{told_powers}
use Rattle.geo_chain.specs.Inner.Searches.{IsAsHigh, MakesPoint}
use Rattle.geo_chain.proofs.HighestPoints.{by_height}
use Rattle.geo_chain.proofs.Searches.{last_power, next_power}
use Rattle.geo_chain.proofs.highest.highest_in.Goals as goal

pub loop-first-init : goal.loop-first-init
loop-first-init c = record { index = c.requires; goes = λ after h. h }

pub loop-first-preserved : goal.loop-first-preserved
loop-first-preserved c =
    let p = c.args.p.now in
    record {
      index = c.in-Some.ensures.index;
      goes =
          next_power IsAsHigh by_height (MakesPoint c.args.steps.now) (told_powers p c.args.id) (told_powers p c.loop-first.rest) (told_powers p c.in-Some.first.rest)
          c.in-Some.first.var c.in-Some.first.exponent c.args.before c.loop-first.highest c.highest_with-highest.result c.in-Some.ensures.power
          c.highest_with-highest.ensures c.loop-first.invariant.goes;
    }

pub returns : goal.returns
returns c =
    let p = c.args.p.now in
    last_power IsAsHigh by_height (MakesPoint c.args.steps.now) (told_powers p c.args.id) (told_powers p c.loop-first.rest) c.args.before c.loop-first.highest
    c.in_default.ensures.none c.loop-first.invariant.goes
