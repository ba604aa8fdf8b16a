use Rattle.std.proofs.Common.{None, arith}
use Rattle.geo_chain.specs.Inner.Searches.{IsAsHigh, MakesPoint}
use Rattle.geo_chain.proofs.HighestPoints.{by_height}
use Rattle.geo_chain.proofs.Searches.{last_listed, next_listed}
use Rattle.geo_chain.proofs.highest.highest_listed.Goals as goal

pub loop-v-init : goal.loop-v-init
loop-v-init c = λ after h. h

pub loop-v-preserved : goal.loop-v-preserved
loop-v-preserved c =
    next_listed IsAsHigh by_height (MakesPoint c.args.steps.now) c.args.variables.now c.loop-v.v-index _ None c.loop-v.highest c.highest_with-highest.result
    c.loop-v-test.true c.highest_with-highest.ensures c.loop-v.invariant

pub returns : goal.returns
returns c =
    last_listed IsAsHigh by_height (MakesPoint c.args.steps.now) c.args.variables.now c.loop-v.v-index None c.loop-v.highest (omega (arith, c.loop-v-test.false))
    c.loop-v.invariant
