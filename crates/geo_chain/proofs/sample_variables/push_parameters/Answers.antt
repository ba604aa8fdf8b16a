use Rattle.geo_chain.proofs.Sampling.{at_parameter, one_more}
use Rattle.geo_chain.proofs.sample_variables.push_parameters.Goals as goal

pub loop-k-preserved : goal.loop-k-preserved
loop-k-preserved c = one_more _ _ _ _ _ _ c.loop-k.invariant
    (at_parameter c.loop-k.k c.args.count c.loop-k-test.true) c.in_ok-push.ensures.items
