use Rattle.geo_chain.proofs.Points.{of_four}
use Rattle.geo_chain.proofs.highest.highest_of_four.Goals as goal

pub returns : goal.returns
returns c =
    of_four c.args.steps.now c.args.a c.args.b c.args.c c.args.d c.args.before c.higher.result c.higher-third.result c.higher-2.result c.higher-3.result
    c.higher.ensures c.higher-third.ensures c.higher-2.ensures c.higher-3.ensures
