use Rattle.geo_chain.proofs.Points.{of_three}
use Rattle.geo_chain.proofs.highest.highest_of_three.Goals as goal

pub returns : goal.returns
returns c =
    of_three c.args.steps.now c.args.a c.args.b c.args.c c.args.before c.higher.result c.higher-2.result c.higher-3.result
    c.higher.ensures c.higher-2.ensures c.higher-3.ensures
