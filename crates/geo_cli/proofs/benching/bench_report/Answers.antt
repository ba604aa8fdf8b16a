use Rattle.std.proofs.Common.{rules}
use Rattle.geo_cli.proofs.Benched.{bench_told}
use Rattle.geo_cli.proofs.benching.bench_report.Goals as goal

pub returns : goal.returns
returns c =
    bench_told c.args.number c.args.steps _ c.in_ok-program.program _ _ _ c.in_ok-program.ensures c.in_ok-lower.ensures
    c.count-points.ensures.count c.in_ok-text.ensures (search rules)
