use Rattle.std.proofs.Common.{◌+◌, ◌≤◌, ◌∙◌, ap, drop, arith}
use Rattle.std.proofs.lemmas.Grind.{common_steps}
use Rattle.geo_base.proofs.LineLemmas.{skip-range}
use Rattle.geo_base.proofs.piece.Piece.skip.Goals as goal

pub returns : goal.returns
returns c =
    let fits : c.self.inside.start + c.args.count ≤ c.self.inside.end = grind (arith, common_steps) in
    skip-range c.self.inside.bytes.items c.self.inside.start c.self.inside.end c.args.count fits
    ∙ ap (drop c.args.count) c.self.view_is
