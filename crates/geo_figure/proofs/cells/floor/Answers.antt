use Rattle.std.proofs.Common.{rules, ◌≡◌, unsigned_abs, ◌∙◌, ap₂}
use Rattle.std.specs.Prelude.{◌/◌}
use Rattle.geo_figure.proofs.ShareLaws.{floor_is}
use Rattle.geo_figure.proofs.cells.floor.Goals as goal

pub returns : goal.returns
returns c =
    let num : c.unsigned_abs.result ≡ unsigned_abs c.args.share.num = search rules in
    let den : c.unsigned_abs-2.result ≡ unsigned_abs c.args.share.den = search rules in
    λ a h. ap₂ ◌/◌ num den ∙ floor_is c.args.share a h
