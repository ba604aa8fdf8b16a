use Rattle.std.proofs.Common.{◌∙◌, sym, ap, ap₂, ◌+◌, unsigned_abs, FitsSigned, rules}
use Rattle.std.specs.Int.{w128}
use Rattle.std.proofs.lemmas.Int.{to_z-of_z}
use Rattle.geo_poly.proofs.Told.{item, norm_of-more}
use Rattle.geo_poly.proofs.reading.norm_at.Goals as goal

pub loop-coefficient-preserved : goal.loop-coefficient-preserved
loop-coefficient-preserved c =
    let p = c.args.p.now in
    let i = c.loop-coefficient.coefficient-index in
    let fits : FitsSigned w128 (item c.args.p.now.list.now c.loop-coefficient.coefficient-index).1 = search rules in
    ap₂ ◌+◌ c.loop-coefficient.invariant (c.unsigned_abs-norm.ensures.value ∙ ap unsigned_abs (to_z-of_z w128 (item p.list.now i).1 fits))
    ∙ sym (norm_of-more p i c.loop-coefficient-test.true)
