use Rattle.std.proofs.Common.{◌<◌, length, sym, ◌∙◌, arith}
use Rattle.geo_sample.proofs.OneTerm.{absent_before, exponent_at_first}
use Rattle.geo_sample.proofs.single_terms.exponent_in.Goals as goal

pub returns-in-Less : goal.returns-in-Less
returns-in-Less c =
    let some : 0 < length c.args.powers.now = omega (arith, c.in-len1-up.len_at_least) in
    absent_before c.args.v c.args.powers.now _ c.requires some (sym c.cmp.ensures ∙ c.in-Less.is)

pub returns-in-Equal : goal.returns-in-Equal
returns-in-Equal c =
    let some : 0 < length c.args.powers.now = omega (arith, c.in-len1-up.len_at_least) in
    exponent_at_first c.args.v c.args.powers.now _ c.requires some (sym c.cmp.ensures ∙ c.in-Equal.is)
