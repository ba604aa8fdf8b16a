use Rattle.std.proofs.Common.{◌<◌, length, sym, ◌∙◌, arith}
use Rattle.geo_sample.proofs.OneTerm.{others_behind}
use Rattle.geo_sample.proofs.single_terms.is_first.Goals as goal

pub returns-in-len1-up-clause-others : goal.returns-in-len1-up-clause-others
returns-in-len1-up-clause-others c = λ e.
    let some : 0 < length c.args.powers.now = omega (arith, c.in-len1-up.len_at_least) in
    others_behind c.args.v c.args.powers.now _ c.requires some (sym c.eq.ensures ∙ e)
