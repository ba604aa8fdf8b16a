use Rattle.std.proofs.Common.{◌<◌, ap, ◌∙◌, arith}
use Rattle.mono_store.specs.Words.{Limits, word_count}
use Rattle.geo_poly.specs.Shared.{told_powers}
use Rattle.elim_apply.specs.Inner.KeptShares.{word_share}
use Rattle.elim_apply.proofs.KeptShares.{told_share}
use Rattle.elim_apply.proofs.shares.word_share_of.Goals as goal

pub returns-clause-share : goal.returns-clause-share
returns-clause-share c = λ rows are.
    let p = c.args.p.now in
    let known = c.args.known.now in
    let id = c.args.id in
    let within : c.args.id.0 < word_count c.args.p.now.monos.now.limits = omega (arith, c.words.ensures.count, c.if-id-words.false) in
    c.widened.ensures rows (told_powers p id)
    (c.in_ok-share.ensures.share ∙ ap (λ (limits : Limits). word_share known limits id.0) c.digits.ensures
    ∙ told_share rows p known id are c.requires.index within)
