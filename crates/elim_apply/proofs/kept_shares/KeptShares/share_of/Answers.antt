use Rattle.std.proofs.Common.{◌≡◌, ap, subst, ◌∙◌}
use Rattle.std.specs.Prelude.{IfSome}
use Rattle.elim_apply.specs.declared.small_shares.SmallShare.{SmallShare}
use Rattle.elim_apply.specs.Inner.KeptShares.{joined}
use Rattle.elim_apply.proofs.KeptShares.{begun_whole}
use Rattle.elim_apply.proofs.kept_shares.KeptShares.share_of.Goals as goal

pub returns-clause-share : goal.returns-clause-share
returns-clause-share c =
    let known = c.args.known.now in
    let limits = c.args.digits.now in
    let head = c.in_ok-head.head in
    let whole =
    ap (joined head.share) c.in_ok-tail.ensures.share
    ∙ begun_whole known limits head.share c.args.word head.word head.room c.in_ok-head.ensures.head c.in_ok-head.ensures.up c.in_ok-head.ensures.near in
    subst (λ (x : SmallShare). IfSome c.joined.result (λ s. s ≡ x)) whole c.joined.ensures
