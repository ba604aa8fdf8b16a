use Rattle.elim_apply.proofs.KeptShares.{begun_all}
use Rattle.elim_apply.proofs.kept_shares.KeptShares.tail_of.Goals as goal

pub returns-clause-share : goal.returns-clause-share
returns-clause-share c =
    let head = c.in_ok-share.field-0 in
    begun_all c.args.known.now c.args.digits.now head.share c.args.word head.word head.room c.in_ok-share.ensures.head c.in_ok-share.ensures.whole
    c.in_ok-share.ensures.room

pub returns-clause-kept : goal.returns-clause-kept
returns-clause-kept c =
    let head = c.in_ok-share.field-0 in
    c.keep_tail.ensures c.args.known.now c.args.digits.now c.requires.kept
    (begun_all c.args.known.now c.args.digits.now head.share c.args.word head.word head.room c.in_ok-share.ensures.head c.in_ok-share.ensures.whole
    c.in_ok-share.ensures.room)
