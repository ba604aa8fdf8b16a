use Rattle.std.proofs.Common.{refl}
use Rattle.elim_apply.proofs.LineShares.{share_times}
use Rattle.elim_apply.proofs.share.Share.times.Goals as goal

pub returns : goal.returns
returns c = λ rows m h.
    share_times rows m c.args.coefficient c.args.self _ refl refl refl refl c.capped_product.ensures h
