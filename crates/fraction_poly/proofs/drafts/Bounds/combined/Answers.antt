use Rattle.fraction_poly.proofs.DraftBounds.{bounds-product}
use Rattle.fraction_poly.proofs.drafts.Bounds.combined.Goals as goal

pub returns-in-Product : goal.returns-in-Product
returns-in-Product c f g left right =
    rw c.in-Product.is (bounds-product c.args.self c.args.other c.times.result f g left right c.times.ensures.weight c.times.ensures.count c.times.ensures.degree)
