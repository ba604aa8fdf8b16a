use Rattle.std.proofs.Common.{◌+◌, ◌-◌, ◌^◌}
use Rattle.elim_apply.proofs.CappedRows.{capped_product}
use Rattle.elim_apply.proofs.share.Share.charge.Goals as goal

pub returns : goal.returns
returns c =
    let lacking = c.args.top - c.args.self.denominators in
    rw (c.capped_product.ensures, c.capped_product-products.ensures, c.capped_power.ensures)
    (capped_product (c.args.self.exponents + lacking + 1) c.args.self.count (c.args.count ^ lacking) (2 ^ 128 - 1))
