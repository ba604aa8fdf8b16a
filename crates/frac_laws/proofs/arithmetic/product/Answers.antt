use Rattle.std.proofs.Common.{rules, ◌≡◌, pos, ◌*ℤ◌}
use Rattle.frac_laws.proofs.Sums.{product_some}
use Rattle.frac_laws.proofs.arithmetic.product.Goals as goal

pub returns-in-Some-clause-nonzero : goal.returns-in-Some-clause-nonzero
returns-in-Some-clause-nonzero c = λ s t z.
    let null : c.args.a *ℤ c.args.b ≡ pos 0 = search (rules, z) in
    product_some c.args.a c.args.b s t null
