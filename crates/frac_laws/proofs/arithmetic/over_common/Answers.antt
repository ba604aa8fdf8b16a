use Rattle.std.proofs.Common.{rules, ◌≡◌, ◌<◌, ◌^◌, ◌*ℤ◌, ◌+ℤ◌, pos, unsigned_abs}
use Rattle.frac_laws.proofs.Sums.{none_past, product_some}
use Rattle.frac_laws.proofs.arithmetic.over_common.Goals as goal

pub new-requires-clause-nonzero : goal.new-requires-clause-nonzero
new-requires-clause-nonzero c = λ z.
    let null : c.args.b *ℤ c.args.left ≡ pos 0 = search (rules, z) in
    product_some c.args.b c.args.left c.requires.b c.requires.left null

pub returns-clause-fits : goal.returns-clause-fits
returns-clause-fits c =
    let first : unsigned_abs (c.args.a *ℤ c.args.left) < 2 ^ 127 = search rules in
    let second : unsigned_abs (c.args.c *ℤ c.args.right) < 2 ^ 127 = search rules in
    let whole : unsigned_abs (c.args.a *ℤ c.args.left +ℤ c.args.c *ℤ c.args.right) < 2 ^ 127 = search rules in
    let below : unsigned_abs (c.args.b *ℤ c.args.left) < 2 ^ 127 = search rules in
    none_past (c.args.a *ℤ c.args.left) (c.args.c *ℤ c.args.right) (c.args.b *ℤ c.args.left) first second whole below
