use Rattle.std.proofs.Common.{rules, ◌≡◌, neg_ℤ, ◌*ℤ◌}
use Rattle.frac_laws.proofs.Turned.{opposite_number}
use Rattle.frac_laws.proofs.frac.Frac.opposite.Goals as goal

pub returns : goal.returns
returns c =
    let f = c.args.self.now in
    let e : c.new.result.num *ℤ f.den ≡ neg_ℤ f.num *ℤ c.new.result.den = search rules in
    opposite_number f c.new.result e
