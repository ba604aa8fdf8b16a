use Rattle.std.proofs.Common.{rules, ◌≡◌, pos, ◌*ℤ◌}
use Rattle.frac_laws.proofs.Turned.{inverse_number, inverse_of_zero}
use Rattle.frac_laws.proofs.frac.Frac.inverse.Goals as goal

pub returns-then-self-eq0 : goal.returns-then-self-eq0
returns-then-self-eq0 c =
    let f = c.args.self.now in
    let z : f.num ≡ pos 0 = search rules in
    let e : c.new.result.num *ℤ pos 1 ≡ pos 0 *ℤ c.new.result.den = search rules in
    inverse_of_zero f c.new.result z e

pub returns-else-self-eq0 : goal.returns-else-self-eq0
returns-else-self-eq0 c =
    let f = c.args.self.now in
    let r = c.new-else-self-eq0.result in
    let e : r.num *ℤ f.num ≡ f.den *ℤ r.den = search rules in
    inverse_number f r (λ z. search (rules, z)) e
