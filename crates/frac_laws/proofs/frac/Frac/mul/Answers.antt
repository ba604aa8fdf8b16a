use Rattle.std.proofs.Common.{rules, ◌≡◌, ◌*ℤ◌}
use Rattle.std.specs.Prelude.{IfOk}
use Rattle.frac_laws.specs.declared.frac.Frac.{Frac}
use Rattle.frac_laws.proofs.Sums.{each_ok, product_number, product_too_large}
use Rattle.frac_laws.proofs.frac.Frac.mul.Goals as goal

pub returns-clause-product : goal.returns-clause-product
returns-clause-product c =
    let f = c.args.self.now in
    let h = c.args.other.now in
    let first : c.new-first.result.num *ℤ h.den ≡ f.num *ℤ c.new-first.result.den = search rules in
    let second : c.new-second.result.num *ℤ f.den ≡ h.num *ℤ c.new-second.result.den = search rules in
    let product : IfOk c.over.result (λ (r : Frac). r.num *ℤ (c.new-first.result.den *ℤ c.new-second.result.den) ≡ c.new-first.result.num *ℤ c.new-second.result.num *ℤ r.den) = search rules in
    each_ok c.over.result product (λ r e. product_number f h c.new-first.result c.new-second.result r first second e)

pub returns-clause-too_large : goal.returns-clause-too_large
returns-clause-too_large c =
    let f = c.args.self.now in
    let h = c.args.other.now in
    let first : c.new-first.result.num *ℤ h.den ≡ f.num *ℤ c.new-first.result.den = search rules in
    let second : c.new-second.result.num *ℤ f.den ≡ h.num *ℤ c.new-second.result.den = search rules in
    product_too_large f h c.new-first.result c.new-second.result c.over.result first second (search rules) (search rules)
