use Rattle.std.proofs.Common.{rules, ◌≡◌, pos, unsigned_abs, ◌+ℤ◌, ◌*ℤ◌}
use Rattle.std.specs.Prelude.{IfOk, ◌/◌}
use Rattle.std.specs.Int.{IsGcd}
use Rattle.frac_laws.specs.declared.frac.Frac.{Frac}
use Rattle.frac_laws.proofs.Sums.{sum_number, sum_too_large, each_ok}
use Rattle.frac_laws.proofs.frac.Frac.add.Goals as goal

pub returns-clause-sum : goal.returns-clause-sum
returns-clause-sum c =
    let f = c.args.self.now in
    let h = c.args.other.now in
    let b : c.unsigned_abs-b.result ≡ unsigned_abs f.den = search rules in
    let d : c.unsigned_abs-d.result ≡ unsigned_abs h.den = search rules in
    let greatest : IsGcd (unsigned_abs f.den) (unsigned_abs h.den) c.common_divisor-common.result = rw (b, d) at c.common_divisor-common.ensures.greatest in
    let sum : IfOk c.over_common.result (λ (r : Frac). r.num *ℤ (f.den *ℤ pos (unsigned_abs h.den / c.common_divisor-common.result))
    ≡ (f.num *ℤ pos (unsigned_abs h.den / c.common_divisor-common.result) +ℤ h.num *ℤ pos (unsigned_abs f.den / c.common_divisor-common.result)) *ℤ r.den) = search rules in
    each_ok c.over_common.result sum (λ r e. sum_number f h r c.common_divisor-common.result greatest.0 greatest.1 e)

pub returns-clause-too_large : goal.returns-clause-too_large
returns-clause-too_large c =
    let f = c.args.self.now in
    let h = c.args.other.now in
    let b : c.unsigned_abs-b.result ≡ unsigned_abs f.den = search rules in
    let d : c.unsigned_abs-d.result ≡ unsigned_abs h.den = search rules in
    let greatest : IsGcd (unsigned_abs f.den) (unsigned_abs h.den) c.common_divisor-common.result = rw (b, d) at c.common_divisor-common.ensures.greatest in
    sum_too_large f h c.common_divisor-common.result c.over_common.result greatest (search rules) (search rules)
