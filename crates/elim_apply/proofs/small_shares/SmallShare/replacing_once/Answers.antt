use Rattle.std.proofs.Common.{◌≡◌, ℕ, ◌+◌, ◌*◌, ◌^◌, refl, sym, ap, ◌∙◌, arith}
use Rattle.elim_apply.proofs.SmallNumbers.{power_one}
use Rattle.elim_apply.proofs.small_shares.SmallShare.replacing_once.Goals as goal

pub returns : goal.returns
returns c =
    let s = c.args.self in
    let n = c.args.row.now.numbers in
    let exponents : c.in_ok-checked_add.field-0 ≡ c.args.self.exponents + 1 = omega (arith, c.in_ok-checked_add.ensures.1) in
    let denominators : c.in_ok-checked_add-2.field-0 ≡ c.args.self.denominators + c.args.row.now.numbers.power * 1 =
    omega (arith, c.in_ok-checked_add-2.ensures.1) in
    let count : c.in_ok-checked_mul.field-0 ≡ c.args.self.count * c.args.row.now.numbers.ka ^ 1 =
    c.in_ok-checked_mul.ensures.1 ∙ ap (λ (k : ℕ). s.count * k) (c.in_ok-small.ensures ∙ sym (power_one n.ka 1 refl)) in
    let weight : c.in_ok-checked_mul-2.field-0 ≡ c.args.self.weight * c.args.row.now.numbers.wa ^ 1 =
    c.in_ok-checked_mul-2.ensures.1 ∙ ap (λ (k : ℕ). s.weight * k) (c.in_ok-small-2.ensures ∙ sym (power_one n.wa 1 refl)) in
    let degree : c.in_ok-checked_add-3.field-0 ≡ c.args.self.degree + c.args.row.now.numbers.ga * 1 =
    omega (arith, c.in_ok-checked_add-3.ensures.1, c.in_ok-small-3.ensures) in
    λ i. record { exponents = exponents i; denominators = denominators i; count = count i; weight = weight i; degree = degree i }
