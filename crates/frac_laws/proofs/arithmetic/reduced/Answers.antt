use Rattle.std.proofs.Common.{rules, ◌≡◌, ◌/◌, pos, ◌*ℤ◌, unsigned_abs}
use Rattle.std.specs.Int.{IsGcd}
use Rattle.frac_laws.specs.Lowest.{IsLowest, signed_by}
use Rattle.frac_laws.proofs.Coprime.{divided, divisor_some}
use Rattle.frac_laws.proofs.Sums.{reduced_is}
use Rattle.frac_laws.proofs.arithmetic.reduced.Goals as goal

pub invariant_of-result : goal.invariant_of-result
invariant_of-result c =
    let g = c.common_divisor-common.result in
    let greatest : IsGcd c.args.n c.args.d g = c.common_divisor-common.ensures.greatest in
    let low : IsGcd (c.args.n / g) (c.args.d / g) 1 = divided c.args.n c.args.d g (divisor_some g c.args.d c.requires.nonzero greatest.1) greatest in
    let num : unsigned_abs c.signed.result ≡ c.args.n / g = search rules in
    let den : unsigned_abs c.quotient.result ≡ c.args.d / g = search rules in
    let lowest : IsLowest c.signed.result (unsigned_abs c.quotient.result) = rw (num, den) low in
    record { fits = search rules; positive = search rules; nonzero = search rules; lowest = search (rules, lowest) }

pub returns : goal.returns
returns c =
    let g = c.common_divisor-common.result in
    let greatest : IsGcd c.args.n c.args.d g = c.common_divisor-common.ensures.greatest in
    let num : c.signed.result ≡ signed_by c.args.negative (c.args.n / g) = search rules in
    let den : c.quotient.result ≡ pos (c.args.d / g) = search rules in
    let whole : c.signed.result *ℤ pos c.args.d ≡ signed_by c.args.negative c.args.n *ℤ c.quotient.result =
    rw (num, den) (reduced_is c.args.negative c.args.n c.args.d g greatest.0 greatest.1) in
    search (rules, whole)
