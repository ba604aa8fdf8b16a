use Rattle.std.proofs.Common.{◌≡◌, ◌+◌, ◌*◌, length, rules}
use Rattle.proof_log.proofs.Lengths.{polynomial_short}
use Rattle.proof_log.proofs.bounds.polynomial_bound.Goals as goal

pub returns : goal.returns
returns c =
    let made : c.in_ok-each.each ≡ c.in_ok-powers_bound.field-0 + 41 = search rules in
    let times : c.in_ok-terms.terms ≡ length c.args.poly.now * c.in_ok-each.each = search rules in
    let added : c.in_ok-sum.sum ≡ c.in_ok-terms.terms + c.args.head = search rules in
    let last : c.in_ok-bound.bound ≡ c.in_ok-sum.sum + 1 = search rules in
    polynomial_short c.shared.result c.args.poly.now _ _ _ _ _ _ c.shared.ensures.terms c.shared.ensures.valid
    c.in_ok-powers_bound.ensures made times added last
