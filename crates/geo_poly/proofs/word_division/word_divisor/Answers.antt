use Rattle.std.proofs.Common.{◌≡◌, ◌^◌, ◌<◌, ◌≤◌, length, arith, rules}
use Rattle.std.specs.Prelude.{sum}
use Rattle.mono_store.specs.Words.{word_count}
use Rattle.geo_poly.proofs.DividedWords.{divisor_is}
use Rattle.geo_poly.proofs.word_division.word_divisor.Goals as goal

pub returns-clause-divisor : goal.returns-clause-divisor
returns-clause-divisor c =
    let none : length c.args.p.now.monos.now.links ≡ 0 = omega (arith, c.links.ensures, c.if-links-gt0.false) in
    let places : length c.digits-digits.result.now ≤ length c.args.p.now.vars.now = omega (arith, c.count.ensures.count, c.if-count-p.false) in
    let known : c.in_ok-number.number < length c.digits-digits.result.now = omega (arith, c.count-2.ensures.count, c.if-number-count.false) in
    let degree : sum c.digits-digits.result.now ≤ 65535 = search rules in
    let few : word_count c.digits-digits.result.now ≤ 2 ^ 63 = search rules in
    divisor_is c.args.p.now _ c.digits-digits.result.now c.digits-digits.ensures none places degree few known (search rules) c.power.ensures.word
    c.count_above.ensures
