use Rattle.std.proofs.Common.{◌^◌, ◌≤◌, arith}
use Rattle.std.specs.Prelude.{sum}
use Rattle.mono_store.specs.Words.{word_count}
use Rattle.mono_store.proofs.DigitLists.{AreDigits-of, digit_limits-are}
use Rattle.mono_store.proofs.words.Digits.new.Goals as goal

pub invariant_of-result : goal.invariant_of-result
invariant_of-result c =
    let few : word_count c.args.limits.now ≤ 2 ^ 63 = omega (arith, c.if-words-gt-MOST_WORDS.false, c.in-Some.ensures.count) in
    let degree : sum c.args.limits.now ≤ 65535 = omega (arith, c.degree.ensures, c.if-degree-gt-MOST_DEGREE.false) in
    AreDigits-of c.args.limits.now c.in_ok-digits.digits.items c.in-Some.words c.in_ok-digits.ensures c.in-Some.ensures.count few degree

pub returns-clause-digits : goal.returns-clause-digits
returns-clause-digits c = digit_limits-are c.args.limits.now c.in_ok-digits.digits.items c.in_ok-digits.ensures
