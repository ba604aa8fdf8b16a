use Rattle.std.proofs.Common.{◌≡◌, ◌≤◌, ◌^◌, ltb, ap, ◌∙◌, sym, arith, rules}
use Rattle.std.specs.Prelude.{filter, sum}
use Rattle.mono_store.specs.declared.words.Digit.{Digit}
use Rattle.mono_store.specs.Words.{digit_limits, word_count}
use Rattle.mono_store.proofs.DigitLists.{AreDigits-of, digit_limits-are}
use Rattle.mono_store.proofs.WithoutEmpty.{above_zero, digits_of-above_zero, sum-above_zero, word_count-above_zero}
use Rattle.mono_store.proofs.words.Digits.without_empty.Goals as goal

pub invariant_of-result : goal.invariant_of-result
invariant_of-result c =
    let digits = c.self.inside.digits.items in
    let ns = digit_limits digits in
    let kept : c.in_ok-digits.digits.items ≡ filter (λ (d : Digit). ltb 0 d.limit) digits = search rules in
    let are = kept ∙ ap (filter (λ (d : Digit). ltb 0 d.limit)) c.self.invariant.ordered ∙ digits_of-above_zero ns in
    let few : word_count (above_zero ns) ≤ 2 ^ 63 = omega (arith, word_count-above_zero ns, c.self.invariant.few) in
    let degree : sum (above_zero ns) ≤ 65535 = omega (arith, sum-above_zero ns, c.self.invariant.degree) in
    AreDigits-of (above_zero ns) c.in_ok-digits.digits.items c.self.inside.words are
    (c.self.invariant.counted ∙ sym (word_count-above_zero ns)) few degree

pub returns : goal.returns
returns c =
    let digits = c.self.inside.digits.items in
    let ns = digit_limits digits in
    let kept : c.in_ok-digits.digits.items ≡ filter (λ (d : Digit). ltb 0 d.limit) digits = search rules in
    let are = kept ∙ ap (filter (λ (d : Digit). ltb 0 d.limit)) c.self.invariant.ordered ∙ digits_of-above_zero ns in
    digit_limits-are (above_zero ns) c.in_ok-digits.digits.items are ∙ ap above_zero c.self.view_is
