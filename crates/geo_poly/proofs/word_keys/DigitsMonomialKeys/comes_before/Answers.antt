use Rattle.std.proofs.Common.{◌<◌, ◌∙◌, arith}
use Rattle.std.proofs.lemmas.Bool.Decides.{nat_tests}
use Rattle.mono_store.proofs.Numbers.{below}
use Rattle.mono_store.proofs.WordDigits.{monomial_cmp-powers_of_word}
use Rattle.geo_poly.proofs.word_keys.DigitsMonomialKeys.comes_before.Goals as goal

pub returns : goal.returns
returns c = λ h.
    let less : c.args.b < c.args.a = grind (arith, nat_tests, h) in
    monomial_cmp-powers_of_word c.args.self.now c.args.b c.args.a c.requires.right c.requires.left ∙ below c.args.b c.args.a less
