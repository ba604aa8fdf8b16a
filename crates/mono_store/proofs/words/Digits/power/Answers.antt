use Rattle.std.proofs.Common.{◌≡◌, ℕ, ◌*◌, ap, arith}
use Rattle.mono_store.proofs.WordDigits.{word-power-below}
use Rattle.mono_store.proofs.words.Digits.power.Goals as goal

pub overflow_mul-result : goal.overflow_mul-result
overflow_mul-result c =
    let unit : c.args.exp * c.digit.result.unit ≡ _ = ap (λ (u : ℕ). c.args.exp * u) c.digit.ensures.unit in
    omega (arith, unit, word-power-below c.args.self.now c.args.var c.args.exp c.requires.fits, c.digit.ensures.words)
