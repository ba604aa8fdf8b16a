use Rattle.std.proofs.Common.{◌≡◌, ℕ, ◌/◌, ◌%◌, ◌∷◌, sym, subst}
use Rattle.mono_store.specs.Words.{powers_of_word}
use Rattle.mono_store.proofs.FirstPowers.{first-powers}
use Rattle.mono_store.proofs.words.Digits.first_power.Goals as goal

pub returns-clause-powers : goal.returns-clause-powers
returns-clause-powers c =
    let v = c.first_var-var.result in
    let w = c.args.word in
    subst (λ (e : ℕ). powers_of_word c.args.self.now w ≡ (v, e) ∷ powers_of_word c.args.self.now c.divided-exp.result.1) (sym c.divided-exp.ensures.times)
    (subst (λ (r : ℕ). powers_of_word c.args.self.now w ≡ (v, w / c.digit.result.unit) ∷ powers_of_word c.args.self.now r) (sym c.divided-exp.ensures.rest)
    (subst (λ (u : ℕ). powers_of_word c.args.self.now w ≡ (v, w / u) ∷ powers_of_word c.args.self.now (w % u)) (sym c.digit.ensures.unit)
    (first-powers c.args.self.now w v c.first_var-var.ensures.above c.first_var-var.ensures.here c.requires.within)))
