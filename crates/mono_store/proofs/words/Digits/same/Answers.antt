use Rattle.std.proofs.Common.{◌≡◌, true, rules, ap, subst, sym, ◌∙◌}
use Rattle.std.specs.Cmp.Lexicographic.{pointwise_decides}
use Rattle.mono_store.specs.contracts.words.DigitPartialEq.TheImpl.{eq-value}
use Rattle.mono_store.specs.declared.words.Digit.{Digit}
use Rattle.mono_store.specs.Words.{digit_limits}
use Rattle.mono_store.proofs.words.Digits.same.Goals as goal

equal : (x y : Digit) → (eq-value).it x y ≡ true → x ≡ y
equal x y = search rules

self : (x : Digit) → (eq-value).it x x ≡ true
self x = search rules

pub returns : goal.returns
returns c h =
    let both = pointwise_decides (λ x y. (equal x y, λ e. subst (λ (z : Digit). (eq-value).it x z ≡ true) e (self x)))
    c.self.inside.digits.items c.other.inside.digits.items in
    sym c.self.view_is ∙ ap digit_limits (both.0 (sym c.eq.ensures ∙ h)) ∙ c.other.view_is
