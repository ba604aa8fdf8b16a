use Rattle.std.proofs.Common.{◌≡◌, ap, subst, ◌∙◌}
use Rattle.std.specs.Prelude.{IfOk}
use Rattle.mono_store.specs.Words.{Limits, digit_limits}
use Rattle.mono_store.proofs.words.Digits.limits.Goals as goal

pub returns : goal.returns
returns c =
    subst (λ (ns : Limits). IfOk c.limits_of.result (λ limits. limits.items ≡ ns)) (ap digit_limits c.as_slice.ensures.value ∙ c.self.view_is)
    c.limits_of.ensures
