use Rattle.std.proofs.Common.{◌≡◌, map, refl, sym, ap, ◌∙◌, rules}
use Rattle.log_checker.proofs.SampleNames.{all_fit}
use Rattle.log_checker.proofs.sampling.test_sample.Goals as goal

pub returns-clause-accepted : goal.returns-clause-accepted
returns-clause-accepted c =
    let listed : c.deref.result.now ≡ c.args.values.now = search rules in
    let wanted : c.deref-2.result.now ≡ c.in_ok-variables.variables.items = search rules in
    record {
      variables = ap (λ vs. map (λ v. v.0) vs) (sym listed) ∙ c.if-not-are_variables_of.ensures.0 refl ∙ wanted ∙ c.in_ok-variables.ensures;
      fits = all_fit c.args.values.now c.requires;
      made = c.in_ok-values_hold_uncounted.ensures.made;
      nonzero = c.in_ok-values_hold_uncounted.ensures.hold.0 c.if-not-branch.false;
    }
