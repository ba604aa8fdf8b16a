use Rattle.std.proofs.Common.{ap, ◌∙◌}
use Rattle.geo_chain.proofs.Sampling.{at_free, at_made, kept, two_more}
use Rattle.geo_chain.proofs.sample_variables.push_coordinates.Goals as goal
use Rattle.geo_chain.proofs.sample_variables.push_coordinates.Goals.{in-Point+in_ok-push+in_ok-push-2, in_default}

pub loop-k-preserved : goal.loop-k-preserved
loop-k-preserved c =
    elim c.match-step.branch [
      | in-Point+in_ok-push+in_ok-push-2 w ↦
          two_more _ _ _ _ _ _ _ _ c.loop-k.invariant
          (at_free c.args.steps.now.steps c.loop-k.k c.step.result c.step.ensures w.in-Point.is) w.in_ok-push.ensures.items
          (ap (λ v. v.items) w.items-is ∙ w.in_ok-push-2.ensures.items)
      | in_default w ↦ kept _ _ _ _ _ c.loop-k.invariant
          (at_made c.args.steps.now.steps c.loop-k.k c.step.result c.step.ensures w.in_default.not-Point) (ap (λ v. v.items) w.items-is)
    ]
