use Rattle.std.proofs.Common.{[], ◌∷◌, ◌++◌, sym, ap, ◌∙◌}
use Rattle.geo_logs.specs.Samples.{coordinates_from}
use Rattle.log_checker.proofs.SampleNames.{coordinates_more}
use Rattle.log_checker.proofs.sampling.coordinates.Goals as goal

pub loop-k-preserved : goal.loop-k-preserved
loop-k-preserved c =
    c.in_ok-push_coordinates.ensures
    ∙ ap (λ vs. vs ++ coordinates_from c.loop-k.k (c.step.result ∷ [])) c.loop-k.invariant
    ∙ sym (coordinates_more c.args.steps.now.steps c.loop-k.k c.step.result c.step.ensures)
